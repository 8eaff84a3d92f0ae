-- Flags for the lines whose keys bear on a string, and the flags that one offset of 0 or above sets. Assumes nothing.
use Rattle.std.specs.Prelude.{◌≡◌, refl, Bool, true, false, cond, ◌⊎◌, List, [], ◌∷◌, ◌++◌}
use Rattle.std.specs.Prelude.{ℕ, ◌+◌, ◌≤◌, ◌<◌, eqb, length, get_or, take, set, replicate}
use Rattle.std.proofs.Common.{ap, ◌∙◌, inl, inr, ⊎_elim, add-one, arith, length-set, take-suc, get_or-set_same, get_or-set_other, eqb-true}
use Rattle.std.proofs.lemmas.List.{get_or-replicate}
use Rattle.std.proofs.lemmas.Bool.{eqb-false}
use Rattle.basics.specs.Bools.{clash, le_or_lt}
use Rattle.basics.specs.Member.{In, in_getD, in_append_get, in_append_left, in_append_right}
use Rattle.spec.specs.Dictionary.{Lexicon}
use Rattle.spec.specs.Words.{spells}
use Rattle.spec.specs.Index.{keys_of, key_at}
use Rattle.spec.specs.Search.{agrees}
use Rattle.laws.specs.Search.Agree.{agrees_get}
use Rattle.laws.specs.Window.AgreeingLines.{AgreeingListed, AgreeingFound, listed_agrees, agrees_listed}
use Rattle.laws.specs.Window.LineRanges.{OnlyLine}
use Rattle.laws.specs.Cut.Bears.{bears_put}
use Rattle.laws.specs.Cut.ExactFlags.{bears_at}

-- A RUN OF FLAGS

-- flags `from` to `to` - 1 are 1, the others unchanged
pub record Ones (from to : ℕ) (old fs : List ℕ) : Type 0 where
  pub order : from ≤ to
  pub len : length fs ≡ length old
  pub inside : (i : ℕ) → from ≤ i → i < to → get_or fs i 0 ≡ 1
  pub outside : (i : ℕ) → (i < from) ⊎ (to ≤ i) → get_or fs i 0 ≡ get_or old i 0

pub ones_none : (from : ℕ) (fs : List ℕ) → Ones from from fs fs
ones_none from fs =
    record { order = omega arith; len = refl; inside = λ i a b. absurd (omega arith); outside = λ i e. refl }

pub ones_next : {from to : ℕ} {old fs : List ℕ} → Ones from to old fs → to < length fs → Ones from (to + 1) old (set fs to 1)
ones_next {from} {to} {fs} h room =
    record {
      order = omega arith;
      len = length-set fs to 1 ∙ h.len;
      inside =
          λ i a b.
          ⊎_elim (λ (p : to ≤ i). let e : i ≡ to = omega arith in rw e (get_or-set_same fs to 1 0 room))
          (λ (p : i < to). get_or-set_other fs to i 1 0 (λ e. omega arith) ∙ h.inside i a p) (le_or_lt to i);
      outside =
          λ i e.
          ⊎_elim
          (λ (p : i < from). get_or-set_other fs to i 1 0 (λ z. omega arith) ∙ h.outside i (inl p))
          (λ (p : to + 1 ≤ i). get_or-set_other fs to i 1 0 (λ z. omega arith) ∙ h.outside i (inr (omega arith))) e;
    }

pub ones_one : (i : ℕ) (fs : List ℕ) → i < length fs → Ones i (i + 1) fs (set fs i 1)
ones_one i fs room = ones_next (ones_none i fs) room

-- FLAGS OF LISTED LINES

-- every number of a list is below n
abbrev pub AllBelow : (is : List ℕ) → (n : ℕ) → Type 0
AllBelow is n = (j : ℕ) → j < length is → get_or is j 0 < n

-- the flags of the listed lines are 1, the others unchanged
pub record OnesAt (is old fs : List ℕ) : Type 0 where
  pub len : length fs ≡ length old
  pub listed : (i : ℕ) → In i is → get_or fs i 0 ≡ 1
  pub others : (i : ℕ) → In i is ⊎ (get_or fs i 0 ≡ get_or old i 0)

pub ones_at_none : (fs : List ℕ) → OnesAt [] fs fs
ones_at_none fs = record { len = refl; listed = λ i m. absurd m; others = λ i. inr refl }

-- one more line is flagged
pub ones_at_more : {is old fs : List ℕ} → OnesAt is old fs → (n : ℕ) → n < length fs → OnesAt (is ++ n ∷ []) old (set fs n 1)
ones_at_more {is} {old} {fs} h n room =
    record {
      len = length-set fs n 1 ∙ h.len;
      listed =
          λ i m.
          ⊎_elim (λ (p : In i is). now i (eqb i n) refl (h.listed i p))
          (λ (p : In i (n ∷ [])). ⊎_elim (λ (e : i ≡ n). rw e same) (λ z. absurd z) p) (in_append_get i is (n ∷ []) m);
      others =
          λ i.
          ⊎_elim (λ (p : In i is). inl (in_append_left i is (n ∷ []) p))
          (λ (p : get_or fs i 0 ≡ get_or old i 0). there i (eqb i n) refl p) (h.others i);
    }
  where
    same : get_or (set fs n 1) n 0 ≡ 1
    same = get_or-set_same fs n 1 0 room

    now : (i : ℕ) (b : Bool) → eqb i n ≡ b → get_or fs i 0 ≡ 1 → get_or (set fs n 1) i 0 ≡ 1
    now i true t one = let e : i ≡ n = eqb-true i n t in rw e same
    now i false t one = get_or-set_other fs n i 1 0 (eqb-false i n t) ∙ one

    there :
        (i : ℕ) (b : Bool) → eqb i n ≡ b → get_or fs i 0 ≡ get_or old i 0 → In i (is ++ n ∷ []) ⊎ (get_or (set fs n 1) i 0 ≡ get_or old i 0)
    there i true t kept = inl (in_append_right i is (n ∷ []) (inl (eqb-true i n t)))
    there i false t kept = inr (get_or-set_other fs n i 1 0 (eqb-false i n t) ∙ kept)

-- the next line of a list is flagged
pub ones_at_next :
    (is : List ℕ) {old fs : List ℕ} (j : ℕ) → OnesAt (take j is) old fs → j < length is → get_or is j 0 < length fs →
    OnesAt (take (j + 1) is) old (set fs (get_or is j 0) 1)
ones_at_next is j h below room =
    let more : take (j + 1) is ≡ take j is ++ get_or is j 0 ∷ [] = rw (add-one j) (take-suc is j 0 below) in
    rw more (ones_at_more h (get_or is j 0) room)

-- a run of lines is a list of lines
pub ones_run : {from to : ℕ} {old fs : List ℕ} → Ones from to old fs → (i : ℕ) → ((from ≤ i) × (i < to)) ⊎ (get_or fs i 0 ≡ get_or old i 0)
ones_run {from} {to} h i =
    ⊎_elim
    (λ (p : from ≤ i). ⊎_elim (λ (q : to ≤ i). inr (h.outside i (inr q))) (λ (q : i < to). inl (p, q)) (le_or_lt to i))
    (λ (p : i < from). inr (h.outside i (inl p))) (le_or_lt from i)

module _ (lex : Lexicon) (xs s : List ℕ) where
  -- a flag is 0 or 1, and is 1 only if the key bears on the string
  pub record Flags (fs : List ℕ) : Type 0 where
    pub room : keys_of xs ≤ length fs
    pub sound : (i : ℕ) → i < keys_of xs → get_or fs i 0 ≤ cond (bears_at lex xs s i) 1 0

  -- `fs` is a later state of `old`: no flag is cleared
  pub record Flagging (old fs : List ℕ) : Type 0 where
    pub flags : Flags fs
    pub len : length fs ≡ length old
    pub kept : (i : ℕ) → i < keys_of xs → get_or old i 0 ≤ get_or fs i 0

  -- of the lines a to b − 1, those whose keys, laid at q, agree with the string laid at p are flagged
  abbrev pub Flagged : (p q a b : ℕ) (fs : List ℕ) → Type 0
  Flagged p q a b fs = (i : ℕ) → a ≤ i → i < b → agrees s p (spells lex (key_at xs i)) q ≡ true → 1 ≤ get_or fs i 0

  -- `fs` is a later state of `old`, in which of the lines a to b − 1 those that agree at the offset o are flagged
  pub record OffsetFlagged (o a b : ℕ) (old fs : List ℕ) : Type 0 where
    pub way : Flagging old fs
    pub done : Flagged 0 o a b fs

  -- a key that agrees at some offset bears
  pub agrees_bears_at : (p q i : ℕ) → agrees s p (spells lex (key_at xs i)) q ≡ true → bears_at lex xs s i ≡ true
  agrees_bears_at p q i t = bears_put (spells lex (key_at xs i)) s (agrees_get s p (spells lex (key_at xs i)) q t)

module _ {lex : Lexicon} {xs s : List ℕ} where
  pub flags_none : {fs : List ℕ} → fs ≡ replicate (length fs) 0 → keys_of xs ≤ length fs → Flags lex xs s fs
  flags_none {fs} clear room =
      record {
        room = room;
        sound = λ i b. omega (arith, ap (λ (l : List ℕ). get_or l i 0) clear, get_or-replicate {A = ℕ} (length fs) i 0 0 (omega arith));
      }

  pub flagging_start : {fs : List ℕ} → Flags lex xs s fs → Flagging lex xs s fs fs
  flagging_start h = record { flags = h; len = refl; kept = λ i b. omega arith }

  pub flagging_on : {old mid fs : List ℕ} → Flagging lex xs s old mid → Flagging lex xs s mid fs → Flagging lex xs s old fs
  flagging_on h g =
      record { flags = g.flags; len = g.len ∙ h.len; kept = λ i b. omega (arith, h.kept i b, g.kept i b) }

  pub flagged_kept :
      (p q a b : ℕ) {old fs : List ℕ} → Flagging lex xs s old fs → b ≤ keys_of xs → Flagged lex xs s p q a b old →
      Flagged lex xs s p q a b fs
  flagged_kept p q a b h within done i l r t = omega (arith, done i l r t, h.kept i (omega arith))

  -- setting flags of bearing lines
  pub flagging_set :
      {fs now : List ℕ} → Flags lex xs s fs → length now ≡ length fs →
      ((i : ℕ) → i < keys_of xs → ((get_or now i 0 ≡ 1) × (bears_at lex xs s i ≡ true)) ⊎ (get_or now i 0 ≡ get_or fs i 0)) →
      Flagging lex xs s fs now
  flagging_set {fs} {now} h len at =
      record { flags = record { room = omega arith; sound = λ i b. sound i b }; len = len; kept = λ i b. kept i b }
    where
      few : (i : ℕ) → i < keys_of xs → get_or fs i 0 ≤ 1
      few i b = by_test (bears_at lex xs s i) (h.sound i b)
        where
          by_test : (t : Bool) → get_or fs i 0 ≤ cond t 1 0 → get_or fs i 0 ≤ 1
          by_test true l = l
          by_test false l = omega arith

      sound : (i : ℕ) → i < keys_of xs → get_or now i 0 ≤ cond (bears_at lex xs s i) 1 0
      sound i b =
          ⊎_elim (λ (p : (get_or now i 0 ≡ 1) × (bears_at lex xs s i ≡ true)). rw p.1 (omega arith))
          (λ (p : get_or now i 0 ≡ get_or fs i 0). omega (arith, h.sound i b)) (at i b)

      kept : (i : ℕ) → i < keys_of xs → get_or fs i 0 ≤ get_or now i 0
      kept i b =
          ⊎_elim (λ (p : (get_or now i 0 ≡ 1) × (bears_at lex xs s i ≡ true)). omega (arith, few i b))
          (λ (p : get_or now i 0 ≡ get_or fs i 0). omega arith) (at i b)

  pub flagging_ones :
      {from to : ℕ} {fs now : List ℕ} → Flags lex xs s fs → Ones from to fs now →
      ((i : ℕ) → from ≤ i → i < to → bears_at lex xs s i ≡ true) →
      Flagging lex xs s fs now
  flagging_ones {from} {to} {fs} {now} h ones bear =
      flagging_set h ones.len
      (λ i b.
      ⊎_elim (λ (p : (from ≤ i) × (i < to)). inl (ones.inside i p.0 p.1, bear i p.0 p.1))
      (λ (p : get_or now i 0 ≡ get_or fs i 0). inr p) (ones_run ones i))

  pub flagging_list :
      {is fs now : List ℕ} → Flags lex xs s fs → OnesAt is fs now → ((i : ℕ) → In i is → bears_at lex xs s i ≡ true) →
      Flagging lex xs s fs now
  flagging_list {is} {fs} {now} h ones bear =
      flagging_set h ones.len
      (λ i b.
      ⊎_elim (λ (p : In i is). inl (ones.listed i p, bear i p)) (λ (p : get_or now i 0 ≡ get_or fs i 0). inr p) (ones.others i))

  -- ONE OFFSET

  pub agreeing_below :
      {o w : ℕ} {lines : List ℕ} {count from to : ℕ} → AgreeingListed o lex xs s w lines count from to → {n : ℕ} → w ≤ n →
      AllBelow (take count lines) n
  agreeing_below {o} {lines} {count} h within j b =
      omega (arith, (listed_agrees h (get_or (take count lines) j 0) (in_getD (take count lines) j 0 b)).0)

  -- the words that agree: those listed, then a range
  pub flagged_words :
      {o w : ℕ} {lines : List ℕ} {count from to : ℕ} → AgreeingFound o lex xs s w lines count from to → w ≤ keys_of xs →
      {fs mid now : List ℕ} → Flags lex xs s fs → OnesAt (take count lines) fs mid → Ones from to mid now →
      OffsetFlagged lex xs s o 0 w fs now
  flagged_words {o} {w} {lines} {count} {from} {to} found within {fs} {mid} {now} flags listed range =
      record {
        way = flagging_on first second;
        done =
            λ i a b t.
            ⊎_elim (λ (p : In i (take count lines)). omega (arith, listed.listed i p, second.kept i (omega arith)))
            (λ (p : (from ≤ i) × (i < to)). omega (arith, range.inside i p.0 p.1)) (agrees_listed found.listed i b t);
      }
    where
      first : Flagging lex xs s fs mid
      first = flagging_list flags listed (λ i m. agrees_bears_at lex xs s 0 o i (listed_agrees found.listed i m).1)

      second : Flagging lex xs s mid now
      second = flagging_ones first.flags range (λ i a b. agrees_bears_at lex xs s 0 o i (found.range i a b))

  -- of the lines a to b − 1 only r agrees, or none does
  module _ {o a b : ℕ} {fs : List ℕ} (h : Flags lex xs s fs) where
    pub flagged_one :
        (r : ℕ) → r < keys_of xs → agrees s 0 (spells lex (key_at xs r)) o ≡ true →
        OnlyLine lex xs s o a b r → OffsetFlagged lex xs s o a b fs (set fs r 1)
    flagged_one r below agree others =
        record {
          way =
              flagging_ones h one (λ i x y. let e : i ≡ r = omega arith in ap (bears_at lex xs s) e ∙ agrees_bears_at lex xs s 0 o r agree);
          done = λ i x y t. at i x y t (eqb i r) refl;
        }
      where
        one : Ones r (r + 1) fs (set fs r 1)
        one = ones_one r fs (omega arith)

        at :
            (i : ℕ) → a ≤ i → i < b → agrees s 0 (spells lex (key_at xs i)) o ≡ true → (d : Bool) → eqb i r ≡ d →
            1 ≤ get_or (set fs r 1) i 0
        at i x y t true d = let e : i ≡ r = eqb-true i r d in omega (arith, one.inside i (omega arith) (omega arith))
        at i x y t false d = clash t (others i x y (eqb-false i r d))

    pub flagged_none :
        ((i : ℕ) → a ≤ i → i < b → agrees s 0 (spells lex (key_at xs i)) o ≡ false) → OffsetFlagged lex xs s o a b fs fs
    flagged_none none = record { way = flagging_start h; done = λ i x y t. clash t (none i x y) }

  -- the words' lines, then the lone characters'
  pub flagged_both :
      {o w : ℕ} {old mid fs : List ℕ} → w ≤ keys_of xs → OffsetFlagged lex xs s o 0 w old mid →
      OffsetFlagged lex xs s o w (keys_of xs) mid fs → OffsetFlagged lex xs s o 0 (keys_of xs) old fs
  flagged_both {o} {w} within words lone =
      record {
        way = flagging_on words.way lone.way;
        done =
            λ i a b t.
            ⊎_elim (λ (p : w ≤ i). lone.done i p b t)
            (λ (p : i < w). flagged_kept 0 o 0 w lone.way within words.done i a p t) (le_or_lt w i);
      }
