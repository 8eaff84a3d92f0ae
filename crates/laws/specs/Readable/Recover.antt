-- Recovery: lines that match a text give that text back, and a recovered text consists of characters. Assumes nothing.
use Rattle.std.specs.Prelude.{◌≡◌, refl, Bool, true, false, cond, List, [], ◌∷◌, ℕ, zero, suc, ◌+◌, ◌-◌, ◌≤◌, ◌<◌, ltb, leb, get_or}
use Rattle.std.proofs.Common.{sym, ◌∙◌, inl, inr, ext_get_or, le-leb, leb-true, lt-ltb, ltb-true}
use Rattle.std.proofs.Math.Path.{ap}
use Rattle.std.proofs.Math.Option.{Option, none, some}
use native.Mathlib.Omega.{arith}
use Rattle.std.proofs.Math.ListN.{length}
use Rattle.basics.specs.Bools.{and_put, and_left, and_right}
use Rattle.basics.specs.Member.{In, in_append_right}
use Rattle.spec.specs.Replaced.{is_full_width}
use Rattle.spec.specs.Dictionary.{Lexicon}
use Rattle.spec.specs.Words.{spells, Entry}
use Rattle.spec.specs.Numbers.{Line}
use Rattle.spec.specs.Index.{n_of, lines_in}
use Rattle.spec.specs.Reception.{lies_on, shown_by, or_shown, shown, char_or, recovered_from, recovered}
use Rattle.models.specs.Entries.{entries_at, flat}
use Rattle.laws.specs.Text.Facts.{Chars, Plain, LinesMatch}
use Rattle.laws.specs.Text.WidthFolding.{below_form}
use Rattle.laws.specs.Numbers.Flat.{posting, flat_get, flat_put}

pub lies_on_get : (a l p : ℕ) → lies_on a l p ≡ true → (a ≤ p) × (p < a + l)
unfolding lies_on
lies_on_get a l p t =
    (leb-true a p (and_left (leb a p) (ltb p (a + l)) t), ltb-true p (a + l) (and_right (leb a p) (ltb p (a + l)) t))

pub lies_on_put : (a l p : ℕ) → a ≤ p → p < a + l → lies_on a l p ≡ true
unfolding lies_on
lies_on_put a l p lo hi = and_put (le-leb a p lo) (lt-ltb p (a + l) hi)

-- THE CHARACTER AT A POSITION

none_some : (c : ℕ) → ◌≡◌ {A = Option ℕ} none (some c) → ⊥
none_some c t = let z : ◌≡◌ {A = ℕ} 0 1 = cc in omega arith

-- an entry over p that has the character c there
pub record ShownThere (lex : Lexicon) (ls : List Line) (p c : ℕ) (e : Entry) : Type 0 where
  pub among : In e (flat lex ls)
  pub from : e.at ≤ p
  pub to : p < e.at + length (spells lex e.key_of)
  pub char : c ≡ get_or (spells lex e.key_of) (p - e.at) 0

shown_by_get :
    (s ps : List ℕ) (p c : ℕ) → shown_by s ps p ≡ some c →
    (b : ℕ) × In b ps × (b ≤ p) × (p < b + length s) × (c ≡ get_or s (p - b) 0)
unfolding shown_by
shown_by_get s [] p c t = absurd (none_some c t)
shown_by_get s (b ∷ ps) p c t = by_test (lies_on b (length s) p) refl t (shown_by_get s ps p c)
  where
    Result : List ℕ → Type 0
    Result qs = (b : ℕ) × In b qs × (b ≤ p) × (p < b + length s) × (c ≡ get_or s (p - b) 0)

    by_test :
        (d : Bool) → lies_on b (length s) p ≡ d → cond d (some (get_or s (p - b) 0)) (shown_by s ps p) ≡ some c →
        (shown_by s ps p ≡ some c → Result ps) → Result (b ∷ ps)
    by_test true on t later = let h = lies_on_get b (length s) p on in (b, inl refl, h.0, h.1, cc)
    by_test false on t later = let h = later t in (h.0, inr h.1, h.2, h.3, h.4)

-- the character at p is that of an entry over p
pub shown_get :
    (lex : Lexicon) (ls : List Line) (p c : ℕ) → shown lex ls p ≡ some c → (e : Entry) × ShownThere lex ls p c e
unfolding shown or_shown flat
shown_get lex [] p c t = absurd (none_some c t)
shown_get lex (l ∷ ls) p c t = by_line (shown_by (spells lex l.key_of) l.positions p) refl t (shown_get lex ls p c)
  where
    by_line :
        (o : Option ℕ) → shown_by (spells lex l.key_of) l.positions p ≡ o → or_shown o (shown lex ls p) ≡ some c →
        (shown lex ls p ≡ some c → (e : Entry) × ShownThere lex ls p c e) → (e : Entry) × ShownThere lex (l ∷ ls) p c e
    by_line none on t later =
        let h = later t in (
          h.0,
          record {
            among = in_append_right h.0 (entries_at lex l.key_of l.positions) (flat lex ls) h.1.among;
            from = h.1.from;
            to = h.1.to;
            char = h.1.char;
          },
        )
    by_line (some d) on t later =
        let same : d ≡ c = cc in
        let h = shown_by_get (spells lex l.key_of) l.positions p d on in (
          posting lex l.key_of h.0,
          record {
            among = flat_put lex (l ∷ ls) l h.0 (inl refl) h.1;
            from = h.2;
            to = h.3;
            char = sym same ∙ h.4;
          },
        )

shown_by_put :
    (s ps : List ℕ) (p b : ℕ) → In b ps → b ≤ p → p < b + length s → (c : ℕ) × (shown_by s ps p ≡ some c)
unfolding shown_by
shown_by_put s [] p b m lo hi = absurd m
shown_by_put s (q ∷ ps) p b (inl e) lo hi =
    let on : lies_on q (length s) p ≡ true = lies_on_put q (length s) p (omega arith) (omega arith) in (get_or s (p - q) 0, rw on)
shown_by_put s (q ∷ ps) p b (inr m) lo hi = by_test (lies_on q (length s) p) (shown_by_put s ps p b m lo hi)
  where
    by_test :
        (d : Bool) → (c : ℕ) × (shown_by s ps p ≡ some c) →
        (c : ℕ) × (cond d (some (get_or s (p - q) 0)) (shown_by s ps p) ≡ some c)
    by_test true later = (get_or s (p - q) 0, refl)
    by_test false later = later

shown_line_put :
    (lex : Lexicon) (ls : List Line) (l : Line) (p : ℕ) → In l ls →
    ((c : ℕ) × (shown_by (spells lex l.key_of) l.positions p ≡ some c)) → (c : ℕ) × (shown lex ls p ≡ some c)
unfolding shown or_shown
shown_line_put lex [] l p m h = absurd m
shown_line_put lex (k ∷ ls) l p (inl e) h =
    let here : shown_by (spells lex k.key_of) k.positions p ≡ some h.0 = rw (← e) h.1 in
    (h.0, rw here)
shown_line_put lex (k ∷ ls) l p (inr m) h =
    first (shown_by (spells lex k.key_of) k.positions p) (shown_line_put lex ls l p m h)
  where
    first : (o : Option ℕ) → (c : ℕ) × (shown lex ls p ≡ some c) → (c : ℕ) × (or_shown o (shown lex ls p) ≡ some c)
    first none later = later
    first (some d) later = (d, refl)

-- if an entry lies over p, there is a character at p
pub shown_put :
    (lex : Lexicon) (ls : List Line) (p : ℕ) (e : Entry) → In e (flat lex ls) → e.at ≤ p → p < e.at + e.len →
    (c : ℕ) × (shown lex ls p ≡ some c)
shown_put lex ls p e m lo hi =
    let h = flat_get lex ls e m in
    let len : e.len ≡ length (spells lex h.0.key_of) = ap (λ (f : Entry). f.len) h.3 in
    shown_line_put lex ls h.0 p h.1
    (shown_by_put (spells lex h.0.key_of) h.0.positions p e.at h.2 lo (omega arith))

-- THE RECOVERED TEXT

-- a property of every number of a list, as `Chars` and `Plain` are
abbrev Each : (P : ℕ → Type 0) → List ℕ → Type 0
Each P xs = (i : ℕ) → i < length xs → P (get_or xs i 0)

pub length_recovered_from : (n p : ℕ) (lex : Lexicon) (ls : List Line) → length (recovered_from n p lex ls) ≡ n
unfolding recovered_from
length_recovered_from zero p lex ls = refl
length_recovered_from (suc n) p lex ls = ap suc (length_recovered_from n (suc p) lex ls)

pub length_recovered : (lex : Lexicon) (xs : List ℕ) → length (recovered lex xs) ≡ n_of xs
unfolding recovered
length_recovered lex xs = length_recovered_from (n_of xs) 1 lex (lines_in xs)

pub getD_recovered_from :
    (n p : ℕ) (lex : Lexicon) (ls : List Line) (i : ℕ) → i < n →
    get_or (recovered_from n p lex ls) i 0 ≡ char_or (shown lex ls (p + i))
unfolding recovered_from
getD_recovered_from zero p lex ls i h = absurd (omega arith)
getD_recovered_from (suc n) p lex ls zero h = let z : p + 0 ≡ p = omega arith in rw z
getD_recovered_from (suc n) p lex ls (suc i) h =
    let z : p + suc i ≡ suc p + i = omega arith in rw z (getD_recovered_from n (suc p) lex ls i (omega arith))

-- what holds for 0 and for each character of a key's string holds for each recovered character: it is one of them, or 0 where no entry
-- lies
module _ (P : ℕ → Type 0) (zero_too : P 0) where
  recovered_from_each :
      (n p : ℕ) (lex : Lexicon) (ls : List Line) → ((l : Line) → In l ls → Each P (spells lex l.key_of)) →
      Each P (recovered_from n p lex ls)
  unfolding char_or
  recovered_from_each n p lex ls each i h =
      let below : i < n = omega (arith, length_recovered_from n p lex ls) in
      rw (getD_recovered_from n p lex ls i below) (of_shown (shown lex ls (p + i)) refl)
    where
      of_shown : (o : Option ℕ) → shown lex ls (p + i) ≡ o → P (char_or o)
      of_shown none t = zero_too
      of_shown (some c) t =
          let e = shown_get lex ls (p + i) c t in
          let line = flat_get lex ls e.0 e.1.among in
          let key : e.0.key_of ≡ line.0.key_of = ap (λ (f : Entry). f.key_of) line.3 in
          let at : (p + i) - e.0.at < length (spells lex e.0.key_of) = omega arith in
          rw e.1.char (rw key (each line.0 line.1 ((p + i) - e.0.at) (rw key at at)))

  pub recovered_each :
      (lex : Lexicon) (xs : List ℕ) → ((l : Line) → In l (lines_in xs) → Each P (spells lex l.key_of)) → Each P (recovered lex xs)
  unfolding recovered
  recovered_each lex xs = recovered_from_each (n_of xs) 1 lex (lines_in xs)

pub recovered_is_chars :
    (lex : Lexicon) (xs : List ℕ) → ((l : Line) → In l (lines_in xs) → Chars (spells lex l.key_of)) → Chars (recovered lex xs)
recovered_is_chars = recovered_each (λ (c : ℕ). c < 65536) (omega arith)

pub recovered_is_plain :
    (lex : Lexicon) (xs : List ℕ) → ((l : Line) → In l (lines_in xs) → Plain (spells lex l.key_of)) → Plain (recovered lex xs)
recovered_is_plain = recovered_each (λ (c : ℕ). is_full_width c ≡ false) (below_form 0 (omega arith))

-- the first entry over p has the text's character there
pub shown_text :
    {lex : Lexicon} {ls : List Line} {ts : List ℕ} → LinesMatch lex ls ts → (p : ℕ) → 1 ≤ p → p ≤ length ts →
    shown lex ls p ≡ some (get_or ts (p - 1) 0)
shown_text {lex} {ls} {ts} show p lo hi =
    let over = show.cover p lo hi in
    let c = shown_put lex ls p over.0 over.1 over.2 over.3 in
    from_shown c.0 c.1
  where
    from_shown : (c : ℕ) → shown lex ls p ≡ some c → shown lex ls p ≡ some (get_or ts (p - 1) 0)
    from_shown c t =
        let e = shown_get lex ls p c t in
        t ∙ ap some (e.1.char ∙ (show.stand e.0 e.1.among).equal p e.1.from e.1.to)

-- Lines that match a text give it back.
pub recovered_match : (lex : Lexicon) (ls : List Line) (ts : List ℕ) → LinesMatch lex ls ts → recovered_from (length ts) 1 lex ls ≡ ts
unfolding char_or
recovered_match lex ls ts show =
    ext_get_or 0 (recovered_from (length ts) 1 lex ls) ts (length_recovered_from (length ts) 1 lex ls)
    (λ i h. each i (omega (arith, length_recovered_from (length ts) 1 lex ls)))
  where
    each : (i : ℕ) → i < length ts → get_or (recovered_from (length ts) 1 lex ls) i 0 ≡ get_or ts i 0
    each i h =
        let back : (1 + i) - 1 ≡ i = omega arith in
        getD_recovered_from (length ts) 1 lex ls i h
        ∙ ap char_or (shown_text show (1 + i) (omega arith) (omega arith))
        ∙ ap (λ (j : ℕ). get_or ts j 0) back

pub recovered_text :
    {lex : Lexicon} (xs : List ℕ) {ts : List ℕ} → LinesMatch lex (lines_in xs) ts → n_of xs ≡ length ts → recovered lex xs ≡ ts
unfolding recovered
recovered_text {lex} xs {ts} show len = rw len (recovered_match lex (lines_in xs) ts show)
