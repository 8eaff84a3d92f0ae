-- Lines and entries: good lines are rebuilt from their entries, and strictly ascending entries from their lines. Assumes nothing.
use Rattle.std.specs.Prelude.{◌≡◌, true, false, ◌⊎◌, ℕ, suc, ◌≤◌, ◌<◌, get_or}
use Rattle.std.proofs.Math.Path.{refl}
use Rattle.std.proofs.Common.{sym, ap, ◌∙◌, inl, inr, ⊎_elim}
use mathlib.Core.List.{List, [], ◌∷◌, ◌++◌}
use native.Mathlib.Omega.{arith}
use Rattle.std.proofs.Math.ListN.{length}
use Rattle.basics.specs.Bools.{clash}
use Rattle.basics.specs.Member.{In, in_getD, all_cons}
use Rattle.basics.specs.Order.{Ascend, ascend_unique}
use Rattle.spec.specs.Dictionary.{Lexicon}
use Rattle.spec.specs.Words.{Key, spells, Entry, entry}
use Rattle.spec.specs.Numbers.{key_before, entry_before, Line, line, with_entry, lines_of}
use Rattle.models.specs.Entries.{entries_at, flat}
use Rattle.laws.specs.Text.Facts.{entry_eq, SoundEntry, Sound, Rise, GoodLine, KeysRise, GoodLines}
use Rattle.laws.specs.Numbers.KeyOrder.{key_before_strict, key_before_total, key_before_not_itself, EntryBefore, entry_before_get}
use Rattle.laws.specs.Numbers.KeyOrder.{entry_before_strict}
use Rattle.laws.specs.Numbers.Flat.{posting, flat_get, flat_put}
use Rattle.laws.specs.Numbers.FlatOrder.{rise_least, rise_more, flat_ascends}

-- ONE ENTRY IN FRONT

with_entry_new :
    (e : Entry) (ls : List Line) → ((m : Line) → In m ls → key_before e.key_of m.key_of ≡ true) →
    with_entry e ls ≡ line e.key_of (e.at ∷ []) ∷ ls
unfolding with_entry
with_entry_new e [] h = refl
with_entry_new e (l ∷ ls) h = rw (h l (inl refl))

with_entry_same :
    (e : Entry) (l : Line) (ls : List Line) → e.key_of ≡ l.key_of →
    with_entry e (l ∷ ls) ≡ line l.key_of (e.at ∷ l.positions) ∷ ls
unfolding with_entry
with_entry_same e l ls k =
    let equal : key_before e.key_of l.key_of ≡ false = rw k (key_before_not_itself l.key_of) in
    rw equal

-- LINES TO ENTRIES AND BACK

lines_of_entries_at :
    (lex : Lexicon) (k : Key) (p : ℕ) (ps : List ℕ) (es : List Entry) (ls : List Line) → lines_of es ≡ ls →
    ((m : Line) → In m ls → key_before k m.key_of ≡ true) → lines_of (entries_at lex k (p ∷ ps) ++ es) ≡ line k (p ∷ ps) ∷ ls
unfolding lines_of entries_at entry line
lines_of_entries_at lex k p [] es ls e h = rw e (with_entry_new (posting lex k p) ls h)
lines_of_entries_at lex k p (q ∷ ps) es ls e h =
    rw (lines_of_entries_at lex k q ps es ls e h) (with_entry_same (posting lex k p) (line k (q ∷ ps)) ls refl)

pub lines_of_flat :
    (lex : Lexicon) (ls : List Line) → ((l : Line) → In l ls → 1 ≤ length l.positions) → KeysRise ls →
    lines_of (flat lex ls) ≡ ls
unfolding lines_of flat line
lines_of_flat lex [] some order = refl
lines_of_flat lex (l ∷ ls) some order =
    go l.positions (some l (inl refl)) (lines_of_flat lex ls (λ m k. some m (inr k)) order.1)
  where
    go :
        (ps : List ℕ) → 1 ≤ length ps → lines_of (flat lex ls) ≡ ls →
        lines_of (entries_at lex l.key_of ps ++ flat lex ls) ≡ line l.key_of ps ∷ ls
    go [] h ih = absurd (omega arith)
    go (p ∷ ps) h ih = lines_of_entries_at lex l.key_of p ps (flat lex ls) ls ih order.0

-- ENTRIES TO LINES AND BACK

-- lines made from a list of entries
pub record LinesMade (lex : Lexicon) (es : List Entry) (ls : List Line) : Type 0 where
  pub flat_is : flat lex ls ≡ es
  pub some : (l : Line) → In l ls → 1 ≤ length l.positions
  pub rise : (l : Line) → In l ls → Rise 0 l.positions
  pub order : KeysRise ls

-- an entry's length is that of the string its key spells
abbrev pub Measured : Lexicon → List Entry → Type 0
Measured lex es = (e : Entry) → In e es → e.len ≡ length (spells lex e.key_of)

-- e is before all of es
module _ {lex : Lexicon} (e : Entry) {es : List Entry} (len : e.len ≡ length (spells lex e.key_of))
    (before : (f : Entry) → In f es → entry_before e f ≡ true) where
  made_new :
      {ls : List Line} → LinesMade lex es ls → ((m : Line) → In m ls → key_before e.key_of m.key_of ≡ true) →
      LinesMade lex (e ∷ es) (line e.key_of (e.at ∷ []) ∷ ls)
  unfolding flat entries_at line entry
  made_new {ls} made h =
      record {
        flat_is = rw (← len, made.flat_is);
        some = all_cons (λ (l : Line). 1 ≤ length l.positions) (line e.key_of (e.at ∷ [])) ls (omega arith) made.some;
        rise = all_cons (λ (l : Line). Rise 0 l.positions) (line e.key_of (e.at ∷ [])) ls (omega arith, tt) made.rise;
        order = (h, made.order);
      }

  first_after :
      {l : Line} {ls : List Line} → LinesMade lex es (l ∷ ls) → (q : ℕ) → In q l.positions →
      EntryBefore e (posting lex l.key_of q)
  first_after {l} {ls} made q m =
      entry_before_get e (posting lex l.key_of q)
      (before (posting lex l.key_of q) (rw made.flat_is at (flat_put lex (l ∷ ls) l q (inl refl) m)))

  made_same :
      {l : Line} {ls : List Line} → LinesMade lex es (l ∷ ls) → e.key_of ≡ l.key_of →
      LinesMade lex (e ∷ es) (line l.key_of (e.at ∷ l.positions) ∷ ls)
  unfolding flat entries_at line entry
  made_same {l} {ls} made k =
      record {
        flat_is = rw (← made.flat_is) (ap (λ (f : Entry). f ∷ flat lex (l ∷ ls)) first);
        some =
            all_cons (λ (m : Line). 1 ≤ length m.positions) (line l.key_of (e.at ∷ l.positions)) ls (omega arith)
            (λ m i. made.some m (inr i));
        rise =
            all_cons (λ (m : Line). Rise 0 m.positions) (line l.key_of (e.at ∷ l.positions)) ls (
              omega arith,
              rise_more 0 (suc e.at) l.positions (made.rise l (inl refl)) (λ q m. later q (first_after made q m)),
            )
            (λ m i. made.rise m (inr i));
        order = made.order;
      }
    where
      first : posting lex l.key_of e.at ≡ e
      first = entry_eq (posting lex l.key_of e.at) e (sym k) refl (rw (← k) (sym len))

      later : (q : ℕ) → EntryBefore e (posting lex l.key_of q) → suc e.at ≤ q
      later q (inl t) = clash t (rw k (key_before_not_itself l.key_of))
      later q (inr h) = h.1

  made_with : (ls : List Line) → LinesMade lex es ls → LinesMade lex (e ∷ es) (with_entry e ls)
  unfolding entry
  made_with [] made = rw (with_entry_new e [] (λ m k. absurd k)) (made_new made (λ m k. absurd k))
  made_with (l ∷ ls) made = go (key_before_total e.key_of l.key_of)
    where
      first : EntryBefore e (posting lex l.key_of (get_or l.positions 0 0))
      first = first_after made (get_or l.positions 0 0) (in_getD l.positions 0 0 (made.some l (inl refl)))

      after : key_before e.key_of l.key_of ≡ true → (m : Line) → In m (l ∷ ls) → key_before e.key_of m.key_of ≡ true
      after t =
          all_cons (λ (m : Line). key_before e.key_of m.key_of ≡ true) l ls t
          (λ m i. key_before_strict.transitive e.key_of l.key_of m.key_of t (made.order.0 m i))

      new : key_before e.key_of l.key_of ≡ true → LinesMade lex (e ∷ es) (with_entry e (l ∷ ls))
      new t = rw (with_entry_new e (l ∷ ls) (after t)) (made_new made (after t))

      same : e.key_of ≡ l.key_of → LinesMade lex (e ∷ es) (with_entry e (l ∷ ls))
      same k = rw (with_entry_same e l ls k) (made_same made k)

      go :
          (key_before e.key_of l.key_of ≡ true) ⊎ ((key_before l.key_of e.key_of ≡ true) ⊎ (e.key_of ≡ l.key_of)) →
          LinesMade lex (e ∷ es) (with_entry e (l ∷ ls))
      go (inl t) = new t
      go (inr (inl t)) =
          ⊎_elim (λ (b : key_before e.key_of l.key_of ≡ true). new b)
          (λ (h : (e.key_of ≡ l.key_of) × (e.at < get_or l.positions 0 0)). same h.0) first
      go (inr (inr k)) = same k

pub lines_of_made : (lex : Lexicon) (es : List Entry) → Ascend entry_before es → Measured lex es → LinesMade lex es (lines_of es)
unfolding lines_of flat
lines_of_made lex [] p len = record { flat_is = refl; some = λ l m. absurd m; rise = λ l m. absurd m; order = tt }
lines_of_made lex (e ∷ es) p len =
    made_with e (len e (inl refl)) p.0 (lines_of es) (lines_of_made lex es p.1 (λ f m. len f (inr m)))

pub flat_lines_of : (lex : Lexicon) (es : List Entry) → Ascend entry_before es → Measured lex es → flat lex (lines_of es) ≡ es
flat_lines_of lex es p len = (lines_of_made lex es p len).flat_is

-- GOOD LINES

pub good_flat_ascends : (lex : Lexicon) (n : ℕ) (ls : List Line) → GoodLines lex n ls → Ascend entry_before (flat lex ls)
good_flat_ascends lex n ls good = flat_ascends lex ls (λ l m. (good.each l m).rise) good.order

pub good_lines_of_flat : {lex : Lexicon} {n : ℕ} {ls : List Line} → GoodLines lex n ls → lines_of (flat lex ls) ≡ ls
good_lines_of_flat {lex} {ls} good = lines_of_flat lex ls (λ l m. (good.each l m).some) good.order

pub lines_of_good :
    (lex : Lexicon) (n : ℕ) (es : List Entry) → Ascend entry_before es → Sound lex n es → GoodLines lex n (lines_of es)
unfolding entry
lines_of_good lex n es p sound = record { each = λ l m. good l m; order = made.order }
  where
    made : LinesMade lex es (lines_of es)
    made = lines_of_made lex es p (λ e m. (sound e m).len_is)

    good : (l : Line) → In l (lines_of es) → GoodLine lex n l
    good l m =
        record {
          is_key = (of (get_or l.positions 0 0) (in_getD l.positions 0 0 (made.some l m))).is_key;
          some = made.some l m;
          rise = rise_more 0 1 l.positions (made.rise l m) (λ q i. (of q i).from);
          fits = λ q i. (of q i).within;
        }
      where
        of : (q : ℕ) → In q l.positions → SoundEntry lex n (posting lex l.key_of q)
        of q i = sound (posting lex l.key_of q) (rw made.flat_is at (flat_put lex (lines_of es) l q m i))

-- the entries of good lines are sound
pub good_flat_sound : (lex : Lexicon) (n : ℕ) (ls : List Line) → GoodLines lex n ls → Sound lex n (flat lex ls)
unfolding entry
good_flat_sound lex n ls good e m = let r = flat_get lex ls e m in go r.0 e.at r.1 r.2 r.3
  where
    go : (l : Line) (p : ℕ) → In l ls → In p l.positions → e ≡ posting lex l.key_of p → SoundEntry lex n e
    go l p i k q =
        let h : GoodLine lex n l = good.each l i in
        rw q (record {
          is_key = h.is_key;
          len_is = refl;
          from = rise_least 1 l.positions p h.rise k;
          within = h.fits p k;
        })

-- Good lines with the same entries are equal.
pub lines_unique :
    {lex : Lexicon} {n : ℕ} {ks ls : List Line} → GoodLines lex n ks → GoodLines lex n ls →
    ((e : Entry) → In e (flat lex ks) → In e (flat lex ls)) → ((e : Entry) → In e (flat lex ls) → In e (flat lex ks)) → ks ≡ ls
lines_unique {lex} {n} {ks} {ls} p q f g =
    let equal : flat lex ks ≡ flat lex ls =
    ascend_unique entry_before_strict (flat lex ks) (flat lex ls) (good_flat_ascends lex n ks p)
    (good_flat_ascends lex n ls q) f g in
    sym (good_lines_of_flat p) ∙ ap lines_of equal ∙ good_lines_of_flat q
