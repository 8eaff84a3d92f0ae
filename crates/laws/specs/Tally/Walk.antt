-- The model of the tally: one walk over the directory adds each line's count to one of the 32 counts. Assumes nothing.
use Rattle.std.specs.Prelude.{◌≡◌, refl, true, false, cond, ◌⊎◌, eqb, length, set, replicate, take}
use Rattle.std.proofs.Math.Path.{sym}
use Rattle.std.proofs.Common.{ap, ◌∙◌, inl, inr, ⊎_elim, zero-add, add-one, length-drop, length-take-le, eq-eqb, ne_eqb, eqb-true}
use mathlib.Core.List.{List, [], ◌∷◌}
use Prim.Native.Nat.{ℕ, zero, suc, ◌+◌, ◌*◌, ◌-◌, ◌^◌, ◌≤◌, ◌<◌}
use native.Mathlib.Omega.{arith}
use Rattle.std.proofs.Math.ListN.{get_or, drop, length-set}
use Rattle.std.proofs.Math.Seq.{get_or-set_same, get_or-set_other, ext_get_or}
use Rattle.std.proofs.lemmas.Bool.{eqb-false}
use Rattle.basics.specs.Bools.{true_or_false}
use Rattle.spec.specs.Dictionary.{Lexicon}
use Rattle.spec.specs.Words.{spells}
use Rattle.spec.specs.Numbers.{Line, line}
use Rattle.spec.specs.Index.{greatest_number, header, keys_of, count_at, key_at, counts_from, entries_of, lines_from, lines_in, readable}
use Rattle.spec.specs.Tally.{of_length, tally_from, tally}
use Rattle.models.specs.Tally.{counted, added}
use Rattle.models.specs.Window.{line_of}
use Rattle.laws.specs.Text.Facts.{IsKey}
use Rattle.laws.specs.Numbers.LineNumbers.{line_of_in}
use Rattle.laws.specs.Readable.Readable.{readable_get}
use Rattle.laws.specs.Readable.LineWalk.{readable_fits}

-- THE LINES OF A READABLE INDEX

-- the key of each line is a key of the lexicon
pub line_key : (g : ℕ) (lex : Lexicon) (xs : List ℕ) → readable g lex xs ≡ true → (i : ℕ) → i < keys_of xs → IsKey lex (key_at xs i)
unfolding line
line_key g lex xs t i below = ((readable_get g lex xs t).lines.each (line_of xs i) (line_of_in xs i below)).is_key

-- THE COUNTS

counted_lines :
    (lex : Lexicon) (l k i : ℕ) (xs ps : List ℕ) → counts_from k i xs ≤ length ps →
    of_length lex l (lines_from k i xs ps) ≡ counted lex l k i xs
unfolding of_length lines_from counted counts_from line
counted_lines lex l zero i xs ps h = refl
counted_lines lex l (suc k) i xs ps h =
    let len : length (take (count_at xs i) ps) ≡ count_at xs i = length-take-le (count_at xs i) ps (omega arith) in
    rw (len, counted_lines lex l k (suc i) xs (drop (count_at xs i) ps) (omega (arith, length-drop (count_at xs i) ps)))

getD_tally : (n l : ℕ) (lex : Lexicon) (ks : List Line) (j : ℕ) → j < n → get_or (tally_from n l lex ks) j 0 ≡ of_length lex (l + j) ks
unfolding tally_from
getD_tally zero l lex ks j h = absurd (omega arith)
getD_tally (suc n) l lex ks zero h = let z : l + 0 ≡ l = omega arith in rw z
getD_tally (suc n) l lex ks (suc j) h = let z : l + suc j ≡ suc l + j = omega arith in rw z (getD_tally n (suc l) lex ks j (omega arith))

length_tally : (n l : ℕ) (lex : Lexicon) (ks : List Line) → length (tally_from n l lex ks) ≡ n
unfolding tally_from
length_tally zero l lex ks = refl
length_tally (suc n) l lex ks = ap suc (length_tally n (suc l) lex ks)

length_added : (xs ys : List ℕ) → length (added xs ys) ≡ length xs
unfolding added
length_added [] ys = refl
length_added (x ∷ xs) [] = refl
length_added (x ∷ xs) (y ∷ ys) = ap suc (length_added xs ys)

getD_added : (xs ys : List ℕ) (j : ℕ) → j < length xs → get_or (added xs ys) j 0 ≡ get_or xs j 0 + get_or ys j 0
unfolding added
getD_added [] ys j h = absurd (omega arith)
getD_added (x ∷ xs) [] zero h = omega arith
getD_added (x ∷ xs) [] (suc j) h = omega arith
getD_added (x ∷ xs) (y ∷ ys) zero h = refl
getD_added (x ∷ xs) (y ∷ ys) (suc j) h = getD_added xs ys j (omega arith)

added_zeros : (n : ℕ) (ys : List ℕ) → length ys ≡ n → added (replicate n 0) ys ≡ ys
unfolding added
added_zeros zero [] e = refl
added_zeros zero (y ∷ ys) e = absurd (omega arith)
added_zeros (suc n) [] e = absurd (omega arith)
added_zeros (suc n) (y ∷ ys) e = rw (zero-add y, added_zeros n ys (omega arith))

-- a tally added to zeros is that tally
pub tally_afresh : (lex : Lexicon) (xs : List ℕ) → added (replicate 32 0) (tally lex xs) ≡ tally lex xs
unfolding tally
tally_afresh lex xs = added_zeros 32 (tally_from 32 1 lex (lines_in xs)) (length_tally 32 1 lex (lines_in xs))

zeros_read : (n j : ℕ) → get_or (replicate {A = ℕ} n 0) j 0 ≡ 0
zeros_read zero j = refl
zeros_read (suc n) zero = refl
zeros_read (suc n) (suc j) = zeros_read n j

-- zeros are small enough that no tally makes them wrap
pub small_zeros : (j : ℕ) → get_or (replicate {A = ℕ} 32 0) j 0 ≤ 2 ^ 32
small_zeros j = omega (arith, zeros_read 32 j)

-- THE WALK

-- after the first i lines, from the counts given
pub record Tallied (lex : Lexicon) (xs given counts : List ℕ) (i : ℕ) : Type 0 where
  pub within : i ≤ keys_of xs
  pub whole : length counts ≡ 32
  pub bounded : (j : ℕ) → get_or counts j 0 ≤ 2 ^ 32 + greatest_number * i
  pub summed :
      (j : ℕ) → j < 32 →
      get_or counts j 0 + counted lex (1 + j) (keys_of xs - i) i xs ≡ get_or given j 0 + counted lex (1 + j) (keys_of xs) 0 xs

pub tally_start :
    (lex : Lexicon) (xs given : List ℕ) → length given ≡ 32 → ((j : ℕ) → get_or given j 0 ≤ 2 ^ 32) → Tallied lex xs given given 0
tally_start lex xs given len small =
    record {
      within = omega arith;
      whole = len;
      bounded = λ j. omega (arith, small j);
      summed = λ j b. let z : keys_of xs - 0 ≡ keys_of xs = omega arith in rw z;
    }

module _ {lex : Lexicon} {xs given counts : List ℕ} {i : ℕ} (h : Tallied lex xs given counts i) where
  module _ (position : ℕ) (below : i < keys_of xs) (small : count_at xs i ≤ greatest_number) (room : position < 32)
      (len : length (spells lex (key_at xs i)) ≡ position + 1) where
    raised : List ℕ
    raised = set counts position (get_or counts position 0 + count_at xs i)

    raised_here : get_or raised position 0 ≡ get_or counts position 0 + count_at xs i
    unfolding raised
    raised_here = get_or-set_same counts position (get_or counts position 0 + count_at xs i) 0 (omega arith)

    raised_other : (j : ℕ) → (j ≡ position → ⊥) → get_or raised j 0 ≡ get_or counts j 0
    unfolding raised
    raised_other j other = get_or-set_other counts position j (get_or counts position 0 + count_at xs i) 0 other

    here_or_other : (j : ℕ) → (j ≡ position) ⊎ (j ≡ position → ⊥)
    here_or_other j =
        ⊎_elim (λ (t : eqb j position ≡ true). inl (eqb-true j position t)) (λ (f : eqb j position ≡ false). inr (eqb-false j position f))
        (true_or_false (eqb j position))

    left_cut :
        (l : ℕ) →
        counted lex l (keys_of xs - i) i xs
        ≡ cond (eqb (length (spells lex (key_at xs i))) l) (count_at xs i) 0 + counted lex l (keys_of xs - (i + 1)) (i + 1) xs
    unfolding counted
    left_cut l = let z : keys_of xs - i ≡ suc (keys_of xs - suc i) = omega arith in rw (add-one i, z)

    pub tally_step : Tallied lex xs given (set counts position (get_or counts position 0 + count_at xs i)) (i + 1)
    unfolding raised
    tally_step =
        record {
          within = omega arith;
          whole = length-set counts position (get_or counts position 0 + count_at xs i) ∙ h.whole;
          bounded = λ j. bounded j (here_or_other j);
          summed = λ j b. summed j b (here_or_other j);
        }
      where
        bounded : (j : ℕ) → (j ≡ position) ⊎ (j ≡ position → ⊥) → get_or raised j 0 ≤ 2 ^ 32 + greatest_number * (i + 1)
        bounded j (inl e) = rw e (omega (arith, raised_here, h.bounded position))
        bounded j (inr other) = omega (arith, raised_other j other, h.bounded j)

        summed :
            (j : ℕ) → j < 32 → (j ≡ position) ⊎ (j ≡ position → ⊥) →
            get_or raised j 0 + counted lex (1 + j) (keys_of xs - (i + 1)) (i + 1) xs
            ≡ get_or given j 0 + counted lex (1 + j) (keys_of xs) 0 xs
        summed j b (inl e) =
            let same : eqb (length (spells lex (key_at xs i))) (1 + position) ≡ true =
            eq-eqb (length (spells lex (key_at xs i))) (1 + position) (omega (arith, len)) in
            let left = rw same at (left_cut (1 + position)) in
            rw e (omega (arith, raised_here, left, h.summed position room))
        summed j b (inr other) =
            let differ : eqb (length (spells lex (key_at xs i))) (1 + j) ≡ false =
            ne_eqb (length (spells lex (key_at xs i))) (1 + j) (λ e. other (omega (arith, len))) in
            let left = rw differ at (left_cut (1 + j)) in
            omega (arith, raised_other j other, left, h.summed j b)

  pub tally_end : (g : ℕ) → readable g lex xs ≡ true → length given ≡ 32 → keys_of xs ≤ i → counts ≡ added given (tally lex xs)
  unfolding tally lines_in entries_of counted
  tally_end g t len past =
      ext_get_or 0 counts (added given (tally_from 32 1 lex lines)) (h.whole ∙ sym (length_added given (tally_from 32 1 lex lines) ∙ len))
      each
    where
      positions : List ℕ
      positions = drop (header + 3 * keys_of xs) xs

      lines : List Line
      lines = lines_from (keys_of xs) 0 xs positions

      each : (j : ℕ) → j < length counts → get_or counts j 0 ≡ get_or (added given (tally_from 32 1 lex lines)) j 0
      each j b =
          let inside : j < 32 = omega arith in
          let none : keys_of xs - i ≡ 0 = omega arith in
          let all : get_or counts j 0 + 0 ≡ get_or given j 0 + counted lex (1 + j) (keys_of xs) 0 xs = rw none at (h.summed j inside) in
          let fits = readable_fits g lex xs t in
          omega (
            arith,
            all,
            getD_added given (tally_from 32 1 lex lines) j (omega (arith, len)),
            getD_tally 32 1 lex lines j inside,
            counted_lines lex (1 + j) (keys_of xs) 0 xs positions (omega (arith, length-drop (header + 3 * keys_of xs) xs)),
          )

-- M is the number of numbers after the directory
pub entries_left : (g : ℕ) (lex : Lexicon) (xs : List ℕ) → readable g lex xs ≡ true → length xs - (header + 3 * keys_of xs) ≡ entries_of xs
entries_left g lex xs t = let fits = readable_fits g lex xs t in omega arith
