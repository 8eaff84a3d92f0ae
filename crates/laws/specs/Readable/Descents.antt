-- Descents: a list ascends from 1 if it has none after a 0, and the descents of a slice are those within its lists and those to their
-- first positions; the pass that counts them. Assumes nothing.
use Rattle.std.specs.Prelude.{◌≡◌, Bool, true, false, ◌&&◌, leb, eqb, take}
use Rattle.std.proofs.Math.Path.{refl, sym, ap}
use Rattle.std.proofs.Common.{◌∙◌, ⊎_elim, add-one, arith, drop-drop, le-leb, lt-ltb, ne_eqb}
use mathlib.Core.List.{List, [], ◌∷◌}
use Prim.Native.Nat.{ℕ, zero, suc, ◌+◌, ◌*◌, ◌-◌, ◌≤◌, ◌<◌}
use Rattle.std.proofs.Math.ListN.{length, get_or, drop, length-drop}
use Rattle.std.proofs.Math.Seq.{drop-cons, drop-nil}
use Rattle.std.proofs.lemmas.Bool.{lt-leb}
use Rattle.basics.specs.Bools.{le_or_lt}
use Rattle.basics.specs.Writing.{lent_tail, lent_tail_is}
use Rattle.spec.specs.Index.{header, keys_of, rise_from}
use Rattle.spec.specs.Gaps.{sums_after}
use Rattle.models.specs.Readability.{read_as, floor_of, one_if, descents, first_descent}

-- ONE LIST

-- a descent now, or one later
none_first : (p f d : ℕ) {rest : Bool} → rest ≡ eqb d 0 → (leb (suc f) p && rest) ≡ eqb (one_if (leb p f) + d) 0
none_first p f d {rest} e =
    ⊎_elim
    (λ (low : p ≤ f). rw (le-leb p f low, lt-leb (suc f) p (omega arith)) (sym (ne_eqb (1 + d) 0 (λ z. absurd (omega arith)))))
    (λ (high : f < p).
    let z : 0 + d ≡ d = omega arith in
    rw (lt-leb p f high, le-leb (suc f) p (omega arith), z) e)
    (le_or_lt p f)

positions_rise : (q : ℕ) (ps : List ℕ) → rise_from (suc q) ps ≡ eqb (descents false (q ∷ ps)) 0
unfolding rise_from descents
positions_rise q [] = refl
positions_rise q (p ∷ ps) = none_first p q (descents false (p ∷ ps)) (positions_rise p ps)

sums_rise : (s q : ℕ) (ds : List ℕ) → rise_from (suc s) (sums_after s ds) ≡ eqb (descents true (q ∷ ds)) 0
unfolding rise_from sums_after descents
sums_rise s q [] = refl
sums_rise s q (d ∷ ds) =
    ap (λ (t : Bool). t && rise_from (suc (s + d)) (sums_after (s + d) ds)) (some_gap d)
    ∙ none_first d 0 (descents true (d ∷ ds)) (sums_rise (s + d) d ds)
  where
    some_gap : (d : ℕ) → leb (suc s) (s + d) ≡ leb 1 d
    some_gap zero = lt-leb (suc s) (s + 0) (omega arith)
    some_gap (suc d) = le-leb (suc s) (s + suc d) (omega arith) ∙ sym (le-leb 1 (suc d) (omega arith))

-- A LIST ASCENDS FROM 1, read as positions or as gaps, if it has no descent after a 0.
pub list_ascends : (b : Bool) (ps : List ℕ) → rise_from 1 (read_as b ps) ≡ eqb (descents b (0 ∷ ps)) 0
unfolding read_as
list_ascends true ps = sums_rise 0 0 ps
list_ascends false ps = positions_rise 0 ps

-- the first of a list after any number, and after a 0
first_apart : (b : Bool) (q p : ℕ) → one_if (leb p (floor_of b q)) ≡ first_descent (floor_of b q) p + one_if (leb p (floor_of b 0))
first_apart true q zero = refl
first_apart true q (suc p) = rw (lt-ltb 0 (suc p) (omega arith), lt-leb (suc p) 0 (omega arith))
first_apart false q zero = rw (le-leb 0 q (omega arith))
first_apart false q (suc p) =
    let z : one_if (leb (suc p) q) + 0 ≡ one_if (leb (suc p) q) = omega arith in
    rw (lt-ltb 0 (suc p) (omega arith), lt-leb (suc p) 0 (omega arith), z)

-- A RUN, taken apart

pub descents_parts : (b : Bool) (c : ℕ) (run : List ℕ) → descents b (take (suc c) run) + descents b (drop c run) ≡ descents b run
unfolding descents
descents_parts b zero [] = refl
descents_parts b zero (q ∷ run) = omega arith
descents_parts b (suc c) [] = refl
descents_parts b (suc c) (q ∷ []) = rw (drop-nil c)
descents_parts b (suc c) (q ∷ p ∷ run) = omega (arith, descents_parts b c (p ∷ run))

pub descents_few : (b : Bool) (run : List ℕ) → descents b run ≤ length run
unfolding descents
descents_few b [] = omega arith
descents_few b (q ∷ []) = omega arith
descents_few b (q ∷ p ∷ run) = by_test (leb p (floor_of b q)) (descents_few b (p ∷ run))
  where
    by_test : (t : Bool) → descents b (p ∷ run) ≤ suc (length run) → one_if t + descents b (p ∷ run) ≤ suc (suc (length run))
    by_test true few = omega arith
    by_test false few = omega arith

module _ (b : Bool) (run : List ℕ) (i : ℕ) where
  descents_next :
      i + 1 < length run →
      descents b (drop i run) ≡ one_if (leb (get_or run (i + 1) 0) (floor_of b (get_or run i 0))) + descents b (drop (i + 1) run)
  unfolding descents
  descents_next below =
      let next : drop (i + 1) run ≡ get_or run (i + 1) 0 ∷ drop (suc (i + 1)) run = drop-cons run (i + 1) 0 below in
      let here : drop i run ≡ get_or run i 0 ∷ drop (i + 1) run = rw (add-one i) (drop-cons run i 0 (omega arith)) in
      ap (descents b) (here ∙ ap (λ (l : List ℕ). get_or run i 0 ∷ l) next)
      ∙ ap (λ (l : List ℕ). one_if (leb (get_or run (i + 1) 0) (floor_of b (get_or run i 0))) + descents b l) (sym next)

  pub descents_none : length run ≤ i + 1 → descents b (drop i run) ≡ 0
  unfolding descents
  descents_none past = by_list (drop i run) (omega (arith, length-drop i run))
    where
      by_list : (rest : List ℕ) → length rest ≤ 1 → descents b rest ≡ 0
      by_list [] few = refl
      by_list (q ∷ []) few = refl
      by_list (q ∷ p ∷ rest) few = absurd (omega arith)

-- THE PASS OVER A RUN, number by number

pub one_or_none : (t : Bool) → one_if t ≤ 1
one_or_none true = omega arith
one_or_none false = omega arith

-- `count` descents before number i + 1
pub record Counted (b : Bool) (run : List ℕ) (count i : ℕ) : Type 0 where
  pub within : i ≤ length run
  pub all : count + descents b (drop i run) ≡ descents b run
  pub few : count ≤ i

pub counted_start : (b : Bool) (run : List ℕ) → Counted b run 0 0
counted_start b run = record { within = omega arith; all = omega arith; few = omega arith }

module _ {b : Bool} {run : List ℕ} {count i : ℕ} (h : Counted b run count i) where
  pub counted_step :
      i + 1 < length run → Counted b run (count + one_if (leb (get_or run (i + 1) 0) (floor_of b (get_or run i 0)))) (i + 1)
  counted_step below =
      record {
        within = omega arith;
        all = omega (arith, h.all, descents_next b run i below);
        few = omega (arith, h.few, one_or_none (leb (get_or run (i + 1) 0) (floor_of b (get_or run i 0))));
      }

  pub counted_end : length run ≤ i + 1 → count ≡ descents b run
  counted_end past = omega (arith, h.all, descents_none b run i past)

-- BLOCK BY BLOCK, each with the first number of the next

-- `count` descents before index `at`
pub record BlocksCounted (b : Bool) (run : List ℕ) (count at : ℕ) : Type 0 where
  pub within : at ≤ length run
  pub all : count + descents b (drop at run) ≡ descents b run
  pub few : count ≤ length run

pub blocks_start : (b : Bool) (run : List ℕ) → BlocksCounted b run 0 0
blocks_start b run = record { within = omega arith; all = omega arith; few = omega arith }

module _ {b : Bool} {run : List ℕ} {count at : ℕ} (h : BlocksCounted b run count at) where
  pub blocks_step :
      (m : ℕ) {end : ℕ} → end ≡ at + m + 1 → end ≤ length run →
      BlocksCounted b run (count + descents b (take (end - at) (drop at run))) (at + m)
  blocks_step m {end} e room =
      let len : end - at ≡ suc m = omega arith in
      let parts : descents b (take (end - at) (drop at run)) + descents b (drop (at + m) run) ≡ descents b (drop at run) =
      rw (len, ← drop-drop m at run) (descents_parts b m (drop at run)) in
      record {
        within = omega arith;
        all = omega (arith, h.all, parts);
        few = omega (arith, h.all, parts, descents_few b run);
      }

  pub blocks_end : count + descents b (lent_tail at run) ≡ descents b run
  blocks_end = ap (λ (l : List ℕ). count + descents b l) (lent_tail_is at run) ∙ h.all

-- A LIST OF A SLICE

-- the descents from the list between `from` and `to` on: to its first position, within it, and after it
module _ (b : Bool) (xs : List ℕ) {from to : ℕ} (some : 1 ≤ from) (order : from < to) (present : to ≤ length xs) where
  pub descents_list :
      descents b (drop (from - 1) xs)
      ≡ first_descent (floor_of b (get_or xs (from - 1) 0)) (get_or xs from 0) + descents b (0 ∷ take (to - from) (drop from xs))
      + descents b (drop (to - 1) xs)
  unfolding descents
  descents_list =
      sym (descents_parts b (to - from) (drop (from - 1) xs))
      ∙ ap (λ (m : ℕ). m + descents b (drop (to - from) (drop (from - 1) xs))) list
      ∙ ap (λ (l : List ℕ). before + inner + descents b l) (drop-drop (to - from) (from - 1) xs ∙ ap (λ (j : ℕ). drop j xs) end)
    where
      before : ℕ
      before = first_descent (floor_of b (get_or xs (from - 1) 0)) (get_or xs from 0)

      inner : ℕ
      inner = descents b (0 ∷ take (to - from) (drop from xs))

      end : from - 1 + (to - from) ≡ to - 1
      end = omega arith

      rest : List ℕ
      rest = take (to - from - 1) (drop (suc from) xs)

      positions : take (to - from) (drop from xs) ≡ get_or xs from 0 ∷ rest
      positions =
          let z : to - from ≡ suc (to - from - 1) = omega arith in
          ap (take (to - from)) (drop-cons xs from 0 (omega arith))
          ∙ ap (λ (m : ℕ). take m (get_or xs from 0 ∷ drop (suc from) xs)) z

      run : take (suc (to - from)) (drop (from - 1) xs) ≡ get_or xs (from - 1) 0 ∷ take (to - from) (drop from xs)
      run =
          let z : suc (from - 1) ≡ from = omega arith in
          ap (take (suc (to - from))) (drop-cons xs (from - 1) 0 (omega arith)) ∙ rw z

      list : descents b (take (suc (to - from)) (drop (from - 1) xs)) ≡ before + inner
      list =
          ap (descents b) (run ∙ ap (λ (l : List ℕ). get_or xs (from - 1) 0 ∷ l) positions)
          ∙ omega (arith, first_apart b (get_or xs (from - 1) 0) (get_or xs from 0))
          ∙ ap (λ (l : List ℕ). before + descents b (0 ∷ l)) (sym positions)

-- ALL POSITIONS OF AN INDEX

-- the descents of all positions
abbrev pub all_descents : (gaps : Bool) → (numbers : List ℕ) → ℕ
all_descents b xs = descents b (drop (header + 3 * keys_of xs - 1) xs)

-- the descent to the position at an index, if a list starts there
abbrev pub at_first : (gaps : Bool) → (numbers : List ℕ) → (at : ℕ) → ℕ
at_first b xs at = first_descent (floor_of b (get_or xs (at - 1) 0)) (get_or xs at 0)
