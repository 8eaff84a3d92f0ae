-- A list of positions and its gaps: there and back, their lengths, and the loop that tests on the gaps whether the positions ascend.
-- Assumes nothing.
use Rattle.std.specs.Prelude.{◌≡◌, refl, Bool, true, false, ◌&&◌, ℕ, zero, suc, ◌+◌, ◌*◌, ◌-◌, ◌≤◌, ◌<◌, leb, ltb, length}
use Rattle.std.proofs.Math.Path.{sym, ap}
use Rattle.std.proofs.Common.{◌∙◌, add-one, arith, drop_of_length-le, le-leb, lt-ltb}
use Rattle.std.proofs.Math.Bool.{and-true, and_assoc}
use mathlib.Core.List.{List, [], ◌∷◌}
use Rattle.std.proofs.Math.ListN.{get_or, drop}
use Rattle.std.proofs.Math.Seq.{drop-cons}
use Rattle.std.proofs.lemmas.Bool.{lt-leb}
use Rattle.spec.specs.Dictionary.{total}
use Rattle.spec.specs.Index.{greatest_number, rise_from, last_of}
use Rattle.spec.specs.Gaps.{gaps_after, sums_after, prefix_sums}
use Rattle.models.specs.Readability.{list_good}
use Rattle.laws.specs.Text.Facts.{Rise}

-- THERE AND BACK

pub length_gaps : (b : ℕ) (ps : List ℕ) → length (gaps_after b ps) ≡ length ps
unfolding gaps_after
length_gaps b [] = refl
length_gaps b (p ∷ ps) = ap suc (length_gaps p ps)

pub length_sums : (b : ℕ) (ds : List ℕ) → length (sums_after b ds) ≡ length ds
unfolding sums_after
length_sums b [] = refl
length_sums b (d ∷ ds) = ap suc (length_sums (b + d) ds)

pub gaps_of_sums : (b : ℕ) (ds : List ℕ) → gaps_after b (sums_after b ds) ≡ ds
unfolding gaps_after sums_after
gaps_of_sums b [] = refl
gaps_of_sums b (d ∷ ds) = let e : b + d - b ≡ d = omega arith in rw (e, gaps_of_sums (b + d) ds)

pub sums_of_gaps : (b : ℕ) (ps : List ℕ) → Rise (suc b) ps → sums_after b (gaps_after b ps) ≡ ps
unfolding gaps_after sums_after
sums_of_gaps b [] r = refl
sums_of_gaps b (p ∷ ps) r = let e : b + (p - b) ≡ p = omega arith in rw (e, sums_of_gaps p ps r.1)

-- a position other than the first becomes its distance from the one before
pub gaps_later :
    (b : ℕ) (ps : List ℕ) (i : ℕ) → suc i < length ps →
    get_or (gaps_after b ps) (suc i) 0 ≡ get_or ps (suc i) 0 - get_or ps i 0
unfolding gaps_after
gaps_later b [] i h = absurd (omega arith)
gaps_later b (p ∷ []) i h = absurd (omega arith)
gaps_later b (p ∷ q ∷ ps) zero h = refl
gaps_later b (p ∷ q ∷ ps) (suc i) h = gaps_later p (q ∷ ps) i (omega arith)

-- THE LAST OF THE SUMS

pub last_sums : (b d : ℕ) (ds : List ℕ) → last_of (sums_after b (d ∷ ds)) ≡ b + d + total ds
unfolding sums_after last_of total
last_sums b d [] = omega arith
last_sums b d (e ∷ ds) = last_sums (b + d) e ds ∙ omega arith

pub last_prefix_sums : (ds : List ℕ) → 1 ≤ length ds → last_of (prefix_sums ds) ≡ total ds
unfolding total
last_prefix_sums [] some = absurd (omega arith)
last_prefix_sums (d ∷ ds) some = last_sums 0 d ds ∙ omega arith

-- THE LOOP OVER THE GAPS OF ONE LINE

-- `good` tells whether the sums before index i ascend; `sum` is the last of them
pub record Summed (ds : List ℕ) (good : Bool) (sum i : ℕ) : Type 0 where
  pub within : i ≤ length ds
  pub added : sum + total (drop i ds) ≡ total ds
  pub tested : (good && rise_from (suc sum) (sums_after sum (drop i ds))) ≡ rise_from 1 (prefix_sums ds)
  pub small : sum ≤ greatest_number * i

pub summed_start : (ds : List ℕ) → Summed ds true 0 0
summed_start ds = record { within = omega arith; added = omega arith; tested = refl; small = omega arith }

-- the next sum ascends exactly if its gap is not 0
some_gap : (sum d : ℕ) → leb (suc sum) (sum + d) ≡ ltb 0 d
some_gap sum zero = lt-leb (suc sum) (sum + 0) (omega arith)
some_gap sum (suc d) = le-leb (suc sum) (sum + suc d) (omega arith) ∙ sym (lt-ltb 0 (suc d) (omega arith))

module _ {ds : List ℕ} {good : Bool} {sum i : ℕ} (h : Summed ds good sum i) where
  pub summed_step :
      i < length ds → get_or ds i 0 ≤ greatest_number → Summed ds (good && ltb 0 (get_or ds i 0)) (sum + get_or ds i 0) (i + 1)
  unfolding sums_after rise_from total
  summed_step below fits =
      let next : drop i ds ≡ get_or ds i 0 ∷ drop (i + 1) ds = rw (add-one, drop-cons ds i 0) in
      let d = get_or ds i 0 in
      record {
        within = omega arith;
        added = let t : total (drop i ds) ≡ d + total (drop (i + 1) ds) = ap total next in omega arith;
        tested =
            and_assoc good (ltb 0 d) (rise_from (suc (sum + d)) (sums_after (sum + d) (drop (i + 1) ds)))
            ∙ ap (λ (b : Bool). good && (b && rise_from (suc (sum + d)) (sums_after (sum + d) (drop (i + 1) ds)))) (sym (some_gap sum d))
            ∙ ap (λ (l : List ℕ). good && rise_from (suc sum) (sums_after sum l)) (sym next)
            ∙ h.tested;
        small = omega arith;
      }

  module _ (past : length ds ≤ i) where
    summed_good : good ≡ rise_from 1 (prefix_sums ds)
    unfolding rise_from sums_after
    summed_good = sym (and-true good) ∙ rw (drop_of_length-le ds past) at h.tested

    summed_last : 1 ≤ length ds → sum ≡ last_of (prefix_sums ds)
    unfolding total
    summed_last some =
        let none : total (drop i ds) ≡ 0 = ap total (drop_of_length-le ds past) in
        omega (arith, last_prefix_sums ds some)

    pub summed_late : (n l : ℕ) → 1 ≤ length ds → n + 1 < sum + l → false ≡ list_good prefix_sums n l ds
    unfolding list_good
    summed_late n l some late = rw (lt-leb (last_of (prefix_sums ds) + l) (suc n) (omega (arith, summed_last some)))

    pub summed_end : (n l : ℕ) → 1 ≤ length ds → sum + l ≤ n + 1 → good ≡ list_good prefix_sums n l ds
    unfolding list_good
    summed_end n l some ends =
        summed_good ∙ rw (le-leb (last_of (prefix_sums ds) + l) (suc n) (omega (arith, summed_last some)))
