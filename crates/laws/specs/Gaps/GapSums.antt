-- All gaps summed in one pass: sums that restart where a mask is 0 are the prefix sums of each list. Assumes nothing.
use Rattle.std.specs.Prelude.{◌≡◌, refl, ℕ, zero, suc, ◌+◌, ◌≤◌, ◌<◌, get_or, take, set, replicate}
use Rattle.std.proofs.Math.Path.{sym}
use Rattle.std.proofs.Common.{ap, ◌∙◌, inl, inr, mod-eq_of_lt, add-one, arith, take-append-drop}
use Rattle.std.proofs.Common.{length-drop, length-set, drop-drop, take_all, length-take-le, take-suc-set, drop-set-lt}
use mathlib.Core.List.{List, [], ◌∷◌, ◌++◌, append_assoc, append-nil}
use Rattle.std.specs.Int.Bits.{bit_and, and_zero_r}
use Rattle.std.proofs.lemmas.Nat.{and_mask}
use Rattle.std.proofs.Math.ListN.{length, drop, drop_of_length-le}
use Rattle.std.proofs.Math.Seq.{drop-cons}
use Rattle.std.proofs.lemmas.List.{get_or_at}
use Rattle.basics.specs.Member.{In}
use Rattle.spec.specs.Dictionary.{total}
use Rattle.spec.specs.Numbers.{Line, line}
use Rattle.spec.specs.Index.{count_at, key_at, counts_from, lines_from}
use Rattle.spec.specs.Gaps.{sums_after, prefix_sums, lists_from}
use Rattle.models.specs.Gaps.{by_pairs, first_apart, carry, masked_sums, masks}

-- SUMS THAT RESTART

-- all ones let a sum through; only this law knows how many bits a number has
through : (s : ℕ) → s ≤ carry → bit_and s carry ≡ s
through s small = and_mask s 16 ∙ mod-eq_of_lt (omega arith)

-- the gaps of one list after its first
carried :
    (s b : ℕ) (ds ms es : List ℕ) → s + total ds ≤ carry →
    masked_sums s (by_pairs (λ b d. carry) b ds ++ ms) (ds ++ es) ≡ sums_after s ds ++ masked_sums (s + total ds) ms es
unfolding masked_sums by_pairs sums_after total
carried s b [] ms es small = let z : s + 0 ≡ s = omega arith in rw z
carried s b (d ∷ ds) ms es small =
    let sum : s + (d + total ds) ≡ s + d + total ds = omega arith in
    rw (through s (omega arith), sum) (ap (λ (l : List ℕ). (s + d) ∷ l) (carried (s + d) d ds ms es (omega arith)))

masked_list :
    (s : ℕ) (ds ms es : List ℕ) → total ds ≤ carry →
    (t : ℕ) × (masked_sums s (masks ds ++ ms) (ds ++ es) ≡ prefix_sums ds ++ masked_sums t ms es)
unfolding masked_sums first_apart sums_after total
masked_list s [] ms es small = (s, refl)
masked_list s (d ∷ ds) ms es small =
    (d + total ds, let z : 0 + d ≡ d = omega arith in rw (and_zero_r s, z) (ap (λ (l : List ℕ). d ∷ l) (carried d d ds ms es small)))

pub masked_lists :
    (s k i : ℕ) (xs ds : List ℕ) → counts_from k i xs ≡ length ds →
    ((l : Line) → In l (lines_from k i xs ds) → total l.positions ≤ carry) →
    masked_sums s (lists_from masks k i xs ds) ds ≡ lists_from prefix_sums k i xs ds
unfolding lists_from lines_from counts_from line masked_sums
masked_lists s zero i xs [] counts small = refl
masked_lists s zero i xs (d ∷ ds) counts small = absurd (omega arith)
masked_lists s (suc k) i xs ds counts small =
    let c = count_at xs i in
    let one =
    masked_list s (take c ds) (lists_from masks k (suc i) xs (drop c ds)) (drop c ds)
    (small (line (key_at xs i) (take c ds)) (inl refl)) in
    ap (masked_sums s (masks (take c ds) ++ lists_from masks k (suc i) xs (drop c ds))) (sym (take-append-drop c ds))
    ∙ one.1
    ∙ ap (λ (l : List ℕ). prefix_sums (take c ds) ++ l)
    (masked_lists one.0 k (suc i) xs (drop c ds) (omega (arith, counts, length-drop c ds)) (λ l m. small l (inr m)))

-- before index i: the sums before it are written, the masks from it on are unchanged
pub record Adding (ms ds now : List ℕ) (sum i : ℕ) : Type 0 where
  pub so_far : take i now ++ masked_sums sum (drop i ms) (drop i ds) ≡ masked_sums 0 ms ds
  pub rest : drop i now ≡ drop i ms
  pub len : length now ≡ length ms
  pub within : i ≤ length ds

module _ (ms ds : List ℕ) (even : length ms ≡ length ds) where
  pub adding_start : Adding ms ds ms 0 0
  adding_start = record { so_far = refl; rest = refl; len = refl; within = omega arith }

  module _ {now : List ℕ} {sum i : ℕ} (h : Adding ms ds now sum i) where
    pub adding_end : length ds ≤ i → now ≡ masked_sums 0 ms ds
    unfolding masked_sums
    adding_end past =
        let few : length ms ≤ i = omega (arith, even) in
        let none : drop i ms ≡ [] = drop_of_length-le ms few in
        sym (take_all i now (omega (arith, even))) ∙ sym (append-nil (take i now)) ∙ rw none at h.so_far

    module _ (below : i < length ds) where
      abbrev mask : ℕ
      mask = get_or now i 0

      abbrev raised : ℕ
      raised = bit_and sum mask + get_or ds i 0

      mask_is : get_or now i 0 ≡ get_or ms i 0
      mask_is =
          ap (λ (l : List ℕ). get_or l 0 0)
          (sym (drop-cons now i 0 (omega (arith, even))) ∙ h.rest ∙ drop-cons ms i 0 (omega (arith, even)))

      so_far_next : take i now ++ (raised ∷ masked_sums raised (drop (suc i) ms) (drop (suc i) ds)) ≡ masked_sums 0 ms ds
      unfolding masked_sums
      so_far_next =
          rw mask_is
          (rw (drop-cons ms i 0 (omega (arith, even)), drop-cons ds i 0 below) at h.so_far)

      pub next_is : get_or (masked_sums 0 ms ds) i 0 ≡ raised
      next_is =
          ap (λ (l : List ℕ). get_or l i 0) (sym so_far_next)
          ∙ get_or_at (take i now) raised (masked_sums raised (drop (suc i) ms) (drop (suc i) ds)) 0 i
          (length-take-le i now (omega (arith, even)))

      pub adding_step : Adding ms ds (set now i raised) raised (i + 1)
      adding_step =
          record {
            so_far =
                rw (
                  add-one i,
                  take-suc-set now i raised (omega (arith, even)),
                  append_assoc (take i now) (raised ∷ []) (masked_sums raised (drop (suc i) ms) (drop (suc i) ds)),
                )
                so_far_next;
            rest =
                drop-set-lt (i + 1) now i raised (omega arith)
                ∙ sym (drop-drop 1 i now)
                ∙ ap (λ (l : List ℕ). drop 1 l) h.rest
                ∙ drop-drop 1 i ms;
            len = length-set now i raised ∙ h.len;
            within = omega arith;
          }

-- a fill with all ones
pub carry_pairs : (b : ℕ) (ps : List ℕ) → replicate (length ps) carry ≡ by_pairs (λ b p. carry) b ps
unfolding by_pairs
carry_pairs b [] = refl
carry_pairs b (p ∷ ps) = ap (λ (l : List ℕ). carry ∷ l) (carry_pairs p ps)
