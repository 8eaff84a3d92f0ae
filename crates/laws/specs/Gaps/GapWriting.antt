-- All lists written in one pass, as if they were one list, and the first number of each list put in after it. Assumes nothing.
use Rattle.std.specs.Prelude.{◌≡◌, take, set}
use Rattle.std.proofs.Math.Path.{refl, sym}
use Rattle.std.proofs.Common.{ap, ◌∙◌, length-set, drop-cons, drop-drop, take_all, take-add, take-suc-set, drop-set-lt}
use mathlib.Core.List.{List, [], ◌∷◌, ◌++◌, append_assoc, append-nil}
use Prim.Native.Nat.{ℕ, zero, suc, ◌+◌, ◌-◌, ◌≤◌, ◌<◌}
use Rattle.std.proofs.Math.Numerals.{add-one}
use native.Mathlib.Omega.{arith}
use Rattle.std.proofs.Math.ListN.{length, get_or, drop, length-drop, drop_of_length-le}
use Rattle.basics.specs.Placed.{Writing, writing_start, writing_one}
use Rattle.basics.specs.Writing.{written}
use Rattle.spec.specs.Index.{keys_of, count_at, counts_from}
use Rattle.spec.specs.Gaps.{gaps_after, gaps, lists_from}
use Rattle.models.specs.Gaps.{by_pairs, first_apart}
use Rattle.laws.specs.Gaps.GapLists.{length_gaps}

-- EACH NUMBER BY THE ONE BEFORE

pub length_pairs : (x : ℕ → ℕ → ℕ) (b : ℕ) (ps : List ℕ) → length (by_pairs x b ps) ≡ length ps
unfolding by_pairs
length_pairs x b [] = refl
length_pairs x b (p ∷ ps) = ap suc (length_pairs x p ps)

take_pairs : (x : ℕ → ℕ → ℕ) (b c : ℕ) (ps : List ℕ) → take c (by_pairs x b ps) ≡ by_pairs x b (take c ps)
unfolding by_pairs
take_pairs x b zero ps = refl
take_pairs x b (suc c) [] = refl
take_pairs x b (suc c) (p ∷ ps) = ap (λ (qs : List ℕ). x b p ∷ qs) (take_pairs x p c ps)

drop_pairs :
    (x : ℕ → ℕ → ℕ) (b c : ℕ) (ps : List ℕ) → drop c (by_pairs x b ps) ≡ by_pairs x (get_or (b ∷ ps) c 0) (drop c ps)
unfolding by_pairs
drop_pairs x b zero ps = refl
drop_pairs x b (suc c) [] = refl
drop_pairs x b (suc c) (p ∷ ps) = drop_pairs x p c ps

-- THE FIRST NUMBER OF EACH LIST, after all were written as one

module _ (y : ℕ → ℕ) (x : ℕ → ℕ → ℕ) (xs ps : List ℕ) where
  -- before line i, whose list starts at `at`: the lists before it are complete, and everything from it on is written as one list
  pub record Firsts (now : List ℕ) (i at : ℕ) : Type 0 where
    pub within : i ≤ keys_of xs
    pub before : ℕ
    pub so_far :
        take at now ++ lists_from (first_apart y x) (keys_of xs - i) i xs (drop at ps)
        ≡ lists_from (first_apart y x) (keys_of xs) 0 xs ps
    pub todo : drop at now ≡ by_pairs x before (drop at ps)
    pub len : length now ≡ length ps
    pub counted : at + counts_from (keys_of xs - i) i xs ≡ length ps

module _ {y : ℕ → ℕ} {x : ℕ → ℕ → ℕ} {xs ps : List ℕ} where
  pub firsts_start :
      (b : ℕ) {now : List ℕ} → now ≡ by_pairs x b ps → counts_from (keys_of xs) 0 xs ≡ length ps → Firsts y x xs ps now 0 0
  firsts_start b is counts =
      let z : keys_of xs - 0 ≡ keys_of xs = omega arith in
      record {
        within = omega arith;
        before = b;
        so_far = rw z;
        todo = is;
        len = ap length is ∙ length_pairs x b ps;
        counted = rw z (omega (arith, counts));
      }

  module _ {now : List ℕ} {i at : ℕ} (h : Firsts y x xs ps now i at) where
    pub firsts_end : keys_of xs ≤ i → now ≡ lists_from (first_apart y x) (keys_of xs) 0 xs ps
    unfolding lists_from counts_from
    firsts_end past =
        let z : keys_of xs - i ≡ 0 = omega arith in
        let all : at ≡ length ps = omega (arith, rw z at h.counted) in
        let few : length ps ≤ at = omega (arith, all) in
        let none : drop at ps ≡ [] = drop_of_length-le ps few in
        sym (take_all at now (omega (arith, all)))
        ∙ sym (append-nil (take at now))
        ∙ rw (z, none) at h.so_far

    module _ (below : i < keys_of xs) where
      next : keys_of xs - i ≡ suc (keys_of xs - (i + 1))
      next = omega arith

      counted_next : at + (count_at xs i + counts_from (keys_of xs - (i + 1)) (i + 1) xs) ≡ length ps
      unfolding counts_from
      counted_next = rw (add-one i) (rw (next, add-one i) at h.counted)

      pub list_room : at + count_at xs i ≤ length ps
      list_room = omega (arith, counted_next)

      pub first_room : 1 ≤ count_at xs i → at < length now
      first_room some = omega (arith, list_room)

      pub firsts_step : 1 ≤ count_at xs i → Firsts y x xs ps (set now at (y (get_or ps at 0))) (i + 1) (at + count_at xs i)
      unfolding lists_from by_pairs first_apart
      firsts_step some = by_count (count_at xs i) refl some
        where
          p : ℕ
          p = get_or ps at 0

          there : at < length ps
          there = omega (arith, first_room some)

          split : drop at ps ≡ p ∷ drop (suc at) ps
          split = drop-cons ps at 0 there

          new : List ℕ
          new = set now at (y p)

          after : drop (suc at) new ≡ by_pairs x p (drop (suc at) ps)
          after =
              drop-set-lt (suc at) now at (y p) (omega arith)
              ∙ ap (λ (j : ℕ). drop j now) (sym (add-one at))
              ∙ sym (drop-drop 1 at now)
              ∙ ap (λ (l : List ℕ). drop 1 l) (h.todo ∙ ap (by_pairs x h.before) split)

          -- with the m numbers after its first the list is complete, and the rest is unchanged
          put :
              (m : ℕ) →
              (take (at + suc m) new ≡ take at now ++ first_apart y x (take (suc m) (p ∷ drop (suc at) ps)))
              × (drop (at + suc m) new ≡ by_pairs x (get_or (p ∷ drop (suc at) ps) m 0) (drop (suc m) (p ∷ drop (suc at) ps)))
          put m =
              let later : at + suc m ≡ suc at + m = omega arith in
              let front : take (suc at) new ++ take m (drop (suc at) new) ≡
              (take at now ++ (y p ∷ [])) ++ by_pairs x p (take m (drop (suc at) ps)) =
              rw (take-suc-set now at (y p) (first_room some), after, take_pairs x p m (drop (suc at) ps)) in (
                ap (λ (j : ℕ). take j new) later
                    ∙ take-add (suc at) m new
                    ∙ front
                    ∙ append_assoc (take at now) (y p ∷ []) (by_pairs x p (take m (drop (suc at) ps))),
                ap (λ (j : ℕ). drop j new) later
                    ∙ sym (drop-drop m (suc at) new)
                    ∙ ap (λ (l : List ℕ). drop m l) after
                    ∙ drop_pairs x p m (drop (suc at) ps),
              )

          -- the lists before line i, its own, and those after it
          standing : (list more : List ℕ) → List ℕ
          standing ls ms = take at now ++ (first_apart y x ls ++ lists_from (first_apart y x) (keys_of xs - (i + 1)) (i + 1) xs ms)

          by_count : (c : ℕ) → count_at xs i ≡ c → 1 ≤ c → Firsts y x xs ps (set now at (y p)) (i + 1) (at + c)
          by_count zero e none = absurd (omega arith)
          by_count (suc m) e one =
              let past : drop (suc m) (p ∷ drop (suc at) ps) ≡ drop (at + suc m) ps =
              ap (λ (l : List ℕ). drop (suc m) l) (sym split) ∙ drop-drop (suc m) at ps in
              record {
                within = omega arith;
                before = get_or (p ∷ drop (suc at) ps) m 0;
                so_far =
                    ap (λ (l : List ℕ). l ++ lists_from (first_apart y x) (keys_of xs - (i + 1)) (i + 1) xs (drop (at + suc m) ps))
                    (put m).0
                    ∙ append_assoc (take at now) (first_apart y x (take (suc m) (p ∷ drop (suc at) ps)))
                    (lists_from (first_apart y x) (keys_of xs - (i + 1)) (i + 1) xs (drop (at + suc m) ps))
                    ∙ ap (λ (l : List ℕ). standing (take (suc m) (p ∷ drop (suc at) ps)) l) (sym past)
                    ∙ ap (λ (l : List ℕ). standing (take (suc m) l) (drop (suc m) l)) (sym split)
                    ∙ rw (add-one i) (rw (next, add-one i, e) at h.so_far);
                todo = (put m).1 ∙ ap (by_pairs x (get_or (p ∷ drop (suc at) ps) m 0)) past;
                len = length-set now at (y p) ∙ h.len;
                counted = omega (arith, counted_next, e);
              }

-- EACH DISTANCE FROM THE NUMBER BEFORE, all lists as one

-- before index i of a run of numbers and the distances between them
pub record Distances (run old now : List ℕ) (i : ℕ) : Type 0 where
  pub within : i < length run
  pub way : Writing (gaps_after (get_or run 0 0) (drop 1 run)) 0 old (gaps_after (get_or run i 0) (drop (i + 1) run)) i now

module _ (run old : List ℕ) (even : length run ≡ suc (length old)) where
  pub distances_start : Distances run old old 0
  distances_start =
      record {
        within = omega arith;
        way =
            writing_start (gaps_after (get_or run 0 0) (drop 1 run)) 0 old
            (omega (arith, length_gaps (get_or run 0 0) (drop 1 run), length-drop 1 run));
      }

  module _ {now : List ℕ} {i : ℕ} (h : Distances run old now i) where
    pub distances_step : i < length now → Distances run old (set now i (get_or run (i + 1) 0 - get_or run i 0)) (i + 1)
    unfolding gaps_after
    distances_step below =
        let there : i + 1 < length run = omega arith in
        let next : drop (i + 1) run ≡ get_or run (i + 1) 0 ∷ drop (i + 1 + 1) run = rw (add-one (i + 1)) (drop-cons run (i + 1) 0 there) in
        record {
          within = there;
          way =
              writing_one (get_or run (i + 1) 0 - get_or run i 0)
              (gaps_after (get_or run (i + 1) 0) (drop (i + 1 + 1) run)) (rw next at h.way);
        }

    pub distances_end : length now ≤ i → now ≡ gaps_after (get_or run 0 0) (drop 1 run)
    unfolding gaps_after
    distances_end past =
        let few : length run ≤ i + 1 = omega arith in
        let none : drop (i + 1) run ≡ [] = drop_of_length-le run few in
        let all : List ℕ = gaps_after (get_or run 0 0) (drop 1 run) in
        let all_len : length old ≤ length all = omega (arith, length_gaps (get_or run 0 0) (drop 1 run), length-drop 1 run) in
        written (rw none at h.way) ∙ rw (drop_of_length-le old all_len) (append-nil all)

-- GAPS AS SUCH LISTS

pub gaps_pairs : (b : ℕ) (ps : List ℕ) → gaps_after b ps ≡ by_pairs (λ b p. p - b) b ps
unfolding gaps_after by_pairs
gaps_pairs b [] = refl
gaps_pairs b (p ∷ ps) = ap (λ (l : List ℕ). (p - b) ∷ l) (gaps_pairs p ps)

pub gaps_apart : (ps : List ℕ) → first_apart (λ p. p) (λ b p. p - b) ps ≡ gaps ps
unfolding gaps_after first_apart
gaps_apart [] = refl
gaps_apart (p ∷ ps) = let z : p - 0 ≡ p = omega arith in rw (z, gaps_pairs p ps)

-- equal functions give equal lists
pub lists_alike :
    (f g : List ℕ → List ℕ) → ((ps : List ℕ) → f ps ≡ g ps) → (k i : ℕ) (xs ps : List ℕ) →
    lists_from f k i xs ps ≡ lists_from g k i xs ps
unfolding lists_from
lists_alike f g same zero i xs ps = refl
lists_alike f g same (suc k) i xs ps =
    rw (same (take (count_at xs i) ps), lists_alike f g same k (suc i) xs (drop (count_at xs i) ps))
