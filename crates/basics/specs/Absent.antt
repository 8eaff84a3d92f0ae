-- The least number that is no element of a list: there is one, and it is at most the list's length. Assumes nothing.
use Rattle.std.specs.Prelude.{◌≡◌, cond, List, [], ◌∷◌, ℕ, zero, suc, ◌+◌, ◌≤◌, ◌<◌, ltb, length, get_or}
use Rattle.std.proofs.Common.{subst, inl, inr, ⊎_elim, arith, below_more, lt-ltb, le-ltb}
use Rattle.basics.specs.Bools.{le_or_lt}
use Rattle.basics.specs.Member.{In, in_getD}

-- every number below g is an element
abbrev pub LowerIn : (xs : List ℕ) → (g : ℕ) → Type 0
LowerIn xs g = (k : ℕ) → k < g → In k xs

pub record LeastAbsent (xs : List ℕ) (g : ℕ) : Type 0 where
  pub absent : In g xs → ⊥
  pub lower : LowerIn xs g

-- a number that is no element is at no index
pub absent_at : (xs : List ℕ) (g : ℕ) → (In g xs → ⊥) → (i : ℕ) → i < length xs → get_or xs i 0 ≡ g → ⊥
absent_at xs g absent i b e = absent (subst (λ (x : ℕ). In x xs) e (in_getD xs i 0 b))

-- there is only one least absent number
pub least_one : {xs : List ℕ} {g h : ℕ} → LeastAbsent xs g → LeastAbsent xs h → g ≡ h
least_one {g} {h} p q =
    ⊎_elim
    (λ (a : g ≤ h).
    ⊎_elim (λ (b : h ≤ g). omega arith) (λ (b : g < h). absurd (p.absent (q.lower g b))) (le_or_lt h g))
    (λ (a : h < g). absurd (q.absent (p.lower h a))) (le_or_lt g h)

-- PIGEONHOLE: a list of n elements does not have all numbers from 0 to n

-- 1 for an element below g
abbrev below_one : (g x : ℕ) → ℕ
below_one g x = cond (ltb x g) 1 0

-- how many elements are below g
unfoldable count_below : (g : ℕ) → List ℕ → ℕ
count_below g [] = 0
count_below g (x ∷ xs) = below_one g x + count_below g xs

one_most : (g x : ℕ) → below_one g x ≤ 1
one_most g x =
    ⊎_elim (λ (h : g ≤ x). rw (le-ltb x g h) (omega arith)) (λ (h : x < g). rw (lt-ltb x g h) (omega arith)) (le_or_lt g x)

one_grows : (g x : ℕ) → below_one g x ≤ below_one (suc g) x
one_grows g x =
    ⊎_elim (λ (h : g ≤ x). rw (le-ltb x g h) (omega arith))
    (λ (h : x < g). rw (lt-ltb x g h, lt-ltb x (suc g) (omega arith)) (omega arith)) (le_or_lt g x)

one_more : (g : ℕ) → below_one g g < below_one (suc g) g
one_more g = rw (le-ltb g g (omega arith), lt-ltb g (suc g) (omega arith)) (omega arith)

count_most : (g : ℕ) (xs : List ℕ) → count_below g xs ≤ length xs
unfolding count_below
count_most g [] = omega arith
count_most g (x ∷ xs) = omega (arith, one_most g x, count_most g xs)

count_grows : (g : ℕ) (xs : List ℕ) → count_below g xs ≤ count_below (suc g) xs
unfolding count_below
count_grows g [] = omega arith
count_grows g (x ∷ xs) = omega (arith, one_grows g x, count_grows g xs)

count_more : (g : ℕ) (xs : List ℕ) → In g xs → count_below g xs < count_below (suc g) xs
unfolding count_below
count_more g [] m = absurd m
count_more g (x ∷ xs) (inl e) = omega (arith, subst (λ (y : ℕ). below_one g y < below_one (suc g) y) e (one_more g), count_grows g xs)
count_more g (x ∷ xs) (inr m) = omega (arith, one_grows g x, count_more g xs m)

lower_counted : (g : ℕ) (xs : List ℕ) → LowerIn xs g → g ≤ count_below g xs
lower_counted zero xs all = omega arith
lower_counted (suc g) xs all =
    omega (arith, lower_counted g xs (λ k h. all k (omega arith)), count_more g xs (all g (omega arith)))

pub lower_few : (xs : List ℕ) (g : ℕ) → LowerIn xs g → g ≤ length xs
lower_few xs g all = omega (arith, lower_counted g xs all, count_most g xs)

-- THE SEARCH, from 0 on

pub lower_none : (xs : List ℕ) → LowerIn xs 0
lower_none xs k h = absurd (omega arith)

pub lower_next : (xs : List ℕ) (g : ℕ) → LowerIn xs g → In g xs → LowerIn xs (g + 1)
lower_next xs g all here = below_more (λ (k : ℕ). In k xs) g all here
