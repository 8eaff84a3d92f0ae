-- Walks over the numbers p, p + 1, ..: a test that holds at each, at some, and the numbers at which it holds. Each recursion over
-- positions or offsets is one of these, so these are its laws. Assumes nothing.
use Rattle.std.specs.Prelude.{◌≡◌, refl, Bool, true, false, ◌&&◌, ◌||◌, cond, ◌⊎◌, List, [], ◌∷◌, ◌++◌, ℕ, zero, suc, ◌+◌, ◌-◌, ◌≤◌, ◌<◌}
use Rattle.std.proofs.Common.{ap, ◌∙◌, inl, inr, ⊎_elim, append-nil, arith}
use Rattle.basics.specs.Bools.{clash, le_or_lt, and_put, and_left, and_right, or_left, or_right, or_get}
use Rattle.basics.specs.Member.{In, in_cond_get, in_cond_here, in_cond_there}

-- x is p, or comes after it
first_or_later : (p x : ℕ) → p ≤ x → (x ≡ p) ⊎ (suc p ≤ x)
first_or_later p x lo =
    ⊎_elim (λ (h : x ≤ p). let e : x ≡ p = omega arith in inl e) (λ (h : p < x). inr h) (le_or_lt x p)

-- what holds from i on, below n, and at i − 1 holds from i − 1 on
pub from_less :
    (P : ℕ → Type 0) (n i : ℕ) → ((j : ℕ) → j < n → i ≤ j → P j) → P (i - 1) → (j : ℕ) → j < n → i - 1 ≤ j → P j
from_less P n i rest here j b lo =
    ⊎_elim (λ (h : i ≤ j). rest j b h) (λ (h : j < i). let e : j ≡ i - 1 = omega arith in rw e here) (le_or_lt i j)

-- of the numbers a to b − 1, what holds at those before r and those from t on
pub record Outside (P : ℕ → Type 0) (a r t b : ℕ) : Type 0 where
  pub from : a ≤ r
  pub order : r ≤ t
  pub to : t ≤ b
  pub front : (i : ℕ) → a ≤ i → i < r → P i
  pub back : (i : ℕ) → t ≤ i → i < b → P i

-- AT EACH

unfoldable pub all_from : (left p : ℕ) → (ℕ → Bool) → Bool
all_from zero p f = true
all_from (suc n) p f = f p && all_from n (suc p) f

pub all_from_get :
    (n p : ℕ) (f : ℕ → Bool) → all_from n p f ≡ true → (x : ℕ) → p ≤ x → x < p + n → f x ≡ true
unfolding all_from
all_from_get zero p f t x lo hi = absurd (omega arith)
all_from_get (suc n) p f t x lo hi =
    ⊎_elim
    (λ (e : x ≡ p). rw e (and_left (f p) (all_from n (suc p) f) t))
    (λ (h : suc p ≤ x). all_from_get n (suc p) f (and_right (f p) (all_from n (suc p) f) t) x h (omega arith))
    (first_or_later p x lo)

pub all_from_put :
    (n p : ℕ) (f : ℕ → Bool) → ((x : ℕ) → p ≤ x → x < p + n → f x ≡ true) → all_from n p f ≡ true
unfolding all_from
all_from_put zero p f h = refl
all_from_put (suc n) p f h =
    and_put (h p (omega arith) (omega arith)) (all_from_put n (suc p) f (λ x lo hi. h x (omega arith) (omega arith)))

-- AT SOME

unfoldable pub any_from : (left p : ℕ) → (ℕ → Bool) → Bool
any_from zero p f = false
any_from (suc n) p f = f p || any_from n (suc p) f

pub any_from_get :
    (n p : ℕ) (f : ℕ → Bool) → any_from n p f ≡ true → (x : ℕ) × (p ≤ x) × (x < p + n) × (f x ≡ true)
unfolding any_from
any_from_get zero p f t = clash t refl
any_from_get (suc n) p f t =
    ⊎_elim
    (λ (e : f p ≡ true). (p, omega arith, omega arith, e))
    (λ (e : any_from n (suc p) f ≡ true).
    let later = any_from_get n (suc p) f e in (later.0, omega arith, omega arith, later.3))
    (or_get (f p) (any_from n (suc p) f) t)

pub any_from_put :
    (n p : ℕ) (f : ℕ → Bool) (x : ℕ) → p ≤ x → x < p + n → f x ≡ true → any_from n p f ≡ true
unfolding any_from
any_from_put zero p f x lo hi t = absurd (omega arith)
any_from_put (suc n) p f x lo hi t =
    ⊎_elim
    (λ (e : x ≡ p). or_left (any_from n (suc p) f) (rw e at t))
    (λ (h : suc p ≤ x). or_right (f p) (any_from_put n (suc p) f x h (omega arith) t))
    (first_or_later p x lo)

-- THOSE AT WHICH IT HOLDS

unfoldable pub those_from : (left p : ℕ) → (ℕ → Bool) → List ℕ
those_from zero p f = []
those_from (suc n) p f = cond (f p) (p ∷ those_from n (suc p) f) (those_from n (suc p) f)

pub those_from_get :
    (n p : ℕ) (f : ℕ → Bool) (x : ℕ) → In x (those_from n p f) → (p ≤ x) × (x < p + n) × (f x ≡ true)
unfolding those_from
those_from_get zero p f x m = absurd m
those_from_get (suc n) p f x m =
    ⊎_elim
    (λ (h : (f p ≡ true) × (x ≡ p)). (omega arith, omega arith, rw h.1 h.0))
    (λ (h : In x (those_from n (suc p) f)).
    let later = those_from_get n (suc p) f x h in (omega arith, omega arith, later.2))
    (in_cond_get x p (those_from n (suc p) f) (f p) m)

pub those_from_put :
    (n p : ℕ) (f : ℕ → Bool) (x : ℕ) → p ≤ x → x < p + n → f x ≡ true → In x (those_from n p f)
unfolding those_from
those_from_put zero p f x lo hi t = absurd (omega arith)
those_from_put (suc n) p f x lo hi t =
    ⊎_elim
    (λ (e : x ≡ p). rw e (in_cond_here p (those_from n (suc p) f) (f p) (rw e at t)))
    (λ (h : suc p ≤ x).
    in_cond_there x p (those_from n (suc p) f) (f p) (those_from_put n (suc p) f x h (omega arith) t))
    (first_or_later p x lo)

-- two tests that agree give the same numbers
pub those_from_alike :
    (n p : ℕ) (f g : ℕ → Bool) → ((x : ℕ) → p ≤ x → x < p + n → f x ≡ g x) → those_from n p f ≡ those_from n p g
unfolding those_from
those_from_alike zero p f g h = refl
those_from_alike (suc n) p f g h =
    rw (h p (omega arith) (omega arith), those_from_alike n (suc p) f g (λ x lo hi. h x (omega arith) (omega arith)))

-- a test that holds nowhere gives none
pub those_from_none :
    (n p : ℕ) (f : ℕ → Bool) → ((x : ℕ) → p ≤ x → x < p + n → f x ≡ false) → those_from n p f ≡ []
unfolding those_from
those_from_none zero p f h = refl
those_from_none (suc n) p f h =
    rw (h p (omega arith) (omega arith), those_from_none n (suc p) f (λ x lo hi. h x (omega arith) (omega arith)))

-- two walks one after the other are one
pub those_from_append :
    (n k p : ℕ) (f : ℕ → Bool) → those_from (n + k) p f ≡ those_from n p f ++ those_from k (p + n) f
unfolding those_from
those_from_append zero k p f =
    let z : 0 + k ≡ k = omega arith in
    let y : p + 0 ≡ p = omega arith in
    rw (z, y)
those_from_append (suc n) k p f =
    let z : suc n + k ≡ suc (n + k) = omega arith in
    let y : p + suc n ≡ suc p + n = omega arith in
    rw (z, y, those_from_append n k (suc p) f) (kept (f p))
  where
    kept :
        (b : Bool) →
        cond b (p ∷ those_from n (suc p) f ++ those_from k (suc p + n) f) (those_from n (suc p) f ++ those_from k (suc p + n) f)
        ≡ cond b (p ∷ those_from n (suc p) f) (those_from n (suc p) f) ++ those_from k (suc p + n) f
    kept true = refl
    kept false = refl

-- the last k steps may be left out if they find nothing
pub those_from_fewer :
    (n k p : ℕ) (f : ℕ → Bool) → ((x : ℕ) → p + n ≤ x → x < p + n + k → f x ≡ false) → those_from (n + k) p f ≡ those_from n p f
those_from_fewer n k p f h =
    those_from_append n k p f
    ∙ ap (λ (xs : List ℕ). those_from n p f ++ xs) (those_from_none k (p + n) f h)
    ∙ append-nil (those_from n p f)
