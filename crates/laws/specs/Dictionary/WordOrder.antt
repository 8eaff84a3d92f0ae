-- The order of words is strict, and ascending words are distinct. Assumes nothing.
use Rattle.std.specs.Prelude.{◌≡◌, refl, true, false, ◌&&◌, ◌⊎◌, List, [], ◌∷◌, ℕ, zero, suc, ◌≤◌, ◌<◌, ltb, eqb, length, get_or}
use Rattle.std.proofs.Common.{◌∙◌, inl, inr, ⊎_elim, arith, lt-ltb, le-ltb, eq-eqb, ltb-true, eqb-true}
use Rattle.basics.specs.Bools.{clash, and_put, and_left, and_right, or_left, or_right, or_get, or_none, le_or_lt}
use Rattle.basics.specs.Member.{In, in_getD}
use Rattle.spec.specs.Dictionary.{word_before, ascend}

pub word_before_self : (a : List ℕ) → word_before a a ≡ false
unfolding word_before
word_before_self [] = refl
word_before_self (x ∷ xs) = or_none (le-ltb x x (omega arith)) (rw (eq-eqb x x refl) (word_before_self xs))

-- one word before another: the first character decides, or it is the same and the rest decides
pub word_before_get :
    (x y : ℕ) (xs ys : List ℕ) → word_before (x ∷ xs) (y ∷ ys) ≡ true → (x < y) ⊎ ((x ≡ y) × (word_before xs ys ≡ true))
unfolding word_before
word_before_get x y xs ys t =
    ⊎_elim (λ (p : ltb x y ≡ true). inl (ltb-true x y p))
    (λ (q : (eqb x y && word_before xs ys) ≡ true).
    inr (eqb-true x y (and_left (eqb x y) (word_before xs ys) q), and_right (eqb x y) (word_before xs ys) q))
    (or_get (ltb x y) (eqb x y && word_before xs ys) t)

pub word_before_first : (x y : ℕ) (xs ys : List ℕ) → x < y → word_before (x ∷ xs) (y ∷ ys) ≡ true
unfolding word_before
word_before_first x y xs ys h = or_left (eqb x y && word_before xs ys) (lt-ltb x y h)

pub word_before_rest : (x y : ℕ) (xs ys : List ℕ) → x ≡ y → word_before xs ys ≡ true → word_before (x ∷ xs) (y ∷ ys) ≡ true
unfolding word_before
word_before_rest x y xs ys e t = or_right (ltb x y) (and_put (eq-eqb x y e) t)

pub word_before_trans : (a b c : List ℕ) → word_before a b ≡ true → word_before b c ≡ true → word_before a c ≡ true
unfolding word_before
word_before_trans a [] c t u = clash t refl
word_before_trans a (y ∷ ys) [] t u = clash u refl
word_before_trans [] (y ∷ ys) (z ∷ zs) t u = refl
word_before_trans (x ∷ xs) (y ∷ ys) (z ∷ zs) t u =
    step (word_before_trans xs ys zs) (word_before_get x y xs ys t) (word_before_get y z ys zs u)
  where
    step :
        (word_before xs ys ≡ true → word_before ys zs ≡ true → word_before xs zs ≡ true) →
        ((x < y) ⊎ ((x ≡ y) × (word_before xs ys ≡ true))) → ((y < z) ⊎ ((y ≡ z) × (word_before ys zs ≡ true))) →
        word_before (x ∷ xs) (z ∷ zs) ≡ true
    step more (inl p) (inl q) = word_before_first x z xs zs (omega arith)
    step more (inl p) (inr q) = word_before_first x z xs zs (omega arith)
    step more (inr p) (inl q) = word_before_first x z xs zs (omega arith)
    step more (inr p) (inr q) = word_before_rest x z xs zs (p.0 ∙ q.0) (more p.1 q.1)

pub ascend_tail : (w : List ℕ) (ws : List (List ℕ)) → ascend (w ∷ ws) ≡ true → ascend ws ≡ true
unfolding ascend
ascend_tail w [] t = refl
ascend_tail w (v ∷ ws) t = and_right (word_before w v) (ascend (v ∷ ws)) t

-- the first of ascending words is before every other
pub ascend_first : (w v : List ℕ) (ws : List (List ℕ)) → ascend (w ∷ ws) ≡ true → In v ws → word_before w v ≡ true
unfolding ascend
ascend_first w v [] t m = absurd m
ascend_first w v (x ∷ xs) t (inl e) = rw e (and_left (word_before w x) (ascend (x ∷ xs)) t)
ascend_first w v (x ∷ xs) t (inr m) =
    word_before_trans w x v (and_left (word_before w x) (ascend (x ∷ xs)) t)
    (ascend_first x v xs (and_right (word_before w x) (ascend (x ∷ xs)) t) m)

pub ascend_get :
    (ws : List (List ℕ)) → ascend ws ≡ true → (i j : ℕ) → i < j → j < length ws → word_before (get_or ws i []) (get_or ws j []) ≡ true
ascend_get [] t i j h b = absurd (omega arith)
ascend_get (w ∷ ws) t i zero h b = absurd (omega arith)
ascend_get (w ∷ ws) t zero (suc j) h b = ascend_first w (get_or ws j []) ws t (in_getD ws j [] (omega arith))
ascend_get (w ∷ ws) t (suc i) (suc j) h b = ascend_get ws (ascend_tail w ws t) i j (omega arith) (omega arith)

pub ascend_distinct :
    (ws : List (List ℕ)) → ascend ws ≡ true → (i j : ℕ) → i < length ws → j < length ws → get_or ws i [] ≡ get_or ws j [] → i ≡ j
ascend_distinct ws t i j bi bj e =
    ⊎_elim
    (λ (p : i ≤ j).
    ⊎_elim (λ (q : j ≤ i). let same : i ≡ j = omega arith in same)
    (λ (q : i < j). clash (ascend_get ws t i j q bj) (rw e (word_before_self (get_or ws j [])))) (le_or_lt j i))
    (λ (p : j < i). clash (ascend_get ws t j i p bi) (rw e (word_before_self (get_or ws j [])))) (le_or_lt i j)
