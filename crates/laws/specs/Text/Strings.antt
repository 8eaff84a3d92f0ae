-- Strings: the equality test, and standing in a text by absolute positions. Assumes nothing.
use Rattle.std.specs.Prelude.{◌≡◌, refl, true, ◌&&◌, List, [], ◌∷◌, ℕ, suc, ◌+◌, ◌-◌, ◌≤◌, ◌<◌, leb, eqb, length, get_or, take, drop}
use Rattle.std.proofs.Common.{sym, ap, ◌∙◌, arith, length-take, length-drop, ext_get_or}
use Rattle.std.proofs.Common.{get_or-take, get_or-drop, le-leb, leb-true, eq-eqb, eqb-true}
use Rattle.basics.specs.Bools.{clash, and_put, and_left, and_right}
use Rattle.spec.specs.Words.{same, stands}

pub same_get : (a b : List ℕ) → same a b ≡ true → a ≡ b
unfolding same
same_get [] [] t = refl
same_get [] (y ∷ ys) t = clash t refl
same_get (x ∷ xs) [] t = clash t refl
same_get (x ∷ xs) (y ∷ ys) t =
    let heads : x ≡ y = eqb-true x y (and_left (eqb x y) (same xs ys) t) in
    let tails : xs ≡ ys = same_get xs ys (and_right (eqb x y) (same xs ys) t) in
    rw (heads, tails)

pub same_self : (a : List ℕ) → same a a ≡ true
unfolding same
same_self [] = refl
same_self (x ∷ xs) = and_put (eq-eqb x x refl) (same_self xs)

pub same_put : (a b : List ℕ) → a ≡ b → same a b ≡ true
same_put a b e = rw e (same_self b)

-- two runs of n characters are equal, that of s from index a and that of t from index b
abbrev pub SameRun : (s : List ℕ) (a : ℕ) (t : List ℕ) (b n : ℕ) → Type 0
SameRun s a t b n = (j : ℕ) → j < n → get_or s (a + j) 0 ≡ get_or t (b + j) 0

-- the n characters of s from index a on are not c
abbrev pub Lacks : (s : List ℕ) (a n c : ℕ) → Type 0
Lacks s a n c = (j : ℕ) → j < n → get_or s (a + j) 0 ≡ c → ⊥

-- s stands in ts at p: each position p to p + |s| − 1 of ts carries the character of s there
pub record Stand (s ts : List ℕ) (p : ℕ) : Type 0 where
  pub from : 1 ≤ p
  pub within : p + length s ≤ suc (length ts)
  pub equal : (x : ℕ) → p ≤ x → x < p + length s → get_or s (x - p) 0 ≡ get_or ts (x - 1) 0

pub stands_get : (s ts : List ℕ) (p : ℕ) → stands s ts p ≡ true → Stand s ts p
unfolding stands
stands_get s ts p t = record { from = from; within = within; equal = λ x lo hi. equal x lo hi }
  where
    bounds : (leb 1 p && leb (p + length s) (suc (length ts))) ≡ true
    bounds = and_left (leb 1 p && leb (p + length s) (suc (length ts))) (same (take (length s) (drop (p - 1) ts)) s) t

    from : 1 ≤ p
    from = leb-true 1 p (and_left (leb 1 p) (leb (p + length s) (suc (length ts))) bounds)

    within : p + length s ≤ suc (length ts)
    within = leb-true (p + length s) (suc (length ts)) (and_right (leb 1 p) (leb (p + length s) (suc (length ts))) bounds)

    part : take (length s) (drop (p - 1) ts) ≡ s
    part =
        same_get (take (length s) (drop (p - 1) ts)) s
        (and_right (leb 1 p && leb (p + length s) (suc (length ts))) (same (take (length s) (drop (p - 1) ts)) s) t)

    equal : (x : ℕ) → p ≤ x → x < p + length s → get_or s (x - p) 0 ≡ get_or ts (x - 1) 0
    equal x lo hi =
        let at : (p - 1) + (x - p) ≡ x - 1 = omega (arith, from) in
        let here : x - p < length s = omega arith in
        ap (λ (l : List ℕ). get_or l (x - p) 0) (sym part)
        ∙ get_or-take (length s) (drop (p - 1) ts) (x - p) 0 here
        ∙ get_or-drop (p - 1) ts (x - p) 0
        ∙ ap (λ (i : ℕ). get_or ts i 0) at

pub stands_put : (s ts : List ℕ) (p : ℕ) → Stand s ts p → stands s ts p ≡ true
unfolding stands
stands_put s ts p h =
    and_put (and_put (le-leb 1 p h.from) (le-leb (p + length s) (suc (length ts)) h.within))
    (same_put (take (length s) (drop (p - 1) ts)) s (ext_get_or 0 (take (length s) (drop (p - 1) ts)) s len part))
  where
    len : length (take (length s) (drop (p - 1) ts)) ≡ length s
    len = simp (length-take, length-drop) (omega arith)

    part : (i : ℕ) → i < length (take (length s) (drop (p - 1) ts)) → get_or (take (length s) (drop (p - 1) ts)) i 0 ≡ get_or s i 0
    part i below =
        let here : i < length s = omega (arith, len) in
        let back : (p + i) - p ≡ i = omega arith in
        let at : (p + i) - 1 ≡ (p - 1) + i = omega arith in
        get_or-take (length s) (drop (p - 1) ts) i 0 here
        ∙ get_or-drop (p - 1) ts i 0
        ∙ ap (λ (j : ℕ). get_or ts j 0) (sym at)
        ∙ sym (h.equal (p + i) (omega arith) (omega arith))
        ∙ ap (λ (j : ℕ). get_or s j 0) back
