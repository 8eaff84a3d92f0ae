-- Strictly ascending lists over a test that is a strict order, and insertion into them. Assumes nothing.
use Rattle.std.specs.Prelude.{◌≡◌, Bool, cond, ◌⊎◌, ltb, get_or}
use Rattle.std.proofs.Math.Path.{refl, ap}
use Rattle.std.proofs.Common.{sym, ◌∙◌, arith, lt-ltb, le-ltb, ltb-true, ltb-false}
use Rattle.std.proofs.Math.Bool.{true, false}
use Rattle.std.proofs.Math.Logic.{inl, inr, ⊎_elim}
use mathlib.Core.List.{List, [], ◌∷◌, ◌++◌}
use Prim.Native.Nat.{ℕ, zero, suc, ◌≤◌, ◌<◌}
use Rattle.std.proofs.Math.ListN.{length}
use Rattle.basics.specs.Bools.{clash}
use Rattle.basics.specs.Member.{In, in_append_get, in_getD}

-- each element is before all that follow it
abbrev pub Ascend : {A : Type 0} → (A → A → Bool) → List A → Type 0
Ascend before [] = Unit
Ascend {A} before (x ∷ xs) = ((y : A) → In y xs → before x y ≡ true) × Ascend before xs

-- of any two elements at different indexes one is before the other
abbrev pub Apart : {A : Type 0} → (A → A → Bool) → List A → Type 0
Apart before [] = Unit
Apart {A} before (x ∷ xs) = ((y : A) → In y xs → (before x y ≡ true) ⊎ (before y x ≡ true)) × Apart before xs

pub record Strict {A : Type 0} (before : A → A → Bool) : Type 0 where
  pub irreflexive : (a : A) → before a a ≡ false
  pub transitive : (a b c : A) → before a b ≡ true → before b c ≡ true → before a c ≡ true

unfoldable pub insert : {A : Type 0} → (A → A → Bool) → A → List A → List A
insert before a [] = a ∷ []
insert before a (x ∷ xs) = cond (before a x) (a ∷ x ∷ xs) (x ∷ insert before a xs)

unfoldable pub sort : {A : Type 0} → (A → A → Bool) → List A → List A
sort before [] = []
sort before (x ∷ xs) = insert before x (sort before xs)

module _ {A : Type 0} (before : A → A → Bool) where
  -- JOINED LISTS

  pub ascend_append :
      (xs ys : List A) → Ascend before xs → Ascend before ys → ((x y : A) → In x xs → In y ys → before x y ≡ true) →
      Ascend before (xs ++ ys)
  ascend_append [] ys p q cross = q
  ascend_append (x ∷ xs) ys p q cross = (
    λ y m. ⊎_elim (λ (l : In y xs). p.0 y l) (λ (r : In y ys). cross x y (inl refl) r) (in_append_get y xs ys m),
    ascend_append xs ys p.1 q (λ a b l r. cross a b (inr l) r),
  )

  pub apart_append :
      (xs ys : List A) → Apart before xs → Apart before ys →
      ((x y : A) → In x xs → In y ys → (before x y ≡ true) ⊎ (before y x ≡ true)) → Apart before (xs ++ ys)
  apart_append [] ys p q cross = q
  apart_append (x ∷ xs) ys p q cross = (
    λ y m. ⊎_elim (λ (l : In y xs). p.0 y l) (λ (r : In y ys). cross x y (inl refl) r) (in_append_get y xs ys m),
    apart_append xs ys p.1 q (λ a b l r. cross a b (inr l) r),
  )

  -- MEMBERS OF INSERT AND SORT

  pub in_insert_get : (b a : A) (xs : List A) → In b (insert before a xs) → (b ≡ a) ⊎ In b xs
  unfolding insert
  in_insert_get b a [] m = m
  in_insert_get b a (x ∷ xs) m = go (before a x) (in_insert_get b a xs) m
    where
      go :
          (t : Bool) → (In b (insert before a xs) → (b ≡ a) ⊎ In b xs) → In b (cond t (a ∷ x ∷ xs) (x ∷ insert before a xs)) →
          (b ≡ a) ⊎ In b (x ∷ xs)
      go true ih (inl e) = inl e
      go true ih (inr k) = inr k
      go false ih (inl e) = inr (inl e)
      go false ih (inr k) = ⊎_elim (λ (e : b ≡ a). inl e) (λ (l : In b xs). inr (inr l)) (ih k)

  pub in_insert_put : (b a : A) (xs : List A) → (b ≡ a) ⊎ In b xs → In b (insert before a xs)
  unfolding insert
  in_insert_put b a [] m = m
  in_insert_put b a (x ∷ xs) m = go (before a x) (in_insert_put b a xs) m
    where
      go :
          (t : Bool) → ((b ≡ a) ⊎ In b xs → In b (insert before a xs)) → (b ≡ a) ⊎ In b (x ∷ xs) →
          In b (cond t (a ∷ x ∷ xs) (x ∷ insert before a xs))
      go true ih k = k
      go false ih (inl e) = inr (ih (inl e))
      go false ih (inr (inl e)) = inl e
      go false ih (inr (inr k)) = inr (ih (inr k))

  pub in_sort_get : (b : A) (xs : List A) → In b (sort before xs) → In b xs
  unfolding sort
  in_sort_get b [] m = m
  in_sort_get b (x ∷ xs) m =
      ⊎_elim (λ (e : b ≡ x). inl e) (λ (k : In b (sort before xs)). inr (in_sort_get b xs k)) (in_insert_get b x (sort before xs) m)

  pub in_sort_put : (b : A) (xs : List A) → In b xs → In b (sort before xs)
  unfolding sort
  in_sort_put b [] m = m
  in_sort_put b (x ∷ xs) (inl e) = in_insert_put b x (sort before xs) (inl e)
  in_sort_put b (x ∷ xs) (inr m) = in_insert_put b x (sort before xs) (inr (in_sort_put b xs m))

  pub length_insert : (a : A) (xs : List A) → length (insert before a xs) ≡ suc (length xs)
  unfolding insert
  length_insert a [] = refl
  length_insert a (x ∷ xs) = go (before a x) (length_insert a xs)
    where
      go :
          (t : Bool) → length (insert before a xs) ≡ suc (length xs) →
          length (cond t (a ∷ x ∷ xs) (x ∷ insert before a xs)) ≡ suc (suc (length xs))
      go true ih = refl
      go false ih = ap suc ih

  pub length_sort : (xs : List A) → length (sort before xs) ≡ length xs
  unfolding sort
  length_sort [] = refl
  length_sort (x ∷ xs) = length_insert x (sort before xs) ∙ ap suc (length_sort xs)

module _ {A : Type 0} {before : A → A → Bool} (strict : Strict before) where
  not_itself {ℓ} : {X : Type ℓ} → (a b : A) → before a b ≡ true → a ≡ b → X
  not_itself a b t e = clash (rw (← e) at t) (strict.irreflexive a)

  -- if each list's least element is in the other list, the two are equal
  same_first :
      {x y : A} (xs ys : List A) → ((a : A) → In a xs → before x a ≡ true) → ((a : A) → In a ys → before y a ≡ true) →
      In x (y ∷ ys) → In y (x ∷ xs) → x ≡ y
  same_first xs ys p q (inl e) m = e
  same_first xs ys p q (inr k) (inl e) = sym e
  same_first {x} {y} xs ys p q (inr k) (inr l) = not_itself x x (strict.transitive x y x (p y l) (q x k)) refl

  other : (a x y : A) (ys : List A) → before x a ≡ true → x ≡ y → In a (y ∷ ys) → In a ys
  other a x y ys t e (inl k) = not_itself x a t (e ∙ sym k)
  other a x y ys t e (inr m) = m

  -- Strictly ascending lists with the same members are equal.
  pub ascend_unique :
      (xs ys : List A) → Ascend before xs → Ascend before ys → ((a : A) → In a xs → In a ys) → ((a : A) → In a ys → In a xs) →
      xs ≡ ys
  ascend_unique [] [] p q f g = refl
  ascend_unique [] (y ∷ ys) p q f g = absurd (g y (inl refl))
  ascend_unique (x ∷ xs) [] p q f g = absurd (f x (inl refl))
  ascend_unique (x ∷ xs) (y ∷ ys) p q f g =
      let heads : x ≡ y = same_first xs ys p.0 q.0 (f x (inl refl)) (g y (inl refl)) in
      let tails : xs ≡ ys =
      ascend_unique xs ys p.1 q.1 (λ a m. other a x y ys (p.0 a m) heads (f a (inr m)))
      (λ a m. other a y x xs (q.0 a m) (sym heads) (g a (inr m))) in
      rw (heads, tails)

  -- if the first list's least element is in the tail of the second, all common elements are
  in_rest :
      {x y : A} (xs ys : List A) → ((a : A) → In a xs → before x a ≡ true) → ((a : A) → In a ys → before y a ≡ true) → In x ys →
      {a : A} → In a (x ∷ xs) → In a (y ∷ ys) → In a ys
  in_rest xs ys p q k m (inr l) = l
  in_rest xs ys p q k (inl d) (inl e) = rw d k
  in_rest {x} xs ys p q k {a} (inr m) (inl e) = not_itself x x (strict.transitive x a x (p a m) (rw e (q x k))) refl

  -- a strictly ascending list whose members are all in another such list is no longer than it
  pub ascend_fits : (ys xs : List A) → Ascend before xs → Ascend before ys → ((a : A) → In a xs → In a ys) → length xs ≤ length ys
  ascend_fits ys [] p q f = omega arith
  ascend_fits [] (x ∷ xs) p q f = absurd (f x (inl refl))
  ascend_fits (y ∷ ys) (x ∷ xs) p q f =
      ⊎_elim
      (λ (e : x ≡ y). omega (arith, ascend_fits ys xs p.1 q.1 (λ a m. other a x y ys (p.0 a m) e (f a (inr m)))))
      (λ (k : In x ys).
      omega (arith, ascend_fits ys (x ∷ xs) p q.1 (λ a m. in_rest xs ys p.0 q.0 k m (f a m))))
      (f x (inl refl))

  -- and if it is no shorter, it is that list
  pub ascend_counted :
      (xs ys : List A) → Ascend before xs → Ascend before ys → ((a : A) → In a xs → In a ys) → length ys ≤ length xs → xs ≡ ys
  ascend_counted [] [] p q f n = refl
  ascend_counted [] (y ∷ ys) p q f n = absurd (omega arith)
  ascend_counted (x ∷ xs) [] p q f n = absurd (f x (inl refl))
  ascend_counted (x ∷ xs) (y ∷ ys) p q f n =
      ⊎_elim
      (λ (e : x ≡ y).
      let tails : xs ≡ ys =
      ascend_counted xs ys p.1 q.1 (λ a m. other a x y ys (p.0 a m) e (f a (inr m))) (omega arith) in
      rw (e, tails))
      (λ (k : In x ys).
      absurd (omega (arith, ascend_fits ys (x ∷ xs) p q.1 (λ a m. in_rest xs ys p.0 q.0 k m (f a m)))))
      (f x (inl refl))

  -- no element is at two indexes
  pub ascend_once :
      (xs : List A) (z : A) → Ascend before xs → {i j : ℕ} → i < length xs → j < length xs → get_or xs i z ≡ get_or xs j z → i ≡ j
  ascend_once [] z p hi hj e = absurd (omega arith)
  ascend_once (x ∷ xs) z p {i = zero} {j = zero} hi hj e = refl
  ascend_once (x ∷ xs) z p {i = zero} {j = suc j} hi hj e =
      not_itself x (get_or xs j z) (p.0 (get_or xs j z) (in_getD xs j z (omega arith))) e
  ascend_once (x ∷ xs) z p {i = suc i} {j = zero} hi hj e =
      not_itself x (get_or xs i z) (p.0 (get_or xs i z) (in_getD xs i z (omega arith))) (sym e)
  ascend_once (x ∷ xs) z p {i = suc i} {j = suc j} hi hj e = ap suc (ascend_once xs z p.1 (omega arith) (omega arith) e)

  -- inserting an element that is comparable with every other one keeps the order
  pub insert_ascends :
      (a : A) (xs : List A) → Ascend before xs → ((x : A) → In x xs → (before a x ≡ true) ⊎ (before x a ≡ true)) →
      Ascend before (insert before a xs)
  unfolding insert
  insert_ascends a [] p c = (λ y m. absurd m, tt)
  insert_ascends a (x ∷ xs) p c = go (before a x) refl (insert_ascends a xs p.1 (λ y m. c y (inr m)))
    where
      after : before a x ≡ true → (y : A) → In y (x ∷ xs) → before a y ≡ true
      after t y (inl e) = rw e t
      after t y (inr m) = strict.transitive a x y t (p.0 y m)

      first : before a x ≡ false → before x a ≡ true
      first t = ⊎_elim (λ (l : before a x ≡ true). clash l t) (λ (r : before x a ≡ true). r) (c x (inl refl))

      go :
          (t : Bool) → before a x ≡ t → Ascend before (insert before a xs) →
          Ascend before (cond t (a ∷ x ∷ xs) (x ∷ insert before a xs))
      go true t ih = (after t, p)
      go false t ih = (
        λ y m. ⊎_elim (λ (e : y ≡ a). rw e (first t)) (λ (k : In y xs). p.0 y k) (in_insert_get before y a xs m),
        ih,
      )

  pub sort_ascends : (xs : List A) → Apart before xs → Ascend before (sort before xs)
  unfolding sort
  sort_ascends [] p = tt
  sort_ascends (x ∷ xs) p =
      insert_ascends x (sort before xs) (sort_ascends xs p.1) (λ y m. p.0 y (in_sort_get before y xs m))

-- NUMBERS

pub less_equal_more : (a b : ℕ) → (a < b) ⊎ ((a ≡ b) ⊎ (b < a))
less_equal_more a b = go (ltb a b) (ltb b a) refl refl
  where
    go : (s t : Bool) → ltb a b ≡ s → ltb b a ≡ t → (a < b) ⊎ ((a ≡ b) ⊎ (b < a))
    go true t p q = inl (ltb-true a b p)
    go false true p q = inr (inr (ltb-true b a q))
    go false false p q = inr (inl (omega (arith, ltb-false a b p, ltb-false b a q)))

pub ltb_strict : Strict ltb
ltb_strict =
    record {
      irreflexive = λ a. le-ltb a a (omega arith);
      transitive = λ a b c p q. lt-ltb a c (omega (arith, ltb-true a b p, ltb-true b c q));
    }
