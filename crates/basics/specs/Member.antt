-- Membership in a list, by recursion. Assumes nothing.
use Rattle.std.specs.Prelude.{◌≡◌, refl, Bool, true, false, cond, ◌⊎◌, List, [], ◌∷◌, ◌++◌, map, ℕ, zero, suc, ◌<◌, length, get_or}
use Rattle.std.proofs.Common.{sym, ap, subst, inl, inr, ⊎_elim, arith}
use Rattle.basics.specs.Bools.{clash}

abbrev pub In : {A : Type 0} → A → List A → Type 0
In a [] = ⊥
In a (x ∷ xs) = (a ≡ x) ⊎ In a xs

module _ {A : Type 0} where
  pub in_append_left : (a : A) (xs ys : List A) → In a xs → In a (xs ++ ys)
  in_append_left a [] ys m = absurd m
  in_append_left a (x ∷ xs) ys (inl e) = inl e
  in_append_left a (x ∷ xs) ys (inr m) = inr (in_append_left a xs ys m)

  pub in_append_right : (a : A) (xs ys : List A) → In a ys → In a (xs ++ ys)
  in_append_right a [] ys m = m
  in_append_right a (x ∷ xs) ys m = inr (in_append_right a xs ys m)

  pub in_append_get : (a : A) (xs ys : List A) → In a (xs ++ ys) → In a xs ⊎ In a ys
  in_append_get a [] ys m = inr m
  in_append_get a (x ∷ xs) ys (inl e) = inl (inl e)
  in_append_get a (x ∷ xs) ys (inr m) = ⊎_elim (λ (p : In a xs). inl (inr p)) (λ (q : In a ys). inr q) (in_append_get a xs ys m)

  -- membership where a test decides whether an element is kept
  pub in_cond_get : (a x : A) (xs : List A) (b : Bool) → In a (cond b (x ∷ xs) xs) → ((b ≡ true) × (a ≡ x)) ⊎ In a xs
  in_cond_get a x xs true (inl e) = inl (refl, e)
  in_cond_get a x xs true (inr m) = inr m
  in_cond_get a x xs false m = inr m

  pub in_cond_here : (x : A) (xs : List A) (b : Bool) → b ≡ true → In x (cond b (x ∷ xs) xs)
  in_cond_here x xs true t = inl refl
  in_cond_here x xs false t = clash t refl

  pub in_cond_there : (a x : A) (xs : List A) (b : Bool) → In a xs → In a (cond b (x ∷ xs) xs)
  in_cond_there a x xs true m = inr m
  in_cond_there a x xs false m = m

  -- membership where a test decides whether an element is left out
  pub in_skip_get : (a x : A) (xs : List A) (b : Bool) → In a (cond b xs (x ∷ xs)) → ((b ≡ false) × (a ≡ x)) ⊎ In a xs
  in_skip_get a x xs true m = inr m
  in_skip_get a x xs false (inl e) = inl (refl, e)
  in_skip_get a x xs false (inr m) = inr m

  pub in_skip_here : (x : A) (xs : List A) (b : Bool) → b ≡ false → In x (cond b xs (x ∷ xs))
  in_skip_here x xs true f = clash refl f
  in_skip_here x xs false f = inl refl

  pub in_skip_there : (a x : A) (xs : List A) (b : Bool) → In a xs → In a (cond b xs (x ∷ xs))
  in_skip_there a x xs true m = m
  in_skip_there a x xs false m = inr m

  pub in_getD : (xs : List A) (i : ℕ) (z : A) → i < length xs → In (get_or xs i z) xs
  in_getD [] i z h = absurd (omega arith)
  in_getD (x ∷ xs) zero z h = inl refl
  in_getD (x ∷ xs) (suc i) z h = inr (in_getD xs i z (omega arith))

  -- a member has an index
  pub member_index : (a : A) (xs : List A) (z : A) → In a xs → (i : ℕ) × (i < length xs) × (get_or xs i z ≡ a)
  member_index a [] z m = absurd m
  member_index a (x ∷ xs) z (inl e) = (0, omega arith, sym e)
  member_index a (x ∷ xs) z (inr m) =
      let more : (i : ℕ) × (i < length xs) × (get_or xs i z ≡ a) = member_index a xs z m in
      (suc more.0, omega arith, more.2)

  -- what holds for the head and for the members of the tail holds for every member
  pub all_cons {ℓ} : (P : A → Type ℓ) (x : A) (xs : List A) → P x → ((a : A) → In a xs → P a) → (a : A) → In a (x ∷ xs) → P a
  all_cons P x xs p h a (inl e) = subst P (sym e) p
  all_cons P x xs p h a (inr m) = h a m

module _ {A B : Type 0} (f : A → B) where
  pub in_map_get : (b : B) (xs : List A) → In b (map f xs) → (a : A) × In a xs × (f a ≡ b)
  in_map_get b [] m = absurd m
  in_map_get b (x ∷ xs) (inl e) = (x, inl refl, sym e)
  in_map_get b (x ∷ xs) (inr m) =
      let (a, n, e) = in_map_get b xs m in
      (a, inr n, e)

  pub in_map_put : (a : A) (xs : List A) → In a xs → In (f a) (map f xs)
  in_map_put a [] m = absurd m
  in_map_put a (x ∷ xs) (inl e) = inl (ap f e)
  in_map_put a (x ∷ xs) (inr m) = inr (in_map_put a xs m)
