-- Stores into a list, one by one. Assumes nothing.
use Rattle.std.specs.Prelude.{◌≡◌, refl, ◌⊎◌, List, [], ◌∷◌, ℕ, suc, ◌+◌, ◌-◌, ◌≤◌, ◌<◌, length, get_or, set}
use Rattle.std.proofs.Common.{sym, ◌∙◌, subst, inl, inr, ⊎_elim, arith, below_more, length-set, get_or-set_same, get_or-set_other}
use Rattle.std.proofs.lemmas.List.Edits.{sets}
use Rattle.std.proofs.Math.Seq.{set_out}
use Rattle.basics.specs.Bools.{le_or_lt}
use Rattle.basics.specs.Order.{less_equal_more}

module _ {A : Type 0} (z : A) where
  -- an element is unchanged, or is the one stored
  pub set_either :
      (l : List A) (k : ℕ) (v : A) (i : ℕ) → (get_or (set l k v) i z ≡ get_or l i z) ⊎ ((i ≡ k) × (get_or (set l k v) i z ≡ v))
  set_either l k v i = go (less_equal_more i k)
    where
      go : (i < k) ⊎ ((i ≡ k) ⊎ (k < i)) → (get_or (set l k v) i z ≡ get_or l i z) ⊎ ((i ≡ k) × (get_or (set l k v) i z ≡ v))
      go (inl b) = inl (get_or-set_other l k i v z (λ e. omega arith))
      go (inr (inr b)) = inl (get_or-set_other l k i v z (λ e. omega arith))
      go (inr (inl e)) =
          ⊎_elim (λ (b : length l ≤ k). inl (rw (set_out l k v b)))
          (λ (b : k < length l). inr (e, rw e (get_or-set_same l k v z b))) (le_or_lt (length l) k)

  -- an element that is c stays c if a store to its index is c
  set_keeps : (l : List A) (k : ℕ) (v : A) (i : ℕ) (c : A) → get_or l i z ≡ c → (i ≡ k → v ≡ c) → get_or (set l k v) i z ≡ c
  set_keeps l k v i c h right =
      ⊎_elim (λ (e : get_or (set l k v) i z ≡ get_or l i z). e ∙ h)
      (λ (e : (i ≡ k) × (get_or (set l k v) i z ≡ v)). e.1 ∙ right e.0) (set_either l k v i)

  -- what holds for each element below i, and for the store at i, holds for each below i + 1
  abbrev EachBelow : (P : ℕ → A → Type 0) (l : List A) (i : ℕ) → Type 0
  EachBelow P l i = (k : ℕ) → k < i → P k (get_or l k z)

  pub set_more :
      (P : ℕ → A → Type 0) (l : List A) (i : ℕ) (v : A) → i < length l → EachBelow P l i → P i v → EachBelow P (set l i v) (i + 1)
  set_more P l i v room all here =
      below_more (λ (k : ℕ). P k (get_or (set l i v) k z)) i
      (λ k b. subst (P k) (sym (get_or-set_other l i k v z (λ e. omega arith))) (all k b))
      (subst (P i) (sym (get_or-set_same l i v z room)) here)

  pub sets_keeps :
      (l : List A) (k : ℕ) (vs : List A) (i : ℕ) (c : A) → get_or l i z ≡ c →
      (k ≤ i → i < k + length vs → get_or vs (i - k) z ≡ c) → get_or (sets l k vs) i z ≡ c
  sets_keeps l k [] i c h right = h
  sets_keeps l k (v ∷ vs) i c h right =
      sets_keeps (set l k v) (suc k) vs i c (set_keeps l k v i c h here) later
    where
      here : i ≡ k → v ≡ c
      here e =
          let w : i - k ≡ 0 = omega arith in
          rw w at (right (omega arith) (omega arith))

      later : suc k ≤ i → i < suc k + length vs → get_or vs (i - suc k) z ≡ c
      later lo hi =
          let w : i - k ≡ suc (i - suc k) = omega arith in
          rw w at (right (omega arith) (omega arith))

  -- an element is unchanged, or is one of those stored
  pub sets_either :
      (l : List A) (k : ℕ) (vs : List A) (i : ℕ) → (get_or (sets l k vs) i z ≡ get_or l i z) ⊎ ((k ≤ i) × (i < k + length vs))
  sets_either l k vs i = go (le_or_lt k i) (le_or_lt (k + length vs) i)
    where
      go :
          (k ≤ i) ⊎ (i < k) → (k + length vs ≤ i) ⊎ (i < k + length vs) →
          (get_or (sets l k vs) i z ≡ get_or l i z) ⊎ ((k ≤ i) × (i < k + length vs))
      go (inl lo) (inr hi) = inr (lo, hi)
      go (inl lo) (inl past) = inl (sets_keeps l k vs i (get_or l i z) refl (λ a b. absurd (omega arith)))
      go (inr early) end = inl (sets_keeps l k vs i (get_or l i z) refl (λ a b. absurd (omega arith)))

  -- and what is stored at i is there
  pub sets_writes :
      (l : List A) (k : ℕ) (vs : List A) (i : ℕ) {c : A} → i < length l → (k ≤ i) × (i < k + length vs) → get_or vs (i - k) z ≡ c →
      get_or (sets l k vs) i z ≡ c
  sets_writes l k [] i b within e = absurd (omega arith)
  sets_writes l k (v ∷ vs) i {c} b within e =
      ⊎_elim
      (λ (h : i ≤ k).
      let at_k : i ≡ k = omega arith in
      let w : i - k ≡ 0 = omega arith in
      let first : v ≡ c = rw w at e in
      sets_keeps (set l k v) (suc k) vs i c (rw at_k (get_or-set_same l k v z (omega arith) ∙ first)) (λ p q. absurd (omega arith)))
      (λ (h : k < i).
      let w : i - k ≡ suc (i - suc k) = omega arith in
      sets_writes (set l k v) (suc k) vs i (omega (arith, length-set l k v)) (h, omega arith) (rw w at e))
      (le_or_lt i k)
