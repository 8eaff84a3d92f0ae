-- From the refusal number to the contract of a call: one law for an accepted call, one for a refusal. Assumes nothing.
use Rattle.std.specs.Prelude.{◌≡◌, refl, Bool, true, false, cond, ◌⊎◌, List, ℕ, zero, suc}
use Rattle.std.proofs.Math.Path.{sym}
use Rattle.std.proofs.Common.{◌∙◌, inl, inr, arith, eq-eqb, ne_eqb}
use Rattle.spec.specs.declared.Answer.{Answer}
use Rattle.spec.specs.Calls.{or_else, accepted, Answers, zeros}

-- the first of two refusals, or the second
pub or_else_some : (a b : ℕ) → (a ≡ 0 → ⊥) → or_else a b ≡ a
unfolding or_else
or_else_some a b some = rw (ne_eqb a 0 some)

pub or_else_none : (a b : ℕ) → a ≡ 0 → or_else a b ≡ b
unfolding or_else
or_else_none a b none = rw (eq-eqb a 0 none)

-- 8 after a refusal: the refusal, or 8 where it is 0
pub or_eight : (n : ℕ) (b : Bool) → (n ≡ or_else n (cond b 8 0)) ⊎ ((n ≡ 0) × (or_else n (cond b 8 0) ≡ 8))
unfolding or_else
or_eight zero true = inr (refl, refl)
or_eight zero false = inl refl
or_eight (suc n) b = inl (sym (or_else_some (suc n) (cond b 8 0) (λ (e : suc n ≡ 0). omega arith)))

module _ {ℓ} {A : Type ℓ} (n : ℕ) (x y : A) where
  pub accepted_yes : n ≡ 0 → accepted n x y ≡ x
  unfolding accepted
  accepted_yes e = rw (eq-eqb n 0 e)

  pub accepted_no : (n ≡ 0 → ⊥) → accepted n x y ≡ y
  unfolding accepted
  accepted_no ne = rw (ne_eqb n 0 ne)

module _ (n c : ℕ) (r : Answer) (number : r.refusal ≡ n) where
  pub answers_accepted : n ≡ 0 → r.count ≡ c → Answers n c r
  unfolding Answers
  answers_accepted none count = (number, count ∙ sym (accepted_yes n c 0 none))

  pub answers_refused : (n ≡ 0 → ⊥) → r.count ≡ 0 → Answers n c r
  unfolding Answers
  answers_refused some count = (number, count ∙ sym (accepted_no n c 0 some))

-- a refusal, and the work slice cleared
pub record Refuses (number : ℕ) (r : Answer) (work work_now : List ℕ) : Type 0 where
  pub is : r.refusal ≡ number
  pub nothing : r.count ≡ 0
  pub cleared : work_now ≡ zeros work
