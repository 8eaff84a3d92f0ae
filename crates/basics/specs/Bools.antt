-- From Boolean tests to facts (`_get`) and back (`_put`). Assumes nothing.
use Rattle.std.specs.Prelude.{◌≡◌, refl, Bool, true, false, ◌&&◌, ◌||◌, not, ◌⊎◌, ℕ, ◌≤◌, ◌<◌, T, leb}
use Rattle.std.proofs.Common.{sym, ◌∙◌, subst, inl, inr, ⊎_elim, leb-true, leb-false}

-- TRUE AND FALSE

pub clash {ℓ} : {X : Type ℓ} {b : Bool} → b ≡ true → b ≡ false → X
clash t f = absurd (subst T (sym t ∙ f) tt)

-- a test is true exactly if a fact holds
pub record Reflects (t : Bool) (B : Type 0) : Type 0 where
  pub holds : t ≡ true → B
  pub fails : t ≡ false → B → ⊥

pub reflects_yes : {B : Type 0} → B → Reflects true B
reflects_yes h = record { holds = λ t. h; fails = λ f. clash refl f }

pub reflects_no : {B : Type 0} → (B → ⊥) → Reflects false B
reflects_no none = record { holds = λ t. clash t refl; fails = λ f. none }

-- a test of a fact also tests any equivalent fact
pub reflects_same : {A B : Type 0} (t : Bool) → (A → B) → (B → A) → Reflects t A → Reflects t B
reflects_same t there back r = record { holds = λ e. there (r.holds e); fails = λ f b. r.fails f (back b) }

pub true_or_false : (b : Bool) → (b ≡ true) ⊎ (b ≡ false)
true_or_false true = inl refl
true_or_false false = inr refl

pub not_put : {b : Bool} → b ≡ false → not b ≡ true
not_put f = rw f

pub not_get : (b : Bool) → not b ≡ true → b ≡ false
not_get true t = sym t
not_get false t = refl

-- a Boolean that can't be true is false
pub false_put : (b : Bool) → (b ≡ true → ⊥) → b ≡ false
false_put true h = absurd (h refl)
false_put false h = refl

pub iff_eq : (a b : Bool) → (a ≡ true → b ≡ true) → (b ≡ true → a ≡ true) → a ≡ b
iff_eq true b f g = sym (f refl)
iff_eq false true f g = g refl
iff_eq false false f g = refl

-- AND, OR

pub and_put : {a b : Bool} → a ≡ true → b ≡ true → (a && b) ≡ true
and_put p q = rw (p, q)

pub and_left : (a b : Bool) → (a && b) ≡ true → a ≡ true
and_left true b t = refl
and_left false b t = t

pub and_right : (a b : Bool) → (a && b) ≡ true → b ≡ true
and_right true b t = t
and_right false b t = clash t refl

-- a test of both bounds
pub between_get : {low high : ℕ} (b : ℕ) → (leb low b && leb b high) ≡ true → (low ≤ b) × (b ≤ high)
between_get {low} {high} b t = (
  leb-true low b (and_left (leb low b) (leb b high) t),
  leb-true b high (and_right (leb low b) (leb b high) t),
)

pub or_left : {a : Bool} → (b : Bool) → a ≡ true → (a || b) ≡ true
or_left b p = rw p

pub or_right : (a : Bool) → {b : Bool} → b ≡ true → (a || b) ≡ true
or_right true q = refl
or_right false q = q

pub or_get : (a b : Bool) → (a || b) ≡ true → (a ≡ true) ⊎ (b ≡ true)
or_get true b t = inl refl
or_get false b t = inr t

pub or_false : (b : Bool) → (b || false) ≡ b
or_false true = refl
or_false false = refl

pub or_none : {a b : Bool} → a ≡ false → b ≡ false → (a || b) ≡ false
or_none p q = rw (p, q)

-- NUMBERS

pub le_or_lt : (a b : ℕ) → (a ≤ b) ⊎ (b < a)
le_or_lt a b =
    ⊎_elim (λ (t : leb a b ≡ true). inl (leb-true a b t)) (λ (f : leb a b ≡ false). inr (leb-false a b f)) (true_or_false (leb a b))

pub at_most : (a b : ℕ) → (a < b → ⊥) → b ≤ a
at_most a b h = ⊎_elim (λ (p : b ≤ a). p) (λ (q : a < b). absurd (h q)) (le_or_lt b a)
