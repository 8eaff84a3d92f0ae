-- The shorter of two: the second if it is shorter, else the first. Assumes nothing.
use Rattle.std.specs.Prelude.{◌≡◌, ℕ, ◌≤◌, ◌<◌}
use Rattle.std.proofs.Common.{lt-ltb, le-ltb}
use Rattle.spec.specs.Tally.{shorter}

module _ {ℓ} {A : Type ℓ} (a b : ℕ) (x y : A) where
  pub shorter_second : b < a → y ≡ shorter a b x y
  unfolding shorter
  shorter_second h = rw (lt-ltb b a h)

  pub shorter_first : a ≤ b → x ≡ shorter a b x y
  unfolding shorter
  shorter_first h = rw (le-ltb b a h)
