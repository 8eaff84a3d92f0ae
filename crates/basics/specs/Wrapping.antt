-- Differences modulo 2 ^ 64: w is a − b, wrapped. One test of w against a small n tells whether b ≤ a < b + n. Assumes nothing.
use Rattle.std.specs.Prelude.{◌≡◌, ℕ, ◌+◌, ◌-◌, ◌%◌, ◌^◌, ◌≤◌, ◌<◌}
use Rattle.std.proofs.Common.{sym, ap, ◌∙◌, ⊎_elim, mod-eq_of_lt, arith}
use Rattle.std.proofs.Math.Nat.{add-mod_right}
use Rattle.basics.specs.Bools.{le_or_lt}

-- a sum below twice 2 ^ 64 wraps at most once
once : (s : ℕ) → 2 ^ 64 ≤ s → s < 2 ^ 64 + 2 ^ 64 → s % 2 ^ 64 ≡ s - 2 ^ 64
once s past short =
    let back : s ≡ s - 2 ^ 64 + 2 ^ 64 = omega arith in
    ap (λ (k : ℕ). k % 2 ^ 64) back ∙ add-mod_right (s - 2 ^ 64) (2 ^ 64) ∙ mod-eq_of_lt (omega arith)

module _ (w : ℕ) {a : ℕ} (b n : ℕ) (wraps : (w + b) % 2 ^ 64 ≡ a) where
  pub wrap_below : n + b ≤ 2 ^ 64 → w < n → w + b ≡ a
  wrap_below small below = sym (mod-eq_of_lt (omega arith)) ∙ wraps

  pub wrap_above : w < 2 ^ 64 → b < 2 ^ 64 → b ≤ a → n ≤ w → n + b ≤ a
  wrap_above fits fits_b from above =
      ⊎_elim (λ (past : 2 ^ 64 ≤ w + b). omega (arith, sym (once (w + b) past (omega arith)) ∙ wraps))
      (λ (short : w + b < 2 ^ 64). omega (arith, sym (mod-eq_of_lt short) ∙ wraps)) (le_or_lt (2 ^ 64) (w + b))
