-- One number for a key: the word number, or 4,096 + the character. Codes in order are keys in order. Assumes nothing.
use Rattle.std.specs.Prelude.{◌≡◌, refl, true, ℕ, suc, ◌+◌, ◌-◌, ◌≤◌, ◌<◌}
use Rattle.std.proofs.Common.{inl, inr, ⊎_elim, arith, lt-ltb, le-ltb, eq-eqb, ne_eqb}
use Rattle.basics.specs.Bools.{le_or_lt}
use Rattle.spec.specs.Words.{key}
use Rattle.spec.specs.Numbers.{key_before}
use Rattle.models.specs.Inversion.{coded, code_key}
use Rattle.laws.specs.Numbers.KeyOrder.{key_before_put}

-- FROM A TOKEN TO ITS CODE

pub coded_none : (m c : ℕ) → m ≡ 0 → coded m c ≡ 0
unfolding coded
coded_none m c e = rw (eq-eqb m 0 e)

pub coded_lone : (m c : ℕ) → m ≡ 4097 → coded m c ≡ suc (4096 + c)
unfolding coded
coded_lone m c e =
    let some : m ≡ 0 → ⊥ = λ (z : m ≡ 0). omega arith in
    let sum : 4097 + c ≡ suc (4096 + c) = omega arith in
    rw (ne_eqb m 0 some, eq-eqb m 4097 e) sum

pub coded_word : (m c : ℕ) → (m ≡ 0 → ⊥) → (m ≡ 4097 → ⊥) → coded m c ≡ suc (m - 1)
unfolding coded
coded_word m c some other =
    let back : m ≡ suc (m - 1) = omega (arith, some) in
    rw (ne_eqb m 0 some, ne_eqb m 4097 other) back

-- FROM A CODE TO ITS KEY

pub code_key_word : (k : ℕ) → k < 4096 → code_key k ≡ key 0 k
unfolding code_key
code_key_word k h = rw (lt-ltb k 4096 h)

pub code_key_lone : (k : ℕ) → 4096 ≤ k → code_key k ≡ key 1 (k - 4096)
unfolding code_key
code_key_lone k h = rw (le-ltb k 4096 h)

-- codes in order are keys in order
pub code_key_before : (j k : ℕ) → j < k → key_before (code_key j) (code_key k) ≡ true
unfolding key
code_key_before j k h =
    ⊎_elim
    (λ (a : 4096 ≤ j).
    rw (code_key_lone j a, code_key_lone k (omega arith))
    (key_before_put (key 1 (j - 4096)) (key 1 (k - 4096)) (inr (refl, omega arith))))
    (λ (a : j < 4096).
    ⊎_elim
    (λ (b : 4096 ≤ k).
    rw (code_key_word j a, code_key_lone k b) (key_before_put (key 0 j) (key 1 (k - 4096)) (inl (omega arith))))
    (λ (b : k < 4096). rw (code_key_word j a, code_key_word k b) (key_before_put (key 0 j) (key 0 k) (inr (refl, h))))
    (le_or_lt 4096 k))
    (le_or_lt 4096 j)
