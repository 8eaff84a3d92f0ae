-- Four hexadecimal digits: reading what is written, and writing what is read. Assumes nothing.
use Rattle.std.specs.Prelude.{◌≡◌, refl, true, false, ◌&&◌, ◌⊎◌, [], ◌∷◌, leb}
use Rattle.std.proofs.Common.{◌∙◌, inl, inr, ⊎_elim, arith, lt-ltb, le-leb, ltb-true}
use Prim.Native.Nat.{ℕ, ◌+◌, ◌*◌, ◌-◌, ◌/◌, ◌%◌, ◌≤◌, ◌<◌}
use Rattle.std.proofs.lemmas.Bool.{lt-leb}
use Rattle.basics.specs.Bools.{clash, true_or_false, le_or_lt, between_get}
use Rattle.spec.specs.JobSheet.{no_digit, digit, is_digit, character}
use Rattle.spec.specs.JobAnswer.{digit_byte, hexadecimal}
use Rattle.laws.specs.JobSheet.Printing.{digit_byte_decimal, digit_byte_letter}

-- ONE DIGIT

-- a byte from `0` to `9`, or from `A` to `F`
abbrev Digit : ℕ → Type 0
Digit b = ((48 ≤ b) × (b ≤ 57)) ⊎ ((65 ≤ b) × (b ≤ 70))

pub digit_figure : (b : ℕ) → 48 ≤ b → b ≤ 57 → digit b ≡ b - 48
unfolding digit
digit_figure b low high = rw (le-leb 48 b low, le-leb b 57 high)

pub digit_letter : (b : ℕ) → 65 ≤ b → b ≤ 70 → digit b ≡ b - 55
unfolding digit
digit_letter b low high = rw (le-leb 48 b (omega arith), lt-leb b 57 (omega arith), le-leb 65 b low, le-leb b 70 high)

pub digit_none : (b : ℕ) → (leb 48 b && leb b 57) ≡ false → (leb 65 b && leb b 70) ≡ false → digit b ≡ no_digit
unfolding digit
digit_none b figure letter = rw (figure, letter)

digit_get : (b : ℕ) → is_digit b ≡ true → Digit b
unfolding is_digit digit
digit_get b t =
    ⊎_elim
    (λ (p : (leb 48 b && leb b 57) ≡ true). inl (between_get b p))
    (λ (q : (leb 48 b && leb b 57) ≡ false).
    ⊎_elim
    (λ (p : (leb 65 b && leb b 70) ≡ true). inr (between_get b p))
    (λ (r : (leb 65 b && leb b 70) ≡ false). clash t (rw (q, r) refl))
    (true_or_false (leb 65 b && leb b 70)))
    (true_or_false (leb 48 b && leb b 57))

-- the byte of a value has that value
pub digit_written : (v : ℕ) → v < 16 → digit (digit_byte v) ≡ v
digit_written v small =
    ⊎_elim
    (λ (p : 10 ≤ v). rw (digit_byte_letter v p) (digit_letter (55 + v) (omega arith) (omega arith) ∙ omega arith))
    (λ (q : v < 10). rw (digit_byte_decimal v q) (digit_figure (48 + v) (omega arith) (omega arith) ∙ omega arith))
    (le_or_lt 10 v)

pub written_is_digit : (v : ℕ) → v < 16 → is_digit (digit_byte v) ≡ true
unfolding is_digit
written_is_digit v small = rw (digit_written v small) (lt-ltb v 16 small)

-- a digit is the byte of its value
pub digit_read : (b : ℕ) → is_digit b ≡ true → digit_byte (digit b) ≡ b
digit_read b t = back (digit_get b t)
  where
    back : Digit b → digit_byte (digit b) ≡ b
    back (inl (low, high)) = rw (digit_figure b low high) (digit_byte_decimal (b - 48) (omega arith) ∙ omega arith)
    back (inr (low, high)) = rw (digit_letter b low high) (digit_byte_letter (b - 55) (omega arith) ∙ omega arith)

-- no digit is LF
pub digit_no_feed : (v : ℕ) → digit_byte v ≡ 10 → ⊥
digit_no_feed v e =
    ⊎_elim (λ (p : 10 ≤ v). omega (arith, digit_byte_letter v p)) (λ (q : v < 10). omega (arith, digit_byte_decimal v q))
    (le_or_lt 10 v)

-- FOUR DIGITS

below : (x : ℕ) → is_digit x ≡ true → digit x < 16
unfolding is_digit
below x t = ltb-true (digit x) 16 t

module _ (a b c d : ℕ) (ta : is_digit a ≡ true) (tb : is_digit b ≡ true) (tc : is_digit c ≡ true) (td : is_digit d ≡ true) where
  pub character_small : character a b c d < 65536
  unfolding character
  character_small = omega (arith, below a ta, below b tb, below c tc, below d td)

  pub character_read : hexadecimal (character a b c d) ≡ a ∷ b ∷ c ∷ d ∷ []
  unfolding hexadecimal character
  character_read =
      let n : ℕ = ((digit a * 16 + digit b) * 16 + digit c) * 16 + digit d in
      let ha : n / 4096 % 16 ≡ digit a = omega (arith, below a ta, below b tb, below c tc, below d td) in
      let hb : n / 256 % 16 ≡ digit b = omega (arith, below a ta, below b tb, below c tc, below d td) in
      let hc : n / 16 % 16 ≡ digit c = omega (arith, below a ta, below b tb, below c tc, below d td) in
      let hd : n % 16 ≡ digit d = omega (arith, below a ta, below b tb, below c tc, below d td) in
      rw (ha, hb, hc, hd, digit_read a ta, digit_read b tb, digit_read c tc, digit_read d td)

pub character_written :
    (c : ℕ) → c < 65536 →
    character (digit_byte (c / 4096 % 16)) (digit_byte (c / 256 % 16)) (digit_byte (c / 16 % 16)) (digit_byte (c % 16)) ≡ c
unfolding character
character_written c small =
    let second : c / 256 ≡ c / 16 / 16 = omega arith in
    let third : c / 4096 ≡ c / 256 / 16 = omega arith in
    let last : c ≡ c / 16 * 16 + c % 16 = omega arith in
    let next : c / 16 ≡ c / 256 * 16 + c / 16 % 16 = omega (arith, second) in
    let high : c / 256 ≡ c / 4096 * 16 + c / 256 % 16 = omega (arith, third) in
    let highest : c / 4096 % 16 ≡ c / 4096 = omega arith in
    rw (
      digit_written (c / 4096 % 16) (omega arith),
      digit_written (c / 256 % 16) (omega arith),
      digit_written (c / 16 % 16) (omega arith),
      digit_written (c % 16) (omega arith),
    )
    (rw highest (sum (c / 4096) (c / 256) (c / 16) (c / 256 % 16) (c / 16 % 16) (c % 16) high next last))
  where
    sum : (x y z p q r : ℕ) → y ≡ x * 16 + p → z ≡ y * 16 + q → c ≡ z * 16 + r → ((x * 16 + p) * 16 + q) * 16 + r ≡ c
    sum x y z p q r e f g = omega arith
