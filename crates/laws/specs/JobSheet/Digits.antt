-- A space and the four digits of a character, read from a line. Assumes nothing.
use Rattle.std.specs.Prelude.{◌≡◌, refl, true, false, ◌&&◌, List, ℕ, ◌+◌, ◌*◌, ◌≤◌, ◌<◌, ltb, eqb, get_or}
use Rattle.std.proofs.Common.{sym, ◌∙◌, arith, eqb-true, eq-eqb, lt-ltb}
use Rattle.std.proofs.Math.Logic.{⊎_elim}
use Rattle.basics.specs.Bools.{clash, true_or_false, false_put, and_put, and_left, and_right}
use Rattle.spec.specs.JobSheet.{space, no_digit, digit, is_digit, character, is_spaced}
use Rattle.models.specs.JobSheet.{spaced_at, character_at, spaced_character}
use Rattle.laws.specs.JobSheet.Hexadecimal.{character_small}

-- FIVE BYTES

pub record Spaced (x a b c d : ℕ) : Type 0 where
  pub gap : x ≡ space
  pub first : is_digit a ≡ true
  pub second : is_digit b ≡ true
  pub third : is_digit c ≡ true
  pub fourth : is_digit d ≡ true

pub spaced_get : (x a b c d : ℕ) → is_spaced x a b c d ≡ true → Spaced x a b c d
unfolding is_spaced
spaced_get x a b c d t =
    let three = and_left (((eqb x space && is_digit a) && is_digit b) && is_digit c) (is_digit d) t in
    let two = and_left ((eqb x space && is_digit a) && is_digit b) (is_digit c) three in
    let one = and_left (eqb x space && is_digit a) (is_digit b) two in
    record {
      gap = eqb-true x space (and_left (eqb x space) (is_digit a) one);
      first = and_right (eqb x space) (is_digit a) one;
      second = and_right (eqb x space && is_digit a) (is_digit b) two;
      third = and_right ((eqb x space && is_digit a) && is_digit b) (is_digit c) three;
      fourth = and_right (((eqb x space && is_digit a) && is_digit b) && is_digit c) (is_digit d) t;
    }

spaced_put : {x a b c d : ℕ} → Spaced x a b c d → is_spaced x a b c d ≡ true
unfolding is_spaced
spaced_put {x} s =
    and_put (and_put (and_put (and_put (eq-eqb x space s.gap) s.first) s.second) s.third) s.fourth

-- ONE DIGIT, by its value

digit_not : (b : ℕ) {v : ℕ} → v ≡ digit b → v ≡ no_digit → is_digit b ≡ false
unfolding is_digit
digit_not b is none = rw (sym is ∙ none) refl

-- the value that `value_of` answers, and the test that it is a digit's
pub record DigitRead (b v : ℕ) : Type 0 where
  pub answered : (v ≡ digit b) × (v ≤ no_digit)
  pub some : v ≡ no_digit → ⊥

digit_put : {b v : ℕ} → DigitRead b v → is_digit b ≡ true
unfolding is_digit
digit_put {v} h = rw (sym h.answered.0) (lt-ltb v no_digit (omega (arith, h.answered.1, h.some)))

-- THE CHARACTER AT AN INDEX

module _ (l : List ℕ) (at : ℕ) where
  -- the byte at the index k bytes on
  abbrev byte : ℕ → ℕ
  byte k = get_or l (at + k) 0

  abbrev SpacedThere : Type 0
  SpacedThere = Spaced (get_or l at 0) (byte 1) (byte 2) (byte 3) (byte 4)

  there_get : spaced_at l at ≡ true → SpacedThere
  unfolding spaced_at
  there_get t = spaced_get (get_or l at 0) (byte 1) (byte 2) (byte 3) (byte 4) t

  -- IF IT IS THERE

  small : spaced_at l at ≡ true → character_at l at < 65536
  unfolding character_at
  small t =
      let s : SpacedThere = there_get t in
      character_small (byte 1) (byte 2) (byte 3) (byte 4) s.first s.second s.third s.fourth

  pub character_there : spaced_at l at ≡ true → spaced_character l at ≡ character_at l at
  unfolding spaced_character
  character_there t = rw t

  pub character_fits : spaced_at l at ≡ true → spaced_character l at < 65536
  character_fits t = omega (arith, character_there t, small t)

  pub spaced_told : ltb (spaced_character l at) 65536 ≡ spaced_at l at
  unfolding spaced_character
  spaced_told =
      ⊎_elim
      (λ (t : spaced_at l at ≡ true). rw t (lt-ltb (character_at l at) 65536 (small t)))
      (λ (f : spaced_at l at ≡ false). rw f refl)
      (true_or_false (spaced_at l at))

  -- READ BYTE BY BYTE

  none : (SpacedThere → ⊥) → 65536 ≡ spaced_character l at
  unfolding spaced_character
  none h = rw (false_put (spaced_at l at) (λ (t : spaced_at l at ≡ true). h (there_get t)))

  pub no_space : (get_or l at 0 ≡ space → ⊥) → 65536 ≡ spaced_character l at
  no_space other = none (λ (s : SpacedThere). other s.gap)

  module _ {v : ℕ} where
    pub no_first : v ≡ digit (byte 1) → v ≡ no_digit → 65536 ≡ spaced_character l at
    no_first is e = none (λ (s : SpacedThere). clash s.first (digit_not (byte 1) is e))

    pub no_second : v ≡ digit (byte 2) → v ≡ no_digit → 65536 ≡ spaced_character l at
    no_second is e = none (λ (s : SpacedThere). clash s.second (digit_not (byte 2) is e))

    pub no_third : v ≡ digit (byte 3) → v ≡ no_digit → 65536 ≡ spaced_character l at
    no_third is e = none (λ (s : SpacedThere). clash s.third (digit_not (byte 3) is e))

    pub no_fourth : v ≡ digit (byte 4) → v ≡ no_digit → 65536 ≡ spaced_character l at
    no_fourth is e = none (λ (s : SpacedThere). clash s.fourth (digit_not (byte 4) is e))

  pub character_read :
      {a b c d : ℕ} → get_or l at 0 ≡ space →
      DigitRead (byte 1) a → DigitRead (byte 2) b → DigitRead (byte 3) c → DigitRead (byte 4) d →
      ((a * 16 + b) * 16 + c) * 16 + d ≡ spaced_character l at
  unfolding spaced_at character_at character
  character_read gap p q r s =
      let all : SpacedThere =
      record { gap = gap; first = digit_put p; second = digit_put q; third = digit_put r; fourth = digit_put s } in
      rw (p.answered.0, q.answered.0, r.answered.0, s.answered.0) (sym (character_there (spaced_put all)))
