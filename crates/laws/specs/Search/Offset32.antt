-- An offset in 32 bits, and the two natural starts it is converted to: the string's is one more than the negated successor of an offset
-- below zero, the key's is an offset above zero itself. Also from two starts back to their offset. Assumes nothing.
use Rattle.std.specs.Prelude.{◌≡◌, refl, Bool, true, false, cond, ℕ, zero, suc, ◌+◌, ◌-◌, ◌≤◌}
use Rattle.std.specs.Prelude.{◌<◌, ◌^◌, T, ltb, ℤ, pos, negsuc, neg_ℤ, nat_abs, ◌+ℤ◌, ◌-ℤ◌}
use Rattle.std.proofs.Math.Path.{sym}
use Rattle.std.proofs.Common.{ap, subst, ◌∙◌, arith, lt-ltb, ltb-true, ltb-false}
use Rattle.std.specs.Int.Signed.{lt_z, non_neg}
use mir.Syntax.{w32, w64}
use mir.Val.{Fits, SFits, to_z, of_z}
use Rattle.std.proofs.lemmas.Int.{to_z-of_z}
use Rattle.basics.specs.Bools.{clash}
use Rattle.spec.specs.Search.{offset, string_start, key_start}

-- the number that the 32 bits of z represent
abbrev pub held : ℤ → ℤ
held z = to_z w32 (of_z w32 z)

-- the negated successor of z, each step in 32 bits
abbrev pub turned : ℤ → ℤ
turned z = held (pos 0 -ℤ held (held z +ℤ pos 1))

-- FROM AN OFFSET TO ITS STARTS

-- z is below zero: its negated successor is one less than where the string starts
pub record Below (z : ℤ) : Type 0 where
  pub next_fits : SFits w32 (held z +ℤ pos 1)
  pub turned_fits : SFits w32 (pos 0 -ℤ held (held z +ℤ pos 1))
  pub turned_natural : T (non_neg (turned z))
  pub turned_small : Fits w64 (nat_abs (turned z))
  pub start_small : Fits w64 (nat_abs (turned z) + 1)
  pub string_starts : nat_abs (turned z) + 1 ≡ string_start z

-- z is above zero: it is the key's start
pub record Above (z : ℤ) : Type 0 where
  pub natural : T (non_neg (held z))
  pub small : Fits w64 (nat_abs (held z))
  pub key_starts : nat_abs (held z) ≡ key_start z
  pub string_starts : string_start z ≡ 0

next : (o : ℕ) → negsuc o +ℤ pos 1 ≡ neg_ℤ (pos o)
next zero = refl
next (suc m) =
    let less : suc (suc m) - suc 1 ≡ m = omega arith in
    rw (lt-ltb 1 (suc (suc m)) (omega arith), less)

turn : (o : ℕ) → pos 0 -ℤ neg_ℤ (pos o) ≡ pos o
turn zero = refl
turn (suc m) = let z : 0 + suc m ≡ suc m = omega arith in rw z

negated_fits : (o : ℕ) → o < 2 ^ 31 → SFits w32 (neg_ℤ (pos o))
negated_fits zero h = record { sfits = h }
negated_fits (suc m) h = record { sfits = omega arith }

-- a number equal to o is not below zero, and casts to o
reads_above : (z : ℤ) (o : ℕ) → z ≡ pos o → T (non_neg z)
reads_above z o e = subst (λ (k : ℤ). T (non_neg k)) (sym e) tt

reads_natural : (z : ℤ) (o : ℕ) → z ≡ pos o → nat_abs z ≡ o
reads_natural z o e = ap nat_abs e

pub below : (z : ℤ) → SFits w32 z → lt_z (held z) (pos 0) ≡ true → Below z
unfolding string_start
below (pos n) f t =
    absurd (let none : n < 0 = ltb-true n 0 (sym (ap (λ (k : ℤ). lt_z k (pos 0)) (to_z-of_z w32 (pos n) f)) ∙ t) in omega arith)
below (negsuc o) f t =
    let is : nat_abs (turned (negsuc o)) ≡ o = reads_natural (turned (negsuc o)) o is_turned in
    let small : o < 2 ^ 31 = f.sfits in
    record {
      next_fits = subst (SFits w32) (sym first) fits;
      turned_fits = subst (SFits w32) (sym third) whole;
      turned_natural = reads_above (turned (negsuc o)) o is_turned;
      turned_small = record { fits = omega arith };
      start_small = record { fits = omega arith };
      string_starts = omega arith;
    }
  where
    fits : SFits w32 (neg_ℤ (pos o))
    fits = negated_fits o f.sfits

    whole : SFits w32 (pos o)
    whole = record { sfits = f.sfits }

    first : held (negsuc o) +ℤ pos 1 ≡ neg_ℤ (pos o)
    first = ap (λ (k : ℤ). k +ℤ pos 1) (to_z-of_z w32 (negsuc o) f) ∙ next o

    second : held (held (negsuc o) +ℤ pos 1) ≡ neg_ℤ (pos o)
    second = ap held first ∙ to_z-of_z w32 (neg_ℤ (pos o)) fits

    third : pos 0 -ℤ held (held (negsuc o) +ℤ pos 1) ≡ pos o
    third = ap (λ (k : ℤ). pos 0 -ℤ k) second ∙ turn o

    is_turned : turned (negsuc o) ≡ pos o
    is_turned = ap held third ∙ to_z-of_z w32 (pos o) whole

pub not_below : (z : ℤ) → SFits w32 z → lt_z (held z) (pos 0) ≡ false → string_start z ≡ 0
unfolding string_start
not_below (pos o) f t = refl
not_below (negsuc n) f t = clash refl (sym (ap (λ (k : ℤ). lt_z k (pos 0)) (to_z-of_z w32 (negsuc n) f)) ∙ t)

pub above : (z : ℤ) → SFits w32 z → lt_z (pos 0) (held z) ≡ true → Above z
unfolding string_start key_start
above (pos o) f t =
    let read : held (pos o) ≡ pos o = to_z-of_z w32 (pos o) f in
    let is : nat_abs (held (pos o)) ≡ o = reads_natural (held (pos o)) o read in
    let small : o < 2 ^ 31 = f.sfits in
    record {
      natural = reads_above (held (pos o)) o read;
      small = record { fits = omega arith };
      key_starts = is;
      string_starts = refl;
    }
above (negsuc n) f t = clash t (ap (λ (k : ℤ). lt_z (pos 0) k) (to_z-of_z w32 (negsuc n) f))

pub not_above : (z : ℤ) → SFits w32 z → lt_z (pos 0) (held z) ≡ false → key_start z ≡ 0
unfolding key_start
not_above (pos o) f t =
    let none : o ≤ 0 = ltb-false 0 o (sym (ap (λ (k : ℤ). lt_z (pos 0) k) (to_z-of_z w32 (pos o) f)) ∙ t) in
    omega arith
not_above (negsuc n) f t = refl

-- FROM TWO STARTS TO THEIR OFFSET

pub start_fits : (o : ℕ) → o < 2 ^ 31 → SFits w32 (pos o)
start_fits o small = record { sfits = small }

difference_fits : (b a : ℕ) → b < 2 ^ 31 → a < 2 ^ 31 → SFits w32 (pos b -ℤ pos a)
difference_fits b zero small_b small_a = record { sfits = omega arith }
difference_fits b (suc a) small_b small_a = by_test (ltb b (suc a))
  where
    by_test : (t : Bool) → SFits w32 (cond t (negsuc (suc a - suc b)) (pos (b - suc a)))
    by_test true = record { sfits = omega arith }
    by_test false = record { sfits = omega arith }

-- the difference of two starts, each in 32 bits, is the offset
module _ (b a : ℕ) (small_b : b < 2 ^ 31) (small_a : a < 2 ^ 31) where
  difference : to_z w32 b -ℤ to_z w32 a ≡ pos b -ℤ pos a
  difference =
      ap (λ (z : ℤ). z -ℤ to_z w32 a) (to_z-of_z w32 (pos b) (start_fits b small_b))
      ∙ ap (λ (z : ℤ). pos b -ℤ z) (to_z-of_z w32 (pos a) (start_fits a small_a))

  pub offset_fits32 : SFits w32 (to_z w32 b -ℤ to_z w32 a)
  offset_fits32 = subst (SFits w32) (sym difference) (difference_fits b a small_b small_a)

  pub offset_held : offset b a ≡ held (to_z w32 b -ℤ to_z w32 a)
  unfolding offset
  offset_held = sym (to_z-of_z w32 (to_z w32 b -ℤ to_z w32 a) offset_fits32 ∙ difference)

-- an offset from 0 up is a natural number
pub offset_natural : (b : ℕ) → b < 2 ^ 31 → offset b 0 ≡ to_z w32 b
unfolding offset
offset_natural b small =
    let z : b + 0 ≡ b = omega arith in
    rw z (sym (to_z-of_z w32 (pos b) (start_fits b small)))
