-- The model of the agreement test: one string starts at 0, the other at an index in or after it, and the shared positions are compared in
-- order. Assumes nothing.
use Rattle.std.specs.Prelude.{◌≡◌, Bool, true, false, List, ℕ, ◌+◌, ◌-◌, ◌≤◌, ◌<◌, min, length, get_or, ℤ}
use Rattle.std.proofs.Math.Path.{refl}
use Rattle.std.proofs.Common.{sym, ap, ◌∙◌, arith}
use Rattle.basics.specs.Bools.{Reflects, false_put, iff_eq}
use Rattle.spec.specs.Search.{agrees, string_start, key_start, agrees_at}
use Rattle.laws.specs.Text.Strings.{SameRun}
use Rattle.laws.specs.Search.Agree.{agrees_get, agrees_put, agree_sym}

-- WHICH OF THE TWO STARTS FIRST

pub agrees_swap : (s : List ℕ) (a : ℕ) (e : List ℕ) (b : ℕ) → agrees s a e b ≡ agrees e b s a
agrees_swap s a e b =
    iff_eq (agrees s a e b) (agrees e b s a)
    (λ t. agrees_put e b s a (agree_sym s a e b (agrees_get s a e b t)))
    (λ t. agrees_put s a e b (agree_sym e b s a (agrees_get e b s a t)))

-- a key that starts first, and has another character where the string starts, does not agree
pub key_starts_apart : (i : ℕ) (s k : List ℕ) → i < length k → (get_or k i 0 ≡ get_or s 0 0 → ⊥) → agrees s i k 0 ≡ false
key_starts_apart i s k some other =
    false_put (agrees s i k 0)
    (λ t.
    let h = agrees_get s i k 0 t in
    let y : i - i ≡ 0 = omega arith in
    let z : i - 0 ≡ i = omega arith in
    other (sym (rw (y, z) at (h.equal i (omega arith) (omega arith) (omega arith) (omega arith)))))

-- THE SHARED POSITIONS, the second string at index `at` of the first

module _ (s e : List ℕ) (at : ℕ) where
  pub apart_short : length s ≤ at → false ≡ agrees s 0 e at
  apart_short h = sym (false_put (agrees s 0 e at) (λ t. let m = agrees_get s 0 e at t in omega arith))

  pub apart_empty : length e ≡ 0 → false ≡ agrees s 0 e at
  apart_empty h = sym (false_put (agrees s 0 e at) (λ t. let m = agrees_get s 0 e at t in omega arith))

  -- all shared positions are equal
  pub together :
      (i : ℕ) → at < length s → (length e ≡ 0 → ⊥) → min (length s - at) (length e) ≤ i →
      ((k : ℕ) → k < i → get_or s (at + k) 0 ≡ get_or e k 0) → true ≡ agrees s 0 e at
  together i some other whole equal =
      sym
      (agrees_put s 0 e at
      (record {
        shared = at;
        string_from = omega arith;
        string_to = omega arith;
        entry_from = omega arith;
        entry_to = omega arith;
        equal = λ x p q r u. each x p q r u;
      }))
    where
      each : (x : ℕ) → 0 ≤ x → x < 0 + length s → at ≤ x → x < at + length e → get_or s (x - 0) 0 ≡ get_or e (x - at) 0
      each x p q r u =
          let first : x - 0 ≡ at + (x - at) = omega arith in
          rw first (equal (x - at) (omega arith))

  -- the shared positions compared
  pub agrees_compared :
      {n : ℕ} {r : Bool} → at < length s → (length e ≡ 0 → ⊥) → n ≡ min (length s - at) (length e) →
      Reflects r (SameRun s at e 0 n) → r ≡ agrees s 0 e at
  agrees_compared {n} {r = true} some other whole h =
      together n some other (omega arith) (λ k b. let z : 0 + k ≡ k = omega arith in rw z at (h.holds refl k b))
  agrees_compared {n} {r = false} some other whole h = sym (false_put (agrees s 0 e at) (λ t. h.fails refl (λ j b. equal j b t)))
    where
      equal : (j : ℕ) → j < n → agrees s 0 e at ≡ true → get_or s (at + j) 0 ≡ get_or e (0 + j) 0
      equal j b t =
          let m = agrees_get s 0 e at t in
          let first : at + j - 0 ≡ at + j = omega arith in
          let second : at + j - at ≡ 0 + j = omega arith in
          rw (first, second) at (m.equal (at + j) (omega arith) (omega arith) (omega arith) (omega arith))

-- THE OFFSET

module _ (k s : List ℕ) (o : ℤ) where
  agrees_at_starts : agrees s (string_start o) k (key_start o) ≡ agrees_at k s o
  unfolding agrees_at
  agrees_at_starts = refl

  pub agrees_string_first : string_start o ≡ 0 → agrees s 0 k (key_start o) ≡ agrees_at k s o
  agrees_string_first e = ap (λ (a : ℕ). agrees s a k (key_start o)) (sym e) ∙ agrees_at_starts

  pub agrees_key_first : key_start o ≡ 0 → agrees k 0 s (string_start o) ≡ agrees_at k s o
  agrees_key_first e =
      agrees_swap k 0 s (string_start o) ∙ ap (λ (b : ℕ). agrees s (string_start o) k b) (sym e) ∙ agrees_at_starts
