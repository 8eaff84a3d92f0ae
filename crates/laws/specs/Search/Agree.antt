-- Agreement of an entry with a string laid at a position, and the offset between them. Assumes nothing.
use Rattle.std.specs.Prelude.{◌≡◌, Bool, ◌&&◌, ◌||◌, not, List, get_or}
use Rattle.std.proofs.Math.Path.{refl}
use Rattle.std.proofs.Common.{sym, ap, ◌∙◌}
use Rattle.std.proofs.Math.Bool.{true, false}
use Prim.Native.Nat.{ℕ, zero, suc, ◌+◌, ◌-◌, ◌≤◌, ◌<◌, min, max}
use native.Mathlib.Omega.{arith}
use Rattle.std.proofs.Math.Dec.{eqb}
use Rattle.std.proofs.Math.ListN.{length}
use borrow.Author.Tests.{lt-ltb, ltb-true, eq-eqb, eqb-true}
use Rattle.basics.specs.Bools.{iff_eq, and_put, and_left, and_right}
use Rattle.basics.specs.Steps.{all_from, all_from_get, all_from_put}
use Rattle.spec.specs.Reception.{lies_on}
use Rattle.spec.specs.Search.{overlaps, equal_from, agrees}
use Rattle.laws.specs.Readable.Recover.{lies_on_get, lies_on_put}

-- AGREEMENT AS A FACT

-- a string laid at a and an entry at b share a position, and carry equal characters at all shared positions
pub record Agree (s : List ℕ) (a : ℕ) (e : List ℕ) (b : ℕ) : Type 0 where
  pub shared : ℕ
  pub string_from : a ≤ shared
  pub string_to : shared < a + length s
  pub entry_from : b ≤ shared
  pub entry_to : shared < b + length e
  pub equal : (x : ℕ) → a ≤ x → x < a + length s → b ≤ x → x < b + length e → get_or s (x - a) 0 ≡ get_or e (x - b) 0

module _ (s : List ℕ) (a : ℕ) (e : List ℕ) (b : ℕ) where
  pub overlaps_get : overlaps s a e b ≡ true → (a < b + length e) × (b < a + length s) × (1 ≤ length s) × (1 ≤ length e)
  unfolding overlaps
  overlaps_get t =
      let h : max a b < min (a + length s) (b + length e) = ltb-true (max a b) (min (a + length s) (b + length e)) t in
      (omega arith, omega arith, omega arith, omega arith)

  pub overlaps_put : a < b + length e → b < a + length s → 1 ≤ length s → 1 ≤ length e → overlaps s a e b ≡ true
  unfolding overlaps
  overlaps_put h i j k = lt-ltb (max a b) (min (a + length s) (b + length e)) (omega arith)

  -- the test at one position
  equal_at : ℕ → Bool
  equal_at x = not (lies_on a (length s) x && lies_on b (length e) x) || eqb (get_or s (x - a) 0) (get_or e (x - b) 0)

  equal_from_all : (n p : ℕ) → equal_from n p s a e b ≡ all_from n p equal_at
  unfolding equal_from all_from equal_at
  equal_from_all zero p = refl
  equal_from_all (suc n) p = rw (equal_from_all n (suc p))

  pub agrees_get : agrees s a e b ≡ true → Agree s a e b
  unfolding agrees equal_at
  agrees_get t =
      record {
        shared = max a b;
        string_from = omega arith;
        string_to = omega (arith, meet);
        entry_from = omega arith;
        entry_to = omega (arith, meet);
        equal = λ x p q r u. equal x p q r u;
      }
    where
      meet : (a < b + length e) × (b < a + length s) × (1 ≤ length s) × (1 ≤ length e)
      meet = overlaps_get (and_left (overlaps s a e b) (equal_from (length s) a s a e b) t)

      each : all_from (length s) a equal_at ≡ true
      each = sym (equal_from_all (length s) a) ∙ and_right (overlaps s a e b) (equal_from (length s) a s a e b) t

      equal : (x : ℕ) → a ≤ x → x < a + length s → b ≤ x → x < b + length e → get_or s (x - a) 0 ≡ get_or e (x - b) 0
      equal x p q r u =
          let both : (lies_on a (length s) x && lies_on b (length e) x) ≡ true =
          and_put (lies_on_put a (length s) x p q) (lies_on_put b (length e) x r u) in
          let here : equal_at x ≡ true = all_from_get (length s) a equal_at each x p q in
          eqb-true (get_or s (x - a) 0) (get_or e (x - b) 0) (rw both at here)

  pub agrees_put : Agree s a e b → agrees s a e b ≡ true
  unfolding agrees equal_at
  agrees_put h =
      and_put (overlaps_put (omega arith) (omega arith) (omega arith) (omega arith))
      (equal_from_all (length s) a ∙ all_from_put (length s) a equal_at (λ x lo hi. each x))
    where
      each : (x : ℕ) → equal_at x ≡ true
      each x = by_test (lies_on a (length s) x && lies_on b (length e) x) refl
        where
          by_test :
              (d : Bool) → (lies_on a (length s) x && lies_on b (length e) x) ≡ d →
              (not d || eqb (get_or s (x - a) 0) (get_or e (x - b) 0)) ≡ true
          by_test false t = refl
          by_test true t =
              let p = lies_on_get a (length s) x (and_left (lies_on a (length s) x) (lies_on b (length e) x) t) in
              let q = lies_on_get b (length e) x (and_right (lies_on a (length s) x) (lies_on b (length e) x) t) in
              eq-eqb (get_or s (x - a) 0) (get_or e (x - b) 0) (h.equal x p.0 p.1 q.0 q.1)

  pub agree_sym : Agree s a e b → Agree e b s a
  agree_sym h =
      record {
        shared = h.shared;
        string_from = h.entry_from;
        string_to = h.entry_to;
        entry_from = h.string_from;
        entry_to = h.string_to;
        equal = λ x p q r u. sym (h.equal x r u p q);
      }

-- a key that starts inside the string starts with the string's character there
pub agree_first : {s k : List ℕ} {o : ℕ} → Agree s 0 k o → get_or s o 0 ≡ get_or k 0 0
agree_first {o} h =
    let y : o - 0 ≡ o = omega arith in
    let w : o - o ≡ 0 = omega arith in
    rw (y, w) at (h.equal o (omega arith) (omega arith) (omega arith) (omega arith))

-- SHIFTED POSITIONS

-- agreement depends only on the difference of the positions
pub agree_move :
    {s : List ℕ} {a : ℕ} {e : List ℕ} {b : ℕ} (c d : ℕ) → a + d ≡ c + b → Agree s a e b → Agree s c e d
agree_move {s} {a} {e} {b} c d z h =
    record {
      shared = (h.shared + c) - a;
      string_from = omega arith;
      string_to = omega arith;
      entry_from = omega arith;
      entry_to = omega arith;
      equal = λ x p q r u. equal x p q r u;
    }
  where
    equal : (x : ℕ) → c ≤ x → x < c + length s → d ≤ x → x < d + length e → get_or s (x - c) 0 ≡ get_or e (x - d) 0
    equal x p q r u =
        let y : ((x + a) - c) - a ≡ x - c = omega arith in
        let w : ((x + a) - c) - b ≡ x - d = omega arith in
        ap (λ (i : ℕ). get_or s i 0) (sym y)
        ∙ h.equal ((x + a) - c) (omega arith) (omega arith) (omega arith) (omega arith)
        ∙ ap (λ (i : ℕ). get_or e i 0) w

pub agrees_move :
    (s : List ℕ) (a : ℕ) (e : List ℕ) (b c d : ℕ) → a + d ≡ c + b → agrees s a e b ≡ agrees s c e d
agrees_move s a e b c d z =
    let y : c + b ≡ a + d = omega arith in
    iff_eq (agrees s a e b) (agrees s c e d)
    (λ t. agrees_put s c e d (agree_move c d z (agrees_get s a e b t)))
    (λ t. agrees_put s a e b (agree_move a b y (agrees_get s c e d t)))
