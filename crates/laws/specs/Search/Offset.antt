-- The offset of a key from a string: its two starts, agreement at it, and its range. Assumes nothing.
use Rattle.std.specs.Prelude.{◌≡◌, refl, Bool, true, false, ◌&&◌, cond, List, [], ◌∷◌, ℕ}
use Rattle.std.specs.Prelude.{zero, suc, ◌-◌, ◌≤◌, ◌<◌, ltb, length, ℤ, pos, negsuc, neg_ℤ}
use Rattle.std.proofs.Common.{sym, ap₂, ◌∙◌, arith, le-leb, lt-ltb, le-ltb, ltb-true, ltb-false}
use Rattle.std.proofs.Math.Dec.{leb-suc-suc}
use Rattle.std.proofs.Math.IntN.{suc_ℤ, pred_ℤ}
use Rattle.std.specs.Int.Signed.{le_z}
use Rattle.basics.specs.Bools.{iff_eq, and_put, and_left, and_right}
use Rattle.spec.specs.Search.{overlaps, equal_from, agrees, offset, in_offsets, string_start, key_start, agrees_at}
use Rattle.laws.specs.Search.Agree.{overlaps_get, overlaps_put, agrees_move}

-- THE STARTS

-- the first of the two starts at 0, the other after it by the difference of their positions
pub offset_starts : (b a : ℕ) → (string_start (offset b a) ≡ a - b) × (key_start (offset b a) ≡ b - a)
unfolding offset string_start key_start
offset_starts b zero = (omega arith, omega arith)
offset_starts b (suc a) = by_test (ltb b (suc a)) refl
  where
    by_test :
        (t : Bool) → ltb b (suc a) ≡ t →
        (string_start (cond t (negsuc (suc a - suc b)) (pos (b - suc a))) ≡ suc a - b)
        × (key_start (cond t (negsuc (suc a - suc b)) (pos (b - suc a))) ≡ b - suc a)
    by_test true t = let h : b < suc a = ltb-true b (suc a) t in (omega arith, omega arith)
    by_test false t = let h : suc a ≤ b = ltb-false b (suc a) t in (omega arith, omega arith)

-- AGREEMENT AT AN OFFSET

-- an entry agrees at its position exactly if its key agrees at its offset
pub agrees_offset : (s : List ℕ) (a : ℕ) (e : List ℕ) (b : ℕ) → agrees s a e b ≡ agrees_at e s (offset b a)
unfolding agrees_at
agrees_offset s a e b =
    let h = offset_starts b a in
    agrees_move s a e b (string_start (offset b a)) (key_start (offset b a)) (omega arith)

-- THE RANGE

from_least : (m : ℕ) (o : ℤ) → le_z (suc_ℤ (neg_ℤ (pos (suc m)))) o ≡ ltb (string_start o) (suc m)
unfolding string_start
from_least zero (pos n) = le-leb 0 n (omega arith)
from_least zero (negsuc n) = sym (le-ltb (suc n) 1 (omega arith))
from_least (suc m) (pos n) = sym (lt-ltb 0 (suc (suc m)) (omega arith))
from_least (suc m) (negsuc n) = sym (leb-suc-suc (suc n) (suc m) ∙ leb-suc-suc n m)

to_greatest : (n : ℕ) (o : ℤ) → le_z o (pred_ℤ (pos (suc n))) ≡ ltb (key_start o) (suc n)
unfolding key_start
to_greatest n (pos k) = sym (leb-suc-suc k n)
to_greatest n (negsuc k) = sym (lt-ltb 0 (suc n) (omega arith))

-- an offset is in range exactly if the string starts before the key ends and the key before the string ends
pub in_offsets_starts :
    (k s : List ℕ) (o : ℤ) → 1 ≤ length k → 1 ≤ length s →
    in_offsets k s o ≡ (ltb (string_start o) (length k) && ltb (key_start o) (length s))
unfolding in_offsets
in_offsets_starts [] s o h i = absurd (omega arith)
in_offsets_starts (c ∷ k) [] o h i = absurd (omega arith)
in_offsets_starts (c ∷ k) (d ∷ s) o h i = ap₂ ◌&&◌ (from_least (length k) o) (to_greatest (length s) o)

-- the range holds exactly the offsets at which the two overlap
pub in_offsets_overlaps :
    (s : List ℕ) (a : ℕ) (k : List ℕ) (b : ℕ) → 1 ≤ length k → 1 ≤ length s → in_offsets k s (offset b a) ≡ overlaps s a k b
in_offsets_overlaps s a k b h i =
    in_offsets_starts k s (offset b a) h i
    ∙ iff_eq (ltb (string_start (offset b a)) (length k) && ltb (key_start (offset b a)) (length s)) (overlaps s a k b) to from
  where
    to : (ltb (string_start (offset b a)) (length k) && ltb (key_start (offset b a)) (length s)) ≡ true → overlaps s a k b ≡ true
    to t =
        let z = offset_starts b a in
        let p : string_start (offset b a) < length k =
        ltb-true (string_start (offset b a)) (length k)
        (and_left (ltb (string_start (offset b a)) (length k)) (ltb (key_start (offset b a)) (length s)) t) in
        let q : key_start (offset b a) < length s =
        ltb-true (key_start (offset b a)) (length s)
        (and_right (ltb (string_start (offset b a)) (length k)) (ltb (key_start (offset b a)) (length s)) t) in
        overlaps_put s a k b (omega arith) (omega arith) i h

    from : overlaps s a k b ≡ true → (ltb (string_start (offset b a)) (length k) && ltb (key_start (offset b a)) (length s)) ≡ true
    from t =
        let z = offset_starts b a in
        let p = overlaps_get s a k b t in
        and_put (lt-ltb (string_start (offset b a)) (length k) (omega arith))
        (lt-ltb (key_start (offset b a)) (length s) (omega arith))

-- an entry that agrees has its offset in range
pub agrees_in_offsets :
    (s : List ℕ) (a : ℕ) (k : List ℕ) (b : ℕ) → agrees s a k b ≡ true → in_offsets k s (offset b a) ≡ true
unfolding agrees
agrees_in_offsets s a k b t =
    let meet = and_left (overlaps s a k b) (equal_from (length s) a s a k b) t in
    let some = overlaps_get s a k b meet in
    in_offsets_overlaps s a k b some.3 some.2 ∙ meet
