-- A run of writes, one after the other: the room for each, and what is written in the end.
use Rattle.std.proofs.Common.{◌≡◌, List, ◌++◌, ℕ, ◌+◌, ◌≤◌, length, ap, ◌∙◌, arith, length-append}
use Rattle.basics.specs.Placed.{Wrote, placed_append, length_placed}

-- there is room for such bytes from an index on
pub record Room (new : List ℕ) (at : ℕ) (old : List ℕ) : Type 0 where
  pub room : at + length new ≤ length old

-- room for a whole is room for its parts
pub room_start : {all parts : List ℕ} → all ≡ parts → (at : ℕ) (old : List ℕ) → at + length all ≤ length old → Room parts at old
room_start e at old h = record { room = rw e at h }

pub room_first : (xs ys : List ℕ) {at : ℕ} {old : List ℕ} → Room (xs ++ ys) at old → at + length xs ≤ length old
room_first xs ys r = omega (arith, r.room, length-append xs ys)

module _ {xs ys : List ℕ} {at : ℕ} {old : List ℕ} (r : Room (xs ++ ys) at old) {mid : ℕ} {now : List ℕ}
    (first : Wrote xs at old mid now) where
  pub room_next : Room ys mid now
  room_next =
      let kept = ap length first.content ∙ length_placed xs at old (room_first xs ys r) in
      record { room = omega (arith, r.room, length-append xs ys) }

  pub wrote_both : {end : ℕ} {last : List ℕ} → Wrote ys mid now end last → Wrote (xs ++ ys) at old end last
  wrote_both second =
      record {
        ends = omega (arith, length-append xs ys);
        content = second.content ∙ rw (first.ends, first.content) (placed_append xs ys at old (room_first xs ys r));
      }
