-- Copying the members of a chain into a slice, one after the other. Assumes nothing.
use Rattle.std.specs.Prelude.{◌≡◌, List, [], ◌∷◌, ℕ, ◌+◌, ◌-◌, ◌≤◌, ◌<◌, length, get_or, set, drop}
use Rattle.std.proofs.Common.{arith, drop_of_length-le}
use Rattle.basics.specs.Member.{in_getD}
use Rattle.basics.specs.Chain.{chain, Threaded, Walking, walk_starts, MemberInHand, walk_member, walk_ends}
use Rattle.basics.specs.Placed.{Wrote, Writing, writing_start, writing_one, writing_end}

-- the chain of `head` is written from `start` on; the members before `here` are written, and `member` is the next one, or 0
pub record Copying (links : List ℕ) (head : ℕ) (old now : List ℕ) (start here member : ℕ) : Type 0 where
  pub from : start ≤ here
  pub walking : Walking links (chain links head) member (here - start)
  pub writing : Writing (chain links head) start old (drop (here - start) (chain links head)) here now

pub copy_start :
    {links : List ℕ} {head : ℕ} (old : List ℕ) (start : ℕ) → Threaded links head → start + length (chain links head) ≤ length old →
    Copying links head old old start start head
copy_start {links} {head} old start t room =
    let none : start - start ≡ 0 = omega arith in
    record {
      from = omega arith;
      walking = rw none (walk_starts links head t);
      writing = rw none (writing_start (chain links head) start old room);
    }

-- what holds while a member is at hand
pub record CopyInHand (links : List ℕ) (head : ℕ) (old now : List ℕ) (start here member : ℕ) : Type 0 where
  pub left : here - start < length (chain links head)
  pub room : here < length now
  pub linked : member - 1 < length links
  pub next : Copying links head old (set now here member) start (here + 1) (get_or links (member - 1) 0)

module _ {links : List ℕ} {head : ℕ} {old now : List ℕ} {start here member : ℕ}
    (k : Copying links head old now start here member) where
  pub copy_member : Threaded links head → (member ≡ 0 → ⊥) → CopyInHand links head old now start here member
  copy_member t some =
      record {
        left = m.below;
        room = omega (arith, w.room);
        linked =
            omega (
              arith,
              some,
              m.is,
              t.within (get_or (chain links head) (here - start) 0) (in_getD (chain links head) (here - start) 0 m.below),
            );
        next =
            record {
              from = omega (arith, k.from);
              walking = rw on m.next;
              writing = rw on (writing_one member (drop (here - start + 1) (chain links head)) w);
            };
      }
    where
      m : MemberInHand links (chain links head) member (here - start)
      m = walk_member links (chain links head) member (here - start) k.walking some

      w : Writing (chain links head) start old (member ∷ drop (here - start + 1) (chain links head)) here now
      w = rw m.split at k.writing

      on : here + 1 - start ≡ here - start + 1
      on = omega arith

  pub copy_end : member ≡ 0 → Wrote (chain links head) start old here now
  copy_end none =
      let past : length (chain links head) ≤ here - start =
      omega (arith, walk_ends links (chain links head) member (here - start) k.walking none) in
      let nothing : drop (here - start) (chain links head) ≡ [] = drop_of_length-le (chain links head) past in
      writing_end (rw nothing at k.writing)
