-- Writing to the start of a slice, and through a part of it that is lent. Assumes nothing.
use Rattle.std.specs.Prelude.{◌≡◌, ℕ, ◌+◌, ◌-◌, ◌≤◌, take, drop, set}
use Rattle.std.proofs.Common.{ap, ◌∙◌, zero-add, arith, drop_of_length-le, take_all}
use mathlib.Core.List.{List, [], ◌∷◌, ◌++◌, append-nil}
use Rattle.std.proofs.Math.ListN.{length, length-drop}
use Rattle.std.proofs.Math.Seq.{drop-drop}
use Rattle.basics.specs.Placed.{placed, Writing, writing_start, writing_one, writing_end}

-- `new` over the start of `old`, whose rest stays
abbrev pub over : (new old : List ℕ) → List ℕ
over new old = new ++ drop (length new) old

pub placed_over : (new old : List ℕ) → placed new 0 old ≡ over new old
unfolding placed
placed_over new old = rw (zero-add (length new))

pub written : {all old now : List ℕ} {at : ℕ} → Writing all 0 old [] at now → now ≡ over all old
written {all} {old} w = (writing_end w).content ∙ placed_over all old

-- `&mut now[at..]` is lent: what the callee receives, and what the slice is once the callee has left `part` there
abbrev pub lent_tail : (at : ℕ) → (now : List ℕ) → List ℕ
lent_tail at now = take (length now - at) (drop at now)

abbrev pub tail_back : (at : ℕ) → (now part : List ℕ) → List ℕ
tail_back at now part = take at now ++ (part ++ drop (length now - at) (drop at now))

pub lent_tail_is : (at : ℕ) (now : List ℕ) → lent_tail at now ≡ drop at now
lent_tail_is at now = take_all (length now - at) (drop at now) (omega (arith, length-drop at now))

module _ {all old now todo : List ℕ} {at : ℕ} (w : Writing all 0 old todo at now) where
  -- the rest fits into it
  pub lent_room : length todo ≤ length (lent_tail at now)
  lent_room = omega (arith, ap length (lent_tail_is at now), length-drop at now)

  -- the callee writes the rest over its start
  pub tail_written : {part : List ℕ} → part ≡ over todo (lent_tail at now) → tail_back at now part ≡ over all old
  unfolding placed
  tail_written {part} e =
      let past : length (drop at now) ≤ length now - at = omega (arith, length-drop at now) in
      rw (drop_of_length-le (drop at now) past, append-nil part, e, lent_tail_is at now, drop-drop (length todo) at now)
      (w.same_content ∙ placed_over all old)

-- three numbers, one after the other
pub three_written :
    (old : List ℕ) (at x y z : ℕ) → at + 3 ≤ length old →
    set (set (set old at x) (at + 1) y) (at + 2) z ≡ placed (x ∷ y ∷ z ∷ []) at old
three_written old at x y z room =
    let next : at + 2 ≡ at + 1 + 1 = omega arith in
    rw next
    (writing_end (writing_one z [] (writing_one y (z ∷ []) (writing_one x (y ∷ z ∷ []) (writing_start (x ∷ y ∷ z ∷ []) at old room))))
    ).content
