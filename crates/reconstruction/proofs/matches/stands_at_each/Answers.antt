use Rattle.std.proofs.Common.{◌≡◌, ◌≤◌, ◌+◌, ◌-◌, ◌<◌, ℕ, List, length, drop, get_or, arith}
use Rattle.std.proofs.lemmas.Iterator.{window_more}
use Rattle.std.specs.Slice.Iter.{windows_rest}
use Rattle.basics.specs.Bools.{reflects_no}
use Rattle.laws.specs.Receive.EntriesMatch.{StandEach, stand_part, stand_back, stand_first_next, rise_after}
use Rattle.reconstruction.proofs.matches.stands_at_each.Goals as goal
use Rattle.reconstruction.proofs.matches.stands_at_each.Goals.{In-Some}

-- a pair has the position at i and the next one, which is greater, and the pairs of the rest are left
record Turn (ps pair rest : List ℕ) (i : ℕ) : Type 0 where
  first : get_or pair 0 0 ≡ get_or ps i 0
  second : get_or pair 1 0 ≡ get_or ps (i + 1) 0
  rise : get_or pair 0 0 < get_or pair 1 0
  within : i + 1 < length ps
  some : 1 ≤ length rest
  next : i + 1 ≡ length ps - length rest
  left : rest ≡ drop (length ps - length rest) ps

-- how many pairs there were
abbrev before : In-Some → ℕ
before c = length c.args.positions.now - length (windows_rest c.loop-pair.pair-iterator)

turn : (c : In-Some) → Turn c.args.positions.now c.in-Some.pair.now (windows_rest c.next.new.self) (before c)
turn c =
    let ps = c.args.positions.now in
    let h = c.loop-pair.invariant in
    let more =
    window_more ps c.loop-pair.pair-iterator c.next.new.self c.next.result c.in-Some.pair c.in-Some.is c.next.ensures.steps (omega arith)
    h.within h.left in
    let here : before c + 0 ≡ before c = omega arith in
    let back : before c + 1 - 1 ≡ before c = omega arith in
    let first = rw here at (more.3 0 0 (omega arith)) in
    let second = more.3 1 0 (omega arith) in
    let rise = rw back at (rise_after 1 ps c.requires.2 (before c + 1) (omega arith) (omega arith)) in
    record {
      first = first;
      second = second;
      rise = omega arith;
      within = omega arith;
      some = omega arith;
      next = omega arith;
      left = more.1;
    }

pub returns-then-not-equal_from : goal.returns-then-not-equal_from
returns-then-not-equal_from c =
    let a = c.args in
    reflects_no
    (λ (each : StandEach a.string.now a.text.now a.positions.now).
    c.equal_from.ensures.fails c.if-not-equal_from.true (stand_part (each 0 c.requires.1) 0))

pub overflow_sub-step : goal.overflow_sub-step
overflow_sub-step c = omega (arith, turn (goal.at.overflow_sub-step c).In-Some)

pub stands_again-requires : goal.stands_again-requires
stands_again-requires c =
    let at = (goal.at.stands_again-requires c).In-Some in
    let pair = turn at in (
      c.period_of-period.ensures,
      omega arith,
      stand_back (get_or c.in-Some.pair.now 1 0) (omega (arith, pair.rise))
          (rw pair.first (c.loop-pair.invariant.first (before at) (omega arith))),
      omega (arith, pair.second, c.requires.0.to (before at + 1) pair.within),
    )

pub loop-pair-preserved : goal.loop-pair-preserved
loop-pair-preserved c =
    let at = (goal.at.loop-pair-preserved c).In-Some in
    let pair = turn at in
    record {
      pairs = omega arith;
      some = pair.some;
      within = omega (arith, pair.next, pair.within);
      left = pair.left;
      period = c.period_of-period.ensures;
      first =
          rw pair.next at
          (stand_first_next c.args.positions.now (before at + 1) c.loop-pair.invariant.first pair.second
          (c.stands_again.ensures.holds c.if-not-stands_again.false));
    }
