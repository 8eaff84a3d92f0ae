use Rattle.std.proofs.Common.{◌<◌, length, ◌≡◌, ℕ, ◌+◌, ◌-◌, get_or, arith}
use Rattle.laws.specs.Window.ListRange.{range_own, range_inside}
use Rattle.laws.specs.Window.ExtendAtPositions.{range_start, range_end, extending_passed, extending_extended}
use Rattle.cover.proofs.extend.Window.extend_at_range.Goals as goal
use Rattle.cover.proofs.extend.Window.extend_at_range.Goals.{then-extend_start, else-extend_start}

pub loop-i-init : goal.loop-i-init
loop-i-init c = range_start c.requires.range c.requires.is_window.within

pub loop-i-preserved : goal.loop-i-preserved
loop-i-preserved c =
    let a = c.args in
    let l = c.loop-i in
    let start : ℕ = c.number_at.result + a.placement.string_start - (a.self.now.first + a.placement.key_start) in
    let own : start + (a.self.now.first + a.placement.key_start) ≡ get_or a.positions.now l.i 0 + a.placement.string_start =
    omega (arith, range_own c.requires.range l.i (omega arith) c.loop-i-test.true)
    in
    let inside : start < length l.reach =
    omega (arith, own, range_inside c.requires.range l.i (omega arith) c.loop-i-test.true)
    in
    elim c.if-extend_start.branch [
      | then-extend_start w ↦ rw w.highest-is
          (extending_extended l.invariant (omega arith) (record { own = own; inside = inside })
          c.end-end.ensures c.extend_start.ensures w.if-extend_start.true c.max-peak.result c.max-peak.ensures)
      | else-extend_start w ↦ rw w.highest-is
          (extending_passed l.invariant (omega arith) (record { own = own; inside = inside }) c.end-end.ensures
          c.extend_start.ensures w.if-extend_start.false)
    ]

pub returns-clause-extended : goal.returns-clause-extended
returns-clause-extended c = range_end c.requires.range c.loop-i.invariant (omega arith)
