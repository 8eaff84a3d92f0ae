-- `extend_at_range` meets its contract. The invariant: from the window after i positions the other positions lead to the same window as all
-- do from the first.
use Rattle.laws.specs.Window.ExtendAtPositions.{Extending}
use Rattle.cover.proofs.extend.Window.extend_at_range.Given as goal

abbrev pub invariant-loop-i : goal.invariant-loop-i
invariant-loop-i l =
    Extending l.positions l.placement.len l.placement.string_start l.placement.key_start l.fn.self.first l.initial.reach l.fn.self.highest
    l.reach l.highest l.i
