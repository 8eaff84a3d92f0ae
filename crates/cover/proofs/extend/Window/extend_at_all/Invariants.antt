-- `extend_at_all` meets its contract. The invariant: from the window after so many positions, the other positions lead to the same
-- window as all do from the first. The laws of wrapping read the test of the wrapped difference.
use Rattle.laws.specs.Window.ExtendAtPositions.{Extending}
use Rattle.cover.proofs.extend.Window.extend_at_all.Given as goal

abbrev pub invariant-loop-position : goal.invariant-loop-position
invariant-loop-position l =
    Extending l.positions l.placement.len l.placement.string_start l.placement.key_start l.fn.self.first l.initial.reach l.fn.self.highest
    l.reach l.highest l.position-index
