-- `lower_bound` meets its contract. The invariant: the lower bound is not before a and not after a + left. The measure is `left`.
use Rattle.std.proofs.Common.{◌+◌}
use Rattle.basics.specs.LowerBound.{Bisected}
use Rattle.bisect.proofs.lower_bound.Given as goal

abbrev pub invariant-loop-left : goal.invariant-loop-left
invariant-loop-left g l = Bisected (g.C.Column.value l.column) l.low l.high l.least l.a (l.a + l.left)

abbrev pub decreases-loop-left : goal.decreases-loop-left
decreases-loop-left g l = l.left
