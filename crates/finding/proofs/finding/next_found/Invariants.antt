-- `next_found` meets its contract. The invariant: no start from `from` up to the ith is found, and one after them is. The measure is how
-- many starts are left.
use Rattle.std.proofs.Common.{length, ◌-◌}
use Rattle.laws.specs.Window.Finding.{Passing}
use Rattle.finding.proofs.finding.next_found.Given as goal

abbrev pub invariant-loop-i : goal.invariant-loop-i
invariant-loop-i l = Passing l.len l.reach l.from l.i

abbrev pub decreases-loop-i : goal.decreases-loop-i
decreases-loop-i l = length l.reach - l.i
