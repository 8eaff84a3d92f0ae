-- `write_list` meets its contract. The invariant: the numbers from i on are to be written.
use Rattle.std.proofs.Common.{length, ◌+◌, ◌≤◌}
use lib.ListN.{drop}
use Rattle.basics.specs.Placed.{Writing}
use Rattle.copying.proofs.slices.write_list.Given as goal

abbrev pub invariant-loop-i : goal.invariant-loop-i
invariant-loop-i l = (l.i ≤ length l.list) × Writing l.list l.from l.initial.output (drop l.i l.list) (l.from + l.i) l.output
