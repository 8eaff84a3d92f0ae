-- `write_chars` meets its contract. The invariant: the characters from i on are to be written.
use Rattle.std.proofs.Common.{length, ◌≤◌}
use lib.ListN.{drop}
use Rattle.basics.specs.Placed.{Writing}
use Rattle.copying.proofs.slices.write_chars.Given as goal

abbrev pub invariant-loop-i : goal.invariant-loop-i
invariant-loop-i l = (l.i ≤ length l.text) × Writing l.text 0 l.initial.output (drop l.i l.text) l.i l.output
