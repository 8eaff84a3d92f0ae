-- `rise` meets its contract. The invariant: all positions ascend exactly if none read descends and those from i on ascend after the last
-- read.
use Rattle.std.proofs.Common.{not}
use Rattle.laws.specs.Readable.LineSteps.{Rises}
use Rattle.readability.proofs.lists.rise.Given as goal

abbrev pub invariant-loop-i : goal.invariant-loop-i
invariant-loop-i l = Rises l.positions (not l.descends) l.last l.i
