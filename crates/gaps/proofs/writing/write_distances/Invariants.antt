-- `write_distances` meets its contract. The invariant: the first i distances are written.
use Rattle.laws.specs.Gaps.GapWriting.{Distances}
use Rattle.gaps.proofs.writing.write_distances.Given as goal

abbrev pub invariant-loop-i : goal.invariant-loop-i
invariant-loop-i l = Distances l.run l.initial.part l.part l.i
