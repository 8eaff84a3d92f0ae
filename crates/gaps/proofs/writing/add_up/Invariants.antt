-- `add_up` meets its contract. The invariant: the first i numbers are sums, and the masks from i on are unchanged.
use Rattle.laws.specs.Gaps.GapSums.{Adding}
use Rattle.gaps.proofs.writing.add_up.Given as goal

abbrev pub invariant-loop-i : goal.invariant-loop-i
invariant-loop-i l = Adding l.initial.part l.gaps l.part l.sum l.i
