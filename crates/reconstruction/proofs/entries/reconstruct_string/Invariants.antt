-- `reconstruct_string` meets its contract. The invariant: the first i characters are written.
use Rattle.laws.specs.Receive.PositionWalk.{Setting}
use Rattle.reconstruction.proofs.entries.reconstruct_string.Given as goal

abbrev pub invariant-loop-i : goal.invariant-loop-i
invariant-loop-i l = Setting l.string l.at l.initial.text l.text l.i
