-- `replace_into` meets its contract. The invariant: the first i characters are written, replaced, and the rest of the slice is unchanged.
use Rattle.folding.proofs.Front.{Front}
use Rattle.folding.proofs.forms.replace_into.Given as goal

abbrev pub invariant-loop-i : goal.invariant-loop-i
invariant-loop-i g l = Front g.T.From.from_gives l.text l.initial.slots l.slots l.i
