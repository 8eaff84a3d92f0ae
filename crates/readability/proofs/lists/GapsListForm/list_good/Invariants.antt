-- `list_good` of gaps meets its contract. The invariant: the sums of the first i gaps ascend if none is 0, and `sum` is the last of them.
use Rattle.laws.specs.Gaps.GapLists.{Summed}
use Rattle.readability.proofs.lists.GapsListForm.list_good.Given as goal

abbrev pub invariant-loop-gap : goal.invariant-loop-gap
invariant-loop-gap l = Summed l.numbers l.good l.sum l.gap-index
