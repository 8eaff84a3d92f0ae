use Rattle.std.proofs.Common.{true, refl, ◌∙◌, arith}
use Rattle.laws.specs.Gaps.GapLists.{summed_step, summed_late, summed_end}
use Rattle.laws.specs.Gaps.ReadLists.{good_gaps}
use Rattle.readability.proofs.lists.GapsListForm.list_good.Goals as goal

pub loop-gap-preserved : goal.loop-gap-preserved
loop-gap-preserved c =
    let walk = c.loop-gap in
    summed_step walk.invariant c.loop-gap-test.true (omega (arith, c.type_inv.numbers walk.gap-index))

pub returns-then-n-from_sum : goal.returns-then-n-from_sum
returns-then-n-from_sum c =
    let a = c.args in
    summed_late c.loop-gap.invariant c.loop-gap-test.false a.n a.len c.requires.0 (omega arith)
    ∙ good_gaps true a.n a.len a.numbers.now refl

pub returns : goal.returns
returns c =
    let a = c.args in
    summed_end c.loop-gap.invariant c.loop-gap-test.false a.n a.len c.requires.0 (omega arith)
    ∙ good_gaps true a.n a.len a.numbers.now refl
