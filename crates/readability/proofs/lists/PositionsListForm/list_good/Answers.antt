-- `list_good` of positions meets its contract: for each return one law, whose tests the path has passed.
use Rattle.std.proofs.Common.{refl, ◌∙◌, arith, false}
use Rattle.laws.specs.Readable.LineSteps.{list_late, list_rises}
use Rattle.laws.specs.Gaps.ReadLists.{good_positions}
use Rattle.readability.proofs.lists.PositionsListForm.list_good.Goals as goal

pub returns-then-n-last : goal.returns-then-n-last
returns-then-n-last c =
    let a = c.args in
    list_late a.numbers.now a.n a.len c.requires.0 (omega arith) ∙ good_positions false a.n a.len a.numbers.now refl

pub returns : goal.returns
returns c =
    let a = c.args in
    c.rise.ensures
    ∙ list_rises a.numbers.now a.n a.len c.requires.0 (omega arith)
    ∙ good_positions false a.n a.len a.numbers.now refl
