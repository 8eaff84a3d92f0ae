-- `line_list_good` meets its contract: for each return one law, whose tests the path has passed.
use Rattle.std.proofs.Common.{◌≡◌, ◌-◌, ◌≤◌, ◌∙◌, ℕ, List, length, take, drop, length-drop, length-take-le, arith}
use Rattle.models.specs.Readability.{read_as}
use Rattle.laws.specs.Readable.LineSteps.{positions_missing, positions_none, positions_there}
use Rattle.laws.specs.Gaps.ReadLists.{good_only}
use Rattle.readability.proofs.lists.line_list_good.Goals as goal

-- how many numbers a line has, where they are there
count_there : (from to : ℕ) (xs : List ℕ) → from ≤ length xs → to ≤ length xs → length (take (to - from) (drop from xs)) ≡ to - from
count_there from to xs start present = length-take-le (to - from) (drop from xs) (omega (arith, length-drop from xs))

pub returns-then-index-line : goal.returns-then-index-line
returns-then-index-line g c =
    let a = c.args in
    positions_missing (read_as g.F.ListForm.as_gaps) a.index.now a.n a.len c.requires.1 c.if-index-line.true

pub returns-in-empty : goal.returns-in-empty
returns-in-empty g c =
    let a = c.args in
    let count = count_there a.line.from a.line.to a.index.now c.requires.1 c.if-index-line.false in
    positions_none (read_as g.F.ListForm.as_gaps) a.index.now a.n a.len (omega arith)

pub returns-in-len1 : goal.returns-in-len1
returns-in-len1 g c =
    let a = c.args in
    let list = take (a.line.to - a.line.from) (drop a.line.from a.index.now) in
    let count = count_there a.line.from a.line.to a.index.now c.requires.1 c.if-index-line.false in
    good_only g.F.ListForm.as_gaps a.n a.len list (omega arith)
    ∙ positions_there (read_as g.F.ListForm.as_gaps) a.index.now a.n a.len (omega arith) c.if-index-line.false

pub returns-in_default : goal.returns-in_default
returns-in_default g c =
    let a = c.args in
    let count = count_there a.line.from a.line.to a.index.now c.requires.1 c.if-index-line.false in
    c.list_good.ensures
    ∙ positions_there (read_as g.F.ListForm.as_gaps) a.index.now a.n a.len (omega arith) c.if-index-line.false
