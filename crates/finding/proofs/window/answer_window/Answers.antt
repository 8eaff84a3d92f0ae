-- `answer_window` meets its contract: the starts are written once their number is known to fit.
use mathlib.Core.Path.{refl}
use Rattle.laws.specs.Window.Searching.{count_is, answer_short, answer_found}
use Rattle.finding.proofs.window.answer_window.Goals as goal

pub returns-then-output-count : goal.returns-then-output-count
returns-then-output-count c =
    let a = c.args in
    answer_short a.len a.first a.reach.now c.count_found-count.ensures c.if-output-count.true refl refl

pub write_found-requires : goal.write_found-requires
write_found-requires c =
    let a = c.args in (
      count_is a.len a.first a.reach.now c.count_found-count.ensures,
      c.if-output-count.false,
      c.requires,
    )

pub returns : goal.returns
returns c =
    let a = c.args in
    answer_found a.len a.first a.reach.now c.count_found-count.ensures c.if-output-count.false
    c.write_found.ensures refl refl
