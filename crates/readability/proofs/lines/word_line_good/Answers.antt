-- `word_line_good` meets its contract: for each return one law, whose tests the path has passed.
use Rattle.std.proofs.Common.{◌-◌, drop}
use Rattle.models.specs.Readability.{read_as}
use mathlib.Core.Path.{◌∙◌}
use Rattle.laws.specs.Readable.KeyTests.{word_low, word_high, word_fits}
use Rattle.readability.proofs.lines.word_line_good.Goals as goal

pub returns-then-value-least : goal.returns-then-value-least
returns-then-value-least g c =
    let args = c.args in
    let l = args.line in
    word_low (read_as g.F.ListForm.as_gaps) args.dictionary.now.admitted args.n (l.to - l.from) (drop l.from args.index.now)
    c.if-value-least.true

pub returns-then-dictionary-value : goal.returns-then-dictionary-value
returns-then-dictionary-value g c =
    let args = c.args in
    let l = args.line in
    word_high (read_as g.F.ListForm.as_gaps) args.dictionary.now.admitted args.n (l.to - l.from) (drop l.from args.index.now)
    args.least c.if-dictionary-value.true

pub returns : goal.returns
returns g c =
    let args = c.args in
    let l = args.line in
    c.line_list_good.ensures
    ∙ word_fits (read_as g.F.ListForm.as_gaps) args.dictionary.now.admitted args.n (l.to - l.from) (drop l.from args.index.now)
    c.if-value-least.false c.if-dictionary-value.false
