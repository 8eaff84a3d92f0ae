-- `readable` meets its contract: a slice without its header or directory, or with a length that no text has, is not readable, and of any
-- other the walk decides.
use Rattle.spec.specs.Dictionary.{longest_text, lexicon}
use Rattle.models.specs.Readability.{read_as}
use mathlib.Core.Path.{◌∙◌}
use native.Mathlib.Omega.{arith}
use Rattle.laws.specs.Readable.KeyTests.{word_count}
use Rattle.laws.specs.Gaps.ReadLists.{read_keeps, header_missing, directory_missing, walk_tells}
use Rattle.readability.proofs.readability.readable.Goals as goal

pub returns-then-index-lt-HEADER : goal.returns-then-index-lt-HEADER
returns-then-index-lt-HEADER g c =
    let d = c.args.dictionary.now in
    let b = g.F.ListForm.as_gaps in
    header_missing (read_as b) (read_keeps b) longest_text (lexicon d.chars.now d.lengths.now)
    c.args.index.now c.if-index-lt-HEADER.true

pub returns-then-index-line_start : goal.returns-then-index-line_start
returns-then-index-line_start g c =
    let d = c.args.dictionary.now in
    let b = g.F.ListForm.as_gaps in
    directory_missing (read_as b) (read_keeps b) longest_text (lexicon d.chars.now d.lengths.now)
    c.args.index.now (omega arith)

pub returns : goal.returns
returns g c =
    let d = c.args.dictionary.now in
    let b = g.F.ListForm.as_gaps in
    c.lines_good.ensures
    ∙ walk_tells (read_as b) (read_keeps b) longest_text (lexicon d.chars.now d.lengths.now)
    c.args.index.now (omega (arith, word_count d.admitted, d.admitted.few)) (omega arith)
    (omega (arith, c.text_len.ensures.0))
