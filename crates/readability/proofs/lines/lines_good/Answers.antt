use Rattle.spec.specs.Dictionary.{lexicon}
use Rattle.models.specs.Readability.{read_as}
use mathlib.Core.Path.{sym, ◌∙◌}
use native.Mathlib.Omega.{arith}
use Rattle.laws.specs.Readable.KeyTests.{word_count}
use Rattle.laws.specs.Readable.LineSteps.{lines_start, lines_end, lines_extend}
use Rattle.laws.specs.Readable.LineKinds.{word_stop, word_known, word_step}
use Rattle.readability.proofs.OneLine.{line_read}
use Rattle.readability.proofs.lines.lines_good.Goals as goal

pub loop-i-init : goal.loop-i-init
loop-i-init g c =
    let d = c.args.dictionary.now in (
      lines_start (read_as g.F.ListForm.as_gaps) (lexicon d.chars.now d.lengths.now) c.args.index.now (omega arith) c.requires.1,
      omega arith,
    )

pub lone_lines-requires : goal.lone_lines-requires
lone_lines-requires g c =
    (c.requires.1, lines_extend c.loop-i.invariant.0 (omega arith) (omega arith) c.loop-i.invariant.1)

pub returns-then-not-word_line_good : goal.returns-then-not-word_line_good
returns-then-not-word_line_good g c =
    let l = c.loop-i in
    let is_line = line_read (omega arith) c.text_len-n.ensures.0 c.next_line-line.ensures in
    word_stop l.invariant.0 is_line c.if-line-ne0.false
    (sym c.word_line_good.ensures ∙ c.if-not-word_line_good.true)

pub loop-i-preserved : goal.loop-i-preserved
loop-i-preserved g c =
    let l = c.loop-i in
    let is_line = line_read (omega arith) c.text_len-n.ensures.0 c.next_line-line.ensures in
    let admitted = c.args.dictionary.now.admitted in
    let good = sym c.word_line_good.ensures ∙ c.if-not-word_line_good.false in
    let word = c.if-line-ne0.false in
    let known = word_known l.invariant.0 is_line word good in
    (word_step l.invariant.0 is_line word good, omega (arith, known, word_count admitted, admitted.few))

pub returns : goal.returns
returns g c = lines_end c.loop-i.invariant.0 (omega arith)
