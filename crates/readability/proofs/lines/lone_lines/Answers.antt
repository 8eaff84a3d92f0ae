use Rattle.std.proofs.Common.{◌+◌}
use Rattle.spec.specs.Dictionary.{lexicon}
use Rattle.models.specs.Readability.{read_as}
use Rattle.laws.specs.Readable.LineSteps.{LinesRead}
use mathlib.Core.Path.{sym, ◌∙◌}
use native.Mathlib.Omega.{arith}
use Rattle.laws.specs.Readable.KeyTests.{word_count}
use Rattle.laws.specs.Readable.LineSteps.{lines_end}
use Rattle.laws.specs.Readable.LineKinds.{other_stop, low_stop, listed_stop, lone_stop, lone_step}
use Rattle.laws.specs.Readable.LoneWords.{passed_start, passed_raise}
use Rattle.readability.proofs.OneLine.{line_read}
use Rattle.readability.proofs.lines.lone_lines.Goals as goal

pub loop-i-init : goal.loop-i-init
loop-i-init g c =
    let d = c.args.dictionary.now in
    (c.requires.1, passed_start d.chars.now d.lengths.now d.admitted)

pub returns-then-line-ne1 : goal.returns-then-line-ne1
returns-then-line-ne1 g c =
    let l = c.loop-i in
    let is_line = line_read (omega arith) c.text_len-n.ensures.0 c.next_line-line.ensures in
    let admitted = c.args.dictionary.now.admitted in
    other_stop l.least l.invariant.0 is_line (omega (arith, word_count admitted, admitted.few)) c.if-line-ne1.true

pub returns-then-value-least : goal.returns-then-value-least
returns-then-value-least g c =
    let l = c.loop-i in
    let is_line = line_read (omega arith) c.text_len-n.ensures.0 c.next_line-line.ensures in
    low_stop l.least l.invariant.0 is_line c.if-line-ne1.false c.if-value-least.true

pub returns-then-is_word : goal.returns-then-is_word
returns-then-is_word g c =
    let l = c.loop-i in
    let is_line = line_read (omega arith) c.text_len-n.ensures.0 c.next_line-line.ensures in
    listed_stop l.least l.invariant.0 is_line c.if-line-ne1.false (sym c.seek-is_word.ensures.1 ∙ c.if-is_word.true)

pub returns-then-not-line_list_good : goal.returns-then-not-line_list_good
returns-then-not-line_list_good g c =
    let l = c.loop-i in
    let is_line = line_read (omega arith) c.text_len-n.ensures.0 c.next_line-line.ensures in
    lone_stop l.least l.invariant.0 is_line c.if-line-ne1.false c.if-value-least.false (omega (arith, c.if-value-gt-GREATEST_CHAR.false))
    (sym c.seek-is_word.ensures.1 ∙ c.if-is_word.false)
    (sym c.line_list_good.ensures ∙ c.if-not-line_list_good.true)

pub loop-i-preserved : goal.loop-i-preserved
loop-i-preserved g c =
    let l = c.loop-i in
    let line = c.next_line-line.result in
    let is_line = line_read (omega arith) c.text_len-n.ensures.0 c.next_line-line.ensures in
    let d = c.args.dictionary.now in
    let next_lines :
    LinesRead (read_as g.F.ListForm.as_gaps) (lexicon d.chars.now d.lengths.now) c.args.index.now (l.i + 1) line.to
    (65536 + (line.value + 1)) =
    lone_step l.least l.invariant.0 is_line c.if-line-ne1.false c.if-value-least.false (omega (arith, c.if-value-gt-GREATEST_CHAR.false))
    (sym c.seek-is_word.ensures.1 ∙ c.if-is_word.false)
    (sym c.line_list_good.ensures ∙ c.if-not-line_list_good.false) in
    (next_lines, passed_raise (line.value + 1) (omega arith) c.seek-is_word.ensures.0)

pub returns : goal.returns
returns g c = lines_end c.loop-i.invariant.0 (omega arith)
