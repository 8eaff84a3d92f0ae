-- `lone_lines` meets its contract. The invariant: the lines from i on decide, and a character that may follow is a word exactly if it is
-- one of the words left.
use Rattle.std.proofs.Common.{◌+◌}
use Rattle.spec.specs.Dictionary.{lexicon}
use Rattle.models.specs.Readability.{read_as}
use Rattle.laws.specs.Readable.LineSteps.{LinesRead}
use Rattle.laws.specs.Readable.LoneWords.{Passed}
use Rattle.readability.proofs.lines.lone_lines.Given as goal

abbrev pub invariant-loop-i : goal.invariant-loop-i
invariant-loop-i g l =
    LinesRead (read_as g.F.ListForm.as_gaps) (lexicon l.dictionary.chars.now l.dictionary.lengths.now) l.index l.i l.at (65536 + l.least)
    × Passed l.dictionary.chars.now l.dictionary.lengths.now l.words.word l.words.at l.least
