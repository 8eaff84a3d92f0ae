-- `lines_good` meets its contract. The invariant: the lines from i on decide, and all before are of words.
use Rattle.std.proofs.Common.{◌≤◌}
use Rattle.spec.specs.Dictionary.{lexicon}
use Rattle.models.specs.Readability.{read_as}
use Rattle.laws.specs.Readable.LineSteps.{LinesRead}
use Rattle.readability.proofs.lines.lines_good.Given as goal

abbrev pub invariant-loop-i : goal.invariant-loop-i
invariant-loop-i g l =
    LinesRead (read_as g.F.ListForm.as_gaps) (lexicon l.dictionary.chars.now l.dictionary.lengths.now) l.index l.i l.at l.least
    × (l.least ≤ 65536)
