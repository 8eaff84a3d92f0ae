-- `compare_few` meets its contract. The invariant: the lines from `line` on are left, and there is room to list them.
use Rattle.std.proofs.Common.{◌-◌, ◌+◌, ◌≤◌}
use Rattle.dictionary.specs.Words.{lexicon_of}
use Rattle.laws.specs.Window.AgreeingLines.{AgreeingListed}
use Rattle.agreement.proofs.words.compare_few.Given as goal

abbrev pub invariant-loop-line : goal.invariant-loop-line
invariant-loop-line l =
    AgreeingListed l.key_start (lexicon_of l.directory.words) l.directory.index.now l.string
    l.word_lines l.lines l.count l.line l.refined.to ×
    (l.count + (l.refined.to - l.line) ≤ 36)
