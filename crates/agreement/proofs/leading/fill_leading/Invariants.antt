-- `fill_leading` meets its contract. The invariant: of the lines before `line`, those that agree are listed.
use Rattle.dictionary.specs.Words.{lexicon_of}
use Rattle.laws.specs.Window.LeadingLines.{Leading}
use Rattle.agreement.proofs.leading.fill_leading.Given as goal

abbrev pub invariant-loop-line : goal.invariant-loop-line
invariant-loop-line l =
    Leading l.least (lexicon_of l.directory.words) l.directory.index.now l.string l.word_lines l.initial.lines l.lines l.count l.line
