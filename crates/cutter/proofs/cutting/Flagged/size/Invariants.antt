-- `size` meets its contract. The invariant: the flagged lines before this one are counted.
use Rattle.dictionary.specs.Words.{lexicon_of}
use Rattle.laws.specs.Cut.ExactFlags.{Counting}
use Rattle.cutter.proofs.cutting.Flagged.size.Given as goal

abbrev pub invariant-loop-line : goal.invariant-loop-line
invariant-loop-line l =
    Counting (lexicon_of l.self.directory.words) l.self.directory.index.now l.self.string.now l.self.flags.now l.keys l.entries l.line
