-- `write_directory` meets its contract. The invariant: the flagged lines before this one are written.
use Rattle.dictionary.specs.Words.{lexicon_of}
use Rattle.laws.specs.Cut.Cutting.{Listing}
use Rattle.cutter.proofs.cutting.Flagged.write_directory.Given as goal

abbrev pub invariant-loop-line : goal.invariant-loop-line
invariant-loop-line l =
    Listing (lexicon_of l.self.directory.words) l.self.directory.index.now l.self.string.now l.self.flags.now l.initial.output l.output
    l.keys l.line
