-- What the laws of the cut-down index ask for, which holds for every `Flagged`. Assumes nothing.
use Rattle.laws.specs.Cut.ExactFlags.{FlaggedLines}
use Rattle.dictionary.specs.Words.{lexicon_of}
use Rattle.directory.specs.Directory.{directory_reads}
use Rattle.cutter.specs.declared.cutting.Flagged.{Flagged}

pub flagged_lines : (f : Flagged) → FlaggedLines (lexicon_of f.directory.words) f.directory.index.now f.string.now f.flags.now
flagged_lines f = record { fits = (directory_reads f.directory).can.fits; exact = f.exact }
