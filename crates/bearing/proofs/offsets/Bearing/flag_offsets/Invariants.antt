-- `flag_offsets` meets its contract. The invariant: the offsets below `key_start` are done.
use Rattle.dictionary.specs.Words.{lexicon_of}
use Rattle.laws.specs.Cut.FlagWalks.{Offsets}
use Rattle.bearing.proofs.offsets.Bearing.flag_offsets.Given as goal

abbrev pub invariant-loop-key_start : goal.invariant-loop-key_start
invariant-loop-key_start l =
    Offsets (lexicon_of l.self.directory.words) l.self.directory.index.now l.self.string.now l.initial.flags l.flags l.key_start
