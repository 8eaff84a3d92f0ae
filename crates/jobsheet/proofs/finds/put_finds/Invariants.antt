-- `put_finds` meets its contract. The invariant: the first i finds are printed, and `from` is where the next string begins.
use Rattle.std.proofs.Common.{length, ◌≡◌}
use Rattle.laws.specs.JobSheet.FindWalk.{FindsPrinted}
use Rattle.dictionary.specs.Words.{lexicon_of}
use Rattle.jobsheet.proofs.finds.put_finds.Given as goal

abbrev pub invariant-loop-count : goal.invariant-loop-count
invariant-loop-count l =
    (length l.found ≡ length l.initial.found)
    × FindsPrinted (lexicon_of l.postings.directory.words) l.postings.directory.index.now l.strings l.counts l.at l.initial.out
    l.from l.end l.count-index l.out
