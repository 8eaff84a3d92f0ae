-- `entries_match` meets its contract. The invariant: the entries of the lines that the iterator gave stand.
use Rattle.std.proofs.Common.{◌≡◌}
use Rattle.models.specs.Window.{list_start}
use Rattle.laws.specs.Receive.EntriesMatch.{Matching}
use Rattle.dictionary.specs.Words.{lexicon_of}
use Rattle.reconstruction.proofs.matches.entries_match.Given as goal

abbrev pub invariant-loop-line : goal.invariant-loop-line
invariant-loop-line l =
    let xs = l.directory.index.now in
    (l.line-iterator.index.now ≡ xs)
    × Matching (lexicon_of l.directory.words) xs l.text (list_start xs l.line-iterator.number) l.line-iterator.number
