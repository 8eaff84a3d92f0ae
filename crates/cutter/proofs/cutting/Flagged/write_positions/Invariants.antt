-- `write_positions` meets its contract. The invariant: the positions of the flagged lines that the iterator gave are written.
use Rattle.std.proofs.Common.{◌≡◌}
use Rattle.models.specs.Window.{list_start}
use Rattle.dictionary.specs.Words.{lexicon_of}
use Rattle.laws.specs.Cut.Cutting.{Placing}
use Rattle.cutter.proofs.cutting.Flagged.write_positions.Given as goal

abbrev pub invariant-loop-line : goal.invariant-loop-line
invariant-loop-line l =
    let xs = l.self.directory.index.now in
    let i = l.line-iterator.number in
    (l.line-iterator.index.now ≡ xs)
    × Placing (lexicon_of l.self.directory.words) xs l.self.string.now l.self.flags.now l.initial.part l.part (list_start xs i) l.at i
