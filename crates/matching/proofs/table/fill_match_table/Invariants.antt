-- `fill_match_table` meets its contract. The invariant: the starts of the first i words are written, and heads and links are the match
-- table of these words.
use Rattle.std.proofs.Common.{length, ◌≡◌}
use Rattle.models.specs.WordStarts.{starts_from}
use Rattle.laws.specs.Dictionary.WordStarts.{FillingStarts}
use Rattle.laws.specs.Match.MatchTable.{Chained}
use Rattle.matching.proofs.table.fill_match_table.Given as goal

abbrev pub invariant-loop-i : goal.invariant-loop-i
invariant-loop-i l =
    FillingStarts l.lengths l.initial.word_starts l.word_starts l.i l.at ×
    Chained l.chars (starts_from 0 l.lengths) l.heads l.links l.i ×
    (length l.heads ≡ length l.initial.heads) × (length l.links ≡ length l.initial.links)
