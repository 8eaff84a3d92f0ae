-- `find_last_standing` meets its contract. The invariant: the words of the range share `depth` characters with the text, and `best` is the
-- last of the other words that stands. The measure is how many words and characters are left.
use Rattle.std.proofs.Common.{◌-◌, ◌+◌}
use Rattle.matching.specs.Answers.{plus_one}
use Rattle.dictionary.specs.Words.{lexicon_of}
use Rattle.laws.specs.Match.PrefixRanges.{PrefixRange}
use Rattle.matching.proofs.ranges.find_last_standing.Given as goal

abbrev pub invariant-loop-low : goal.invariant-loop-low
invariant-loop-low l = PrefixRange (lexicon_of l.words).words l.text (l.at + 1) l.count l.low l.high l.depth (plus_one l.best)

abbrev pub decreases-loop-low : goal.decreases-loop-low
decreases-loop-low l = (l.high - l.low) + (32 - l.depth)
