-- `find_single` meets its contract. The invariant: a walk along the character's chain, on which no word passed is that character. The
-- measure is the next word's number.
use lib.ListN.{get_or}
use Rattle.laws.specs.Match.WordChains.{SingleWalk}
use Rattle.matching.proofs.longest.find_single.Given as goal

abbrev pub invariant-loop-number : goal.invariant-loop-number
invariant-loop-number l = SingleWalk l.table.words.chars.now l.table.words.starts.now l.table.links.now (get_or l.text l.at 0) l.next

abbrev pub decreases-loop-number : goal.decreases-loop-number
decreases-loop-number l = l.next
