-- `walk_pair` meets its contract. The invariant: a walk along the pair's chain, on which no word passed stands and ends after `end`.
use Rattle.laws.specs.Match.WordChains.{PairWalk}
use Rattle.matching.proofs.longest.walk_pair.Given as goal

abbrev pub invariant-loop : goal.invariant-loop
invariant-loop l = PairWalk l.table.words.chars.now l.table.words.starts.now l.table.links.now l.text l.at l.end l.next
