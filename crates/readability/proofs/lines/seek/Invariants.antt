-- `seek` meets its contract. The invariant: a character from `value` on is a word exactly if it is one of the words left.
use Rattle.laws.specs.Readable.LoneWords.{Passed}
use Rattle.readability.proofs.lines.seek.Given as goal

abbrev pub invariant-loop-word : goal.invariant-loop-word
invariant-loop-word l = Passed l.dictionary.chars.now l.dictionary.lengths.now l.word l.at l.value
