-- `words_ascend` meets its contract. The invariant: the words before word i ascend, and the code of the last of them is known.
use Rattle.std.proofs.Common.{◌≡◌, ◌+◌}
use Rattle.laws.specs.Dictionary.WordCode.{part, code}
use Rattle.laws.specs.Dictionary.Admission.{WordsRead}
use Rattle.dictionary.proofs.admission.words_ascend.Given as goal

abbrev pub invariant-loop-len : goal.invariant-loop-len
invariant-loop-len l = WordsRead l.chars l.lengths l.at l.next (l.len-index + 1) × (l.at_code ≡ code (part l.chars l.at l.next))
