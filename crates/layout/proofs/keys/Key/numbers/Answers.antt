-- `numbers` meets its contract: kind 0 is a word.
use Rattle.std.proofs.Common.{refl, arith}
use Rattle.spec.specs.Words.{key}
use Rattle.layout.proofs.keys.Key.numbers.Goals as goal

pub returns-in-Word : goal.returns-in-Word
unfolding key
returns-in-Word c = rw c.in-Word.is (refl, refl, omega arith)

pub returns-in-Lone : goal.returns-in-Lone
unfolding key
returns-in-Lone c = rw c.in-Lone.is (refl, refl, omega arith)
