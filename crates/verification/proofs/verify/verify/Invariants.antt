-- `verify` meets its contract. The invariant: the test of the whole text is what is left of it, with the entries counted so far.
use Rattle.dictionary.specs.Words.{lexicon_of}
use Rattle.laws.specs.Receive.Verify.{Testing}
use Rattle.verification.proofs.verify.verify.Given as goal

abbrev pub invariant-loop-at : goal.invariant-loop-at
invariant-loop-at l = Testing (lexicon_of l.table.words) l.index l.text l.line_map l.at l.end l.count
