-- `fill_word_starts` meets its contract. The invariant: the starts of the first i words are written, and `at` is the next one.
use Rattle.laws.specs.Dictionary.WordStarts.{FillingStarts}
use Rattle.directory.proofs.tables.fill_word_starts.Given as goal

abbrev pub invariant-loop-i : goal.invariant-loop-i
invariant-loop-i l = FillingStarts l.lengths l.initial.word_starts l.word_starts l.i l.at
