-- `raised` meets its contract. The invariant: the counts, with what the lines add that are to come, are the counts given with the tally
-- added.
use Rattle.std.proofs.Common.{◌≡◌}
use Rattle.spec.specs.Dictionary.{lexicon}
use Rattle.laws.specs.Tally.Walk.{Tallied}
use Rattle.postings.proofs.tallying.raised.Given as goal

abbrev pub invariant-loop-list : goal.invariant-loop-list
invariant-loop-list l =
    (l.list-iterator.index.now ≡ l.index)
    × Tallied (lexicon l.dictionary.chars.now l.dictionary.lengths.now) l.index l.fn.counts l.counts l.list-iterator.number
