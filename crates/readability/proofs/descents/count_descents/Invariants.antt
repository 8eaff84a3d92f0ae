-- `count_descents` meets its contract. The invariant: `count` is the number of descents before index `at`.
use Rattle.laws.specs.Readable.Descents.{BlocksCounted}
use Rattle.readability.proofs.descents.count_descents.Given as goal

abbrev pub invariant-loop-at : goal.invariant-loop-at
invariant-loop-at g l = BlocksCounted g.F.ListForm.as_gaps l.run l.count l.at
