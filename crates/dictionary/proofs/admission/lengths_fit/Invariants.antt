-- `lengths_fit` meets its contract. The invariant: `sum` and `good` are those of the first i lengths.
use Rattle.laws.specs.Dictionary.Admission.{LengthsRead}
use Rattle.dictionary.proofs.admission.lengths_fit.Given as goal

abbrev pub invariant-loop-len : goal.invariant-loop-len
invariant-loop-len l = LengthsRead l.lengths l.sum l.good l.len-index
