use native.Mathlib.Omega.{arith}
use Rattle.laws.specs.Dictionary.Admission.{lengths_step, lengths_sum, lengths_tested}
use Rattle.dictionary.proofs.admission.lengths_fit.Goals as goal

pub loop-len-preserved : goal.loop-len-preserved
loop-len-preserved c =
    rw c.from-sum.ensures
    (lengths_step
    c.args.lengths.now
    c.loop-len.sum
    c.loop-len.good
    c.loop-len.len-index
    c.loop-len.invariant
    c.loop-len-test.true
    (omega (arith, c.type_inv.lengths c.loop-len.len-index)))

pub returns : goal.returns
returns c =
    rw (
      lengths_sum c.args.lengths.now c.loop-len.sum c.loop-len.good c.loop-len.len-index
          c.loop-len.invariant c.loop-len-test.false,
      lengths_tested c.args.lengths.now c.loop-len.sum c.loop-len.good c.loop-len.len-index
          c.loop-len.invariant c.loop-len-test.false,
    )
