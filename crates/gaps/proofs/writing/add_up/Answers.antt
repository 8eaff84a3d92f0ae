use native.Mathlib.Omega.{arith}
use Rattle.laws.specs.Gaps.GapSums.{adding_step, adding_end, next_is}
use Rattle.gaps.proofs.writing.add_up.Goals as goal

pub overflow_add-sum : goal.overflow_add-sum
overflow_add-sum c =
    let walk = c.loop-i in
    omega (
      arith,
      c.requires.1 walk.i,
      next_is c.args.part.now c.args.gaps.now c.requires.0 walk.invariant c.loop-i-test.true,
    )

pub loop-i-preserved : goal.loop-i-preserved
loop-i-preserved c =
    let walk = c.loop-i in
    adding_step c.args.part.now c.args.gaps.now c.requires.0 walk.invariant
    c.loop-i-test.true

pub returns : goal.returns
returns c =
    let walk = c.loop-i in
    adding_end c.args.part.now c.args.gaps.now c.requires.0 walk.invariant
    c.loop-i-test.false
