use Rattle.std.proofs.Common.{◌≡◌, ◌+◌}
use native.Mathlib.Omega.{arith}
use Rattle.basics.specs.PlacedCopies.{copy_step, copy_end}
use Rattle.copying.proofs.slices.write_list.Goals as goal

pub loop-i-preserved : goal.loop-i-preserved
loop-i-preserved c =
    let a = c.args in
    let l = c.loop-i in
    let z : a.from + l.i + 1 ≡ a.from + (l.i + 1) = omega arith in
    (omega (arith, c.loop-i-test.true), rw z at (copy_step a.list.now l.i l.invariant.1 c.loop-i-test.true))

pub returns : goal.returns
returns c =
    let l = c.loop-i in (copy_end c.args.list.now l.i l.invariant.1 c.loop-i-test.false).content
