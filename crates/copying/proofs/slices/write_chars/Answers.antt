use mathlib.Core.Path.{◌∙◌}
use native.Mathlib.Omega.{arith}
use Rattle.basics.specs.PlacedCopies.{copy_step, copy_end}
use Rattle.basics.specs.Writing.{placed_over}
use Rattle.copying.proofs.slices.write_chars.Goals as goal

pub loop-i-preserved : goal.loop-i-preserved
loop-i-preserved c = (
  omega (arith, c.loop-i-test.true),
  copy_step c.args.text.now c.loop-i.i c.loop-i.invariant.1 c.loop-i-test.true,
)

pub returns : goal.returns
returns c =
    (copy_end c.args.text.now c.loop-i.i c.loop-i.invariant.1 c.loop-i-test.false).content
    ∙ placed_over c.args.text.now c.args.output.now
