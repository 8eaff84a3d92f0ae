use Rattle.std.proofs.Common.{refl}
use Rattle.laws.specs.Receive.PositionWalk.{filled_step, filled_end}
use Rattle.reconstruction.proofs.line_map.fill_at.Goals as goal

pub loop-position-preserved : goal.loop-position-preserved
loop-position-preserved c =
    filled_step c.args.value c.loop-position.invariant c.loop-position-test.true
    refl

pub returns : goal.returns
returns c =
    filled_end c.args.value c.loop-position.invariant c.loop-position-test.false
