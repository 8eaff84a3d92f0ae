use Rattle.std.proofs.Common.{refl}
use Rattle.laws.specs.Receive.PositionWalk.{reconstructed_step, reconstructed_end}
use Rattle.reconstruction.proofs.entries.reconstruct_positions.Goals as goal

pub loop-position-preserved : goal.loop-position-preserved
loop-position-preserved c =
    let a = c.args in
    reconstructed_step a.string.now a.positions.now a.text.now c.loop-position.invariant
    c.loop-position-test.true refl
    c.reconstruct_string.ensures

pub returns : goal.returns
returns c =
    let a = c.args in
    reconstructed_end a.string.now a.positions.now a.text.now c.loop-position.invariant c.loop-position-test.false
