use Rattle.std.proofs.Common.{length, ◌<◌}
use native.Mathlib.Omega.{arith}
use lib.ListN.{get_or}
use Rattle.laws.specs.Cut.Flagging.{ones_at_next}
use Rattle.bearing.proofs.flags.flag_list.Goals as goal

pub loop-line-preserved : goal.loop-line-preserved
loop-line-preserved c =
    let l = c.loop-line in
    let room : get_or c.args.lines.now l.line-index 0 < length l.flags =
    omega (arith, c.requires l.line-index c.loop-line-test.true, l.invariant.len) in
    ones_at_next c.args.lines.now l.line-index l.invariant c.loop-line-test.true room
