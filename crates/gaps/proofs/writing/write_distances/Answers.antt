use Rattle.std.proofs.Common.{arith}
use Rattle.laws.specs.Gaps.GapWriting.{distances_start, distances_step, distances_end}
use Rattle.gaps.proofs.writing.write_distances.Goals as goal

pub loop-i-init : goal.loop-i-init
loop-i-init c = distances_start c.args.run.now c.args.part.now c.requires

pub loop-i-preserved : goal.loop-i-preserved
loop-i-preserved c =
    rw c.saturating_sub.ensures
    (distances_step c.args.run.now c.args.part.now c.requires c.loop-i.invariant (omega arith))

pub returns : goal.returns
returns c =
    distances_end c.args.run.now c.args.part.now c.requires c.loop-i.invariant (omega arith)
