use Rattle.std.proofs.Common.{◌≡◌, ◌+◌, ◌-◌, length, arith}
use Rattle.laws.specs.Readable.Descents.{BlocksCounted, blocks_step, blocks_end, descents_none}
use Rattle.readability.proofs.descents.count_descents.Goals as goal

pub overflow_add-count : goal.overflow_add-count
overflow_add-count g c =
    let at = c.loop-at.at in
    let again :
    BlocksCounted g.F.ListForm.as_gaps c.args.run.now (c.loop-at.count + c.count_block-count.result) (at + (c.min-end.result - at - 1)) =
    rw c.count_block-count.ensures
    (blocks_step c.loop-at.invariant (c.min-end.result - at - 1) (omega arith) (omega arith)) in
    omega (arith, again.few)

pub loop-at-preserved : goal.loop-at-preserved
loop-at-preserved g c =
    rw c.count_block-count.ensures (blocks_step c.loop-at.invariant 65535 (omega arith) (omega arith))

pub returns : goal.returns
returns g c =
    let walk = c.loop-at in
    omega (arith, walk.invariant.all, descents_none g.F.ListForm.as_gaps c.args.run.now walk.at (omega arith))

pub returns-2 : goal.returns-2
returns-2 g c =
    let end : c.min-end.result ≡ length c.args.run.now = omega arith in
    rw (c.count_block-count.ensures, end) (blocks_end c.loop-at.invariant)
