use Rattle.std.proofs.Common.{arith}
use Rattle.laws.specs.Receive.LineMapWalk.{mapping_room, mapping_step, mapping_end}
use Rattle.layout.specs.Lists.{list_part}
use Rattle.reconstruction.proofs.line_map.fill_line_map.Goals as goal

pub fill_at-requires : goal.fill_at-requires
fill_at-requires c =
    let step = rw c.loop-line.invariant.0 at c.in-Some.ensures.steps in (
      rw (list_part step.0) (mapping_room c.loop-line.invariant.1 step.0.is c.requires),
      omega (arith, step.1, step.0.is.below, c.type_inv.index 1),
    )

pub loop-line-preserved : goal.loop-line-preserved
loop-line-preserved c =
    let step = rw c.loop-line.invariant.0 at c.in-Some.ensures.steps in
    (step.2, rw step.3 (mapping_step c.loop-line.invariant.1 step.0.is (rw (list_part step.0, step.1) at c.fill_at.ensures)))

pub returns : goal.returns
returns c =
    let none = rw c.loop-line.invariant.0 at c.in-None.ensures.steps in
    mapping_end c.loop-line.invariant.1 none
