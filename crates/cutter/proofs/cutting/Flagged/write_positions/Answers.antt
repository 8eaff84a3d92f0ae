use Rattle.laws.specs.Cut.Cutting.{placing_room, placing_step, placing_pass, placing_end}
use Rattle.layout.specs.Lists.{list_part, list_span}
use Rattle.cutter.specs.Flags.{flagged_lines}
use Rattle.cutter.proofs.cutting.Flagged.write_positions.Goals as goal

pub new-line-items-requires : goal.new-line-items-requires
new-line-items-requires c = (flagged_lines c.args.self.now).fits

pub write_list-requires : goal.write_list-requires
write_list-requires c =
    let step = rw c.loop-line.invariant.0 at c.in-Some.ensures.steps in
    rw (← list_part step.0) at (placing_room c.loop-line.invariant.1 step.0.is (rw step.1 at c.if-self-line-ne0.true))

pub loop-line-preserved-then-self-line-ne0 : goal.loop-line-preserved-then-self-line-ne0
loop-line-preserved-then-self-line-ne0 c =
    let step = rw c.loop-line.invariant.0 at c.in-Some.ensures.steps in (
      step.2,
      rw (step.3, list_span step.0)
          (placing_step c.loop-line.invariant.1 step.0.is (rw step.1 at c.if-self-line-ne0.true)
          (rw (← list_part step.0) c.write_list.ensures)),
    )

pub loop-line-preserved : goal.loop-line-preserved
loop-line-preserved c =
    let step = rw c.loop-line.invariant.0 at c.in-Some.ensures.steps in
    (step.2, rw step.3 (placing_pass c.loop-line.invariant.1 step.0.is (rw step.1 at c.if-self-line-ne0.false)))

pub returns : goal.returns
returns c =
    let none = rw c.loop-line.invariant.0 at c.in-None.ensures.steps in
    placing_end c.loop-line.invariant.1 none
