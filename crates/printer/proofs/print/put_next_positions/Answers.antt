use Rattle.std.proofs.Common.{◌++◌, ◌+◌, arith, get_or, drop}
use Rattle.spec.specs.JobAnswer.{decimal, gap}
use Rattle.models.specs.JobSheet.{each_spaced}
use Rattle.basics.specs.Placed.{writing_as, writing_room, writing_step, writing_end}
use Rattle.laws.specs.JobSheet.Printing.{each_next, each_end}
use Rattle.printer.proofs.print.put_next_positions.Goals as goal

pub put_next_decimal-end-requires : goal.put_next_decimal-end-requires
put_next_decimal-end-requires c =
    let ps = c.args.positions.now in
    let i = c.loop-position.position-index in
    writing_room (gap ++ decimal (get_or ps i 0)) (each_spaced (drop (i + 1) ps))
    (writing_as (each_next ps i c.loop-position-test.true) c.loop-position.invariant.1)

pub loop-position-preserved : goal.loop-position-preserved
loop-position-preserved c =
    let ps = c.args.positions.now in
    let i = c.loop-position.position-index in (
      omega arith,
      writing_step (gap ++ decimal (get_or ps i 0)) (each_spaced (drop (i + 1) ps))
          (writing_as (each_next ps i c.loop-position-test.true) c.loop-position.invariant.1) c.put_next_decimal-end.ensures,
    )

pub returns : goal.returns
returns c =
    writing_end (writing_as (each_end c.args.positions.now c.loop-position.position-index c.loop-position-test.false)
    c.loop-position.invariant.1)
