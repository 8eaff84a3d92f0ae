-- `put_refused_line` meets its contract: a run of three writes.
use Rattle.spec.specs.JobAnswer.{decimal, refused_head}
use Rattle.laws.specs.JobSheet.Printing.{refused_line_parts}
use Rattle.printer.proofs.Runs.{room_start, room_first, room_next, wrote_both}
use Rattle.printer.proofs.print.put_refused_line.Goals as goal

pub put_bytes-number-requires : goal.put_bytes-number-requires
put_bytes-number-requires c =
    let run = room_start (refused_line_parts c.args.refusal) c.args.at c.args.out.now c.requires in
    room_first refused_head _ run

pub put_decimal-last-requires : goal.put_decimal-last-requires
put_decimal-last-requires c =
    let run = room_start (refused_line_parts c.args.refusal) c.args.at c.args.out.now c.requires in
    room_first (decimal c.args.refusal) _ (room_next run c.put_bytes-number.ensures)

pub put_bytes-requires : goal.put_bytes-requires
put_bytes-requires c =
    let run = room_start (refused_line_parts c.args.refusal) c.args.at c.args.out.now c.requires in
    (room_next (room_next run c.put_bytes-number.ensures) c.put_decimal-last.ensures).room

pub returns : goal.returns
returns c =
    let run = room_start (refused_line_parts c.args.refusal) c.args.at c.args.out.now c.requires in
    let head = c.put_bytes-number.ensures in
    rw (refused_line_parts c.args.refusal)
    (wrote_both run head (wrote_both (room_next run head) c.put_decimal-last.ensures c.put_bytes.ensures))
