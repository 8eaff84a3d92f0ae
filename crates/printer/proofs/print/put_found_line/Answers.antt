-- `put_found_line` meets its contract: a run of three writes.
use Rattle.std.proofs.Common.{length}
use Rattle.spec.specs.JobAnswer.{decimal, found_head}
use Rattle.laws.specs.JobSheet.Printing.{found_line_parts}
use Rattle.printer.proofs.Runs.{room_start, room_first, room_next, wrote_both}
use Rattle.printer.proofs.print.put_found_line.Goals as goal

pub put_bytes-number-requires : goal.put_bytes-number-requires
put_bytes-number-requires c =
    let run = room_start (found_line_parts c.args.positions.now) c.args.at c.args.out.now c.requires in
    room_first found_head _ run

pub put_decimal-list-requires : goal.put_decimal-list-requires
put_decimal-list-requires c =
    let run = room_start (found_line_parts c.args.positions.now) c.args.at c.args.out.now c.requires in
    room_first (decimal (length c.args.positions.now)) _ (room_next run c.put_bytes-number.ensures)

pub put_list-requires : goal.put_list-requires
put_list-requires c =
    let run = room_start (found_line_parts c.args.positions.now) c.args.at c.args.out.now c.requires in
    (room_next (room_next run c.put_bytes-number.ensures) c.put_decimal-list.ensures).room

pub returns : goal.returns
returns c =
    let run = room_start (found_line_parts c.args.positions.now) c.args.at c.args.out.now c.requires in
    let head = c.put_bytes-number.ensures in
    rw (found_line_parts c.args.positions.now)
    (wrote_both run head (wrote_both (room_next run head) c.put_decimal-list.ensures c.put_list.ensures))
