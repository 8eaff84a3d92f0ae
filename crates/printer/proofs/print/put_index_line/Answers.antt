-- `put_index_line` meets its contract: a run of five writes.
use Rattle.std.proofs.Common.{◌++◌}
use Rattle.spec.specs.JobAnswer.{decimal, gap, index_head}
use Rattle.laws.specs.JobSheet.Printing.{index_line_parts}
use Rattle.printer.proofs.Runs.{room_start, room_first, room_next, wrote_both}
use Rattle.printer.proofs.print.put_index_line.Goals as goal

pub put_bytes-number-requires : goal.put_bytes-number-requires
put_bytes-number-requires c =
    let run = room_start (index_line_parts c.args.n c.args.k c.args.m) c.args.at c.args.out.now c.requires in
    room_first index_head _ run

pub put_decimal-second-requires : goal.put_decimal-second-requires
put_decimal-second-requires c =
    let run = room_start (index_line_parts c.args.n c.args.k c.args.m) c.args.at c.args.out.now c.requires in
    room_first (decimal c.args.n) _ (room_next run c.put_bytes-number.ensures)

pub put_next_decimal-third-requires : goal.put_next_decimal-third-requires
put_next_decimal-third-requires c =
    let run = room_start (index_line_parts c.args.n c.args.k c.args.m) c.args.at c.args.out.now c.requires in
    let head = room_next run c.put_bytes-number.ensures in
    room_first (gap ++ decimal c.args.k) _ (room_next head c.put_decimal-second.ensures)

pub put_next_decimal-last-requires : goal.put_next_decimal-last-requires
put_next_decimal-last-requires c =
    let run = room_start (index_line_parts c.args.n c.args.k c.args.m) c.args.at c.args.out.now c.requires in
    let head = room_next run c.put_bytes-number.ensures in
    let second = room_next head c.put_decimal-second.ensures in
    room_first (gap ++ decimal c.args.m) _ (room_next second c.put_next_decimal-third.ensures)

pub put_bytes-requires : goal.put_bytes-requires
put_bytes-requires c =
    let run = room_start (index_line_parts c.args.n c.args.k c.args.m) c.args.at c.args.out.now c.requires in
    let head = room_next run c.put_bytes-number.ensures in
    let second = room_next head c.put_decimal-second.ensures in
    let third = room_next second c.put_next_decimal-third.ensures in
    (room_next third c.put_next_decimal-last.ensures).room

pub returns : goal.returns
returns c =
    let run = room_start (index_line_parts c.args.n c.args.k c.args.m) c.args.at c.args.out.now c.requires in
    let head = room_next run c.put_bytes-number.ensures in
    let second = room_next head c.put_decimal-second.ensures in
    let third = room_next second c.put_next_decimal-third.ensures in
    rw (index_line_parts c.args.n c.args.k c.args.m)
    (wrote_both run c.put_bytes-number.ensures (wrote_both head c.put_decimal-second.ensures
    (wrote_both second c.put_next_decimal-third.ensures (wrote_both third c.put_next_decimal-last.ensures c.put_bytes.ensures))))
