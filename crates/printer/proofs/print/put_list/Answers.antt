-- `put_list` meets its contract: a run of three writes.
use Rattle.spec.specs.JobAnswer.{opening_list, spaced}
use Rattle.laws.specs.JobSheet.Printing.{listed_parts}
use Rattle.printer.proofs.Runs.{room_start, room_first, room_next, wrote_both}
use Rattle.printer.proofs.print.put_list.Goals as goal

pub put_bytes-first-requires : goal.put_bytes-first-requires
put_bytes-first-requires c =
    let run = room_start (listed_parts c.args.positions.now) c.args.at c.args.out.now c.requires in
    room_first opening_list _ run

pub put_positions-last-requires : goal.put_positions-last-requires
put_positions-last-requires c =
    let run = room_start (listed_parts c.args.positions.now) c.args.at c.args.out.now c.requires in
    room_first (spaced c.args.positions.now) _ (room_next run c.put_bytes-first.ensures)

pub put_bytes-requires : goal.put_bytes-requires
put_bytes-requires c =
    let run = room_start (listed_parts c.args.positions.now) c.args.at c.args.out.now c.requires in
    (room_next (room_next run c.put_bytes-first.ensures) c.put_positions-last.ensures).room

pub returns : goal.returns
returns c =
    let run = room_start (listed_parts c.args.positions.now) c.args.at c.args.out.now c.requires in
    let opening = c.put_bytes-first.ensures in
    rw (listed_parts c.args.positions.now)
    (wrote_both run opening (wrote_both (room_next run opening) c.put_positions-last.ensures c.put_bytes.ensures))
