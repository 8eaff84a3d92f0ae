-- `put_key_line` meets its contract: a run of two writes.
use Rattle.spec.specs.JobAnswer.{key_name}
use Rattle.laws.specs.JobSheet.Printing.{key_line_parts}
use Rattle.layout.specs.Keys.{key_of}
use Rattle.printer.proofs.Runs.{room_start, room_first, room_next, wrote_both}
use Rattle.printer.proofs.print.put_key_line.Goals as goal

pub put_key_name-positions-requires : goal.put_key_name-positions-requires
put_key_name-positions-requires c =
    let list = c.args.list.now in
    let run = room_start (key_line_parts (key_of list.key) list.positions.now) c.args.at c.args.out.now c.requires in
    room_first (key_name (key_of list.key)) _ run

pub put_list-requires : goal.put_list-requires
put_list-requires c =
    let list = c.args.list.now in
    let run = room_start (key_line_parts (key_of list.key) list.positions.now) c.args.at c.args.out.now c.requires in
    (room_next run c.put_key_name-positions.ensures).room

pub returns : goal.returns
returns c =
    let list = c.args.list.now in
    let run = room_start (key_line_parts (key_of list.key) list.positions.now) c.args.at c.args.out.now c.requires in
    rw (key_line_parts (key_of list.key) list.positions.now)
    (wrote_both run c.put_key_name-positions.ensures c.put_list.ensures)
