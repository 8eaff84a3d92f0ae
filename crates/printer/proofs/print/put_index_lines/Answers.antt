-- `put_index_lines` meets its contract: the line of the three numbers, then those of the keys.
use Rattle.std.proofs.Common.{◌-◌, length, arith}
use Rattle.spec.specs.JobAnswer.{index_line}
use Rattle.laws.specs.JobSheet.IndexPrinting.{index_lines_parts}
use Rattle.printer.proofs.Runs.{room_start, room_first, room_next, wrote_both}
use Rattle.printer.proofs.print.put_index_lines.Goals as goal

pub put_index_line-end-requires : goal.put_index_line-end-requires
put_index_line-end-requires c =
    let parts =
    index_lines_parts {n = c.text_len.result} {k = c.key_count-keys.result} {m = length c.args.numbers.now - c.line_start.result}
    c.requires.0 (omega arith) (omega arith) (omega arith) in
    let run = room_start parts c.args.at c.args.out.now c.requires.1 in
    room_first (index_line _ _ _) _ run

pub put_key_lines-requires : goal.put_key_lines-requires
put_key_lines-requires c =
    let parts =
    index_lines_parts {n = c.text_len.result} {k = c.key_count-keys.result} {m = length c.args.numbers.now - c.line_start.result}
    c.requires.0 (omega arith) (omega arith) (omega arith) in
    let run = room_start parts c.args.at c.args.out.now c.requires.1 in
    (c.requires.0, (room_next run c.put_index_line-end.ensures).room)

pub returns : goal.returns
returns c =
    let parts =
    index_lines_parts {n = c.text_len.result} {k = c.key_count-keys.result} {m = length c.args.numbers.now - c.line_start.result}
    c.requires.0 (omega arith) (omega arith) (omega arith) in
    let run = room_start parts c.args.at c.args.out.now c.requires.1 in
    rw parts (wrote_both run c.put_index_line-end.ensures c.put_key_lines.ensures)
