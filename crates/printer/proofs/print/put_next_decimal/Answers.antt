-- `put_next_decimal` meets its contract: a run of two writes.
use Rattle.std.proofs.Common.{◌≡◌, ℕ, refl, ◌++◌}
use Rattle.spec.specs.JobAnswer.{decimal, gap}
use Rattle.printer.proofs.Runs.{room_start, room_first, room_next, wrote_both}
use Rattle.printer.proofs.print.put_next_decimal.Goals as goal

two : (n : ℕ) → gap ++ decimal n ≡ gap ++ decimal n
two n = refl

pub put_bytes-end-requires : goal.put_bytes-end-requires
put_bytes-end-requires c =
    let run = room_start (two c.args.n) c.args.at c.args.out.now c.requires in
    room_first gap _ run

pub put_decimal-requires : goal.put_decimal-requires
put_decimal-requires c =
    let run = room_start (two c.args.n) c.args.at c.args.out.now c.requires in
    (room_next run c.put_bytes-end.ensures).room

pub returns : goal.returns
returns c =
    let run = room_start (two c.args.n) c.args.at c.args.out.now c.requires in
    wrote_both run c.put_bytes-end.ensures c.put_decimal.ensures
