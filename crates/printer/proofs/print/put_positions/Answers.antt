-- `put_positions` meets its contract: nothing, or the first position and then the others.
use Rattle.std.proofs.Common.{◌≡◌, List, ◌∷◌, ◌++◌, ℕ, ap, ◌∙◌}
use Rattle.basics.specs.Placed.{writing_start, writing_as, writing_end}
use Rattle.spec.specs.JobAnswer.{decimal, spaced}
use Rattle.models.specs.JobSheet.{each_spaced}
use Rattle.laws.specs.JobSheet.Printing.{spaced_none, spaced_first}
use Rattle.printer.proofs.Runs.{room_start, room_first, room_next, wrote_both}
use Rattle.printer.proofs.print.put_positions.Goals as goal

parts : {ps : List ℕ} {p : ℕ} {others : List ℕ} → ps ≡ p ∷ others → spaced ps ≡ decimal p ++ each_spaced others
parts {p = p} {others} e = ap spaced e ∙ spaced_first p others

pub returns-in_default : goal.returns-in_default
returns-in_default c =
    writing_end
    (writing_as (spaced_none c.args.positions.now c.in_default.ensures.cases)
    (writing_start (spaced c.args.positions.now) c.args.at c.args.out.now c.requires))

pub put_decimal-end-requires : goal.put_decimal-end-requires
put_decimal-end-requires c =
    let run = room_start (parts c.in-Some.ensures.cases.0) c.args.at c.args.out.now c.requires in
    room_first (decimal c.in-Some.first.now) _ run

pub put_next_positions-requires : goal.put_next_positions-requires
put_next_positions-requires c =
    let run = room_start (parts c.in-Some.ensures.cases.0) c.args.at c.args.out.now c.requires in
    (room_next run c.put_decimal-end.ensures).room

pub returns : goal.returns
returns c =
    let run = room_start (parts c.in-Some.ensures.cases.0) c.args.at c.args.out.now c.requires in
    rw (parts c.in-Some.ensures.cases.0) (wrote_both run c.put_decimal-end.ensures c.put_next_positions.ensures)
