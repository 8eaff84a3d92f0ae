-- `put_next_positions` meets its contract. The invariant: the rest of the positions is to be written from `end` on.
use Rattle.std.proofs.Common.{length, ◌≤◌, drop}
use Rattle.models.specs.JobSheet.{each_spaced}
use Rattle.basics.specs.Placed.{Writing}
use Rattle.printer.proofs.print.put_next_positions.Given as goal

abbrev pub invariant-loop-position : goal.invariant-loop-position
invariant-loop-position l = (l.position-index ≤ length l.positions) ×
    Writing (each_spaced l.positions) l.initial.end l.initial.out (each_spaced (drop l.position-index l.positions)) l.end l.out
