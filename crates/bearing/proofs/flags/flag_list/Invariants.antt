-- `flag_list` meets its contract. The invariant: the listed lines before `line` are flagged.
use Rattle.laws.specs.Cut.Flagging.{OnesAt}
use lib.ListN.{take}
use Rattle.bearing.proofs.flags.flag_list.Given as goal

abbrev pub invariant-loop-line : goal.invariant-loop-line
invariant-loop-line l = OnesAt (take l.line-index l.lines) l.initial.flags l.flags
