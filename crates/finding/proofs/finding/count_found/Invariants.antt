-- `count_found` meets its contract. The invariant: `total` of the starts so far are found.
use Rattle.laws.specs.Window.Finding.{Counting}
use Rattle.finding.proofs.finding.count_found.Given as goal

abbrev pub invariant-loop-reached : goal.invariant-loop-reached
invariant-loop-reached l = Counting l.len l.reach l.total l.reached-index
