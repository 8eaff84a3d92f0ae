-- `write_found` meets its contract. The invariant: the starts found before the ith are written.
use Rattle.laws.specs.Window.Finding.{Finding}
use Rattle.finding.proofs.finding.write_found.Given as goal

abbrev pub invariant-loop-written : goal.invariant-loop-written
invariant-loop-written l = Finding l.len l.first l.reach l.initial.output l.output l.written l.i
