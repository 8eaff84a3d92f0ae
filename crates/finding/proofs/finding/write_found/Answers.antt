use native.Mathlib.Omega.{arith}
use Rattle.laws.specs.Window.Finding.{finding_more, finding_next, finding_end, finding_write}
use Rattle.finding.proofs.finding.write_found.Goals as goal

pub next_found-here-requires : goal.next_found-here-requires
next_found-here-requires c =
    let a = c.args in
    let l = c.loop-written in
    finding_more a.len a.first a.reach.now a.output.now l.invariant (omega arith)

pub loop-written-preserved : goal.loop-written-preserved
loop-written-preserved c =
    let a = c.args in
    let l = c.loop-written in
    let n = c.next_found-here in
    let next = finding_next a.len a.first a.reach.now a.output.now l.invariant n.ensures in
    finding_write a.len a.first a.reach.now a.output.now next n.ensures.within n.ensures.near
    (omega arith)

pub returns : goal.returns
returns c =
    let a = c.args in
    let l = c.loop-written in
    finding_end a.len a.first a.reach.now a.output.now l.invariant (omega arith)
