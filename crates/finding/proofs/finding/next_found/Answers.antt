use Rattle.std.proofs.Common.{length, ◌<◌}
use native.Mathlib.Omega.{arith}
use Rattle.laws.specs.Window.Finding.{passing_below, passing_step, passing_end}
use Rattle.finding.proofs.finding.next_found.Goals as goal

pub offset_bounds-reach-i : goal.offset_bounds-reach-i
offset_bounds-reach-i c =
    let below : c.loop-i.i < length c.args.reach.now = passing_below c.args.len c.args.reach.now c.args.from c.loop-i.invariant in
    omega (arith, below)

pub bounds-reach-i : goal.bounds-reach-i
bounds-reach-i c =
    let below : c.loop-i.i < length c.args.reach.now = passing_below c.args.len c.args.reach.now c.args.from c.loop-i.invariant in
    below

pub overflow_add-i : goal.overflow_add-i
overflow_add-i c =
    let below : c.loop-i.i < length c.args.reach.now = passing_below c.args.len c.args.reach.now c.args.from c.loop-i.invariant in
    omega (arith, below)

pub loop-i-smaller : goal.loop-i-smaller
loop-i-smaller c =
    let below : c.loop-i.i < length c.args.reach.now = passing_below c.args.len c.args.reach.now c.args.from c.loop-i.invariant in
    omega (arith, below)

pub loop-i-preserved : goal.loop-i-preserved
loop-i-preserved c =
    let a = c.args in
    let l = c.loop-i in
    passing_step a.len a.reach.now a.from l.invariant c.loop-i-test.true

pub returns : goal.returns
returns c =
    let a = c.args in
    let l = c.loop-i in
    passing_end a.len a.reach.now a.from l.invariant c.loop-i-test.false
