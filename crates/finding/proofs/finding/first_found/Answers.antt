-- `first_found` meets its contract: the start at the index found is the first that passes, and without one none passes.
use Rattle.std.proofs.Common.{ℕ, zero, suc, ◌≤◌, ◌<◌, List, length, add-one, arith, rules, tests}
use Rattle.std.specs.List.{AllWithin}
use Rattle.std.proofs.lemmas.Iterator.{IsFirst-from_position, YieldsList-from_slice}
use Rattle.laws.specs.First.Found.{NoneBefore, none_before_start, none_before_step, first_here, first_none}
use Rattle.finding.proofs.finding.first_found.Goals as goal

none_before : (m q : ℕ) (rs : List ℕ) (i : ℕ) → i ≤ length rs → AllWithin (λ r. r < m) rs 0 i → NoneBefore m q rs i
none_before m q rs zero within far = none_before_start m q rs
none_before m q rs (suc i) within far =
    let before = none_before m q rs i (omega arith) (λ k d from to. far k d from (omega arith)) in
    rw (← add-one i) (none_before_step m q rs before (omega arith) (far i 0 (omega arith) (omega arith)))

pub returns-in_err-i-clause-is : goal.returns-in_err-i-clause-is
returns-in_err-i-clause-is c =
    let a = c.args in
    let rs = a.reach.now in
    let found = IsFirst-from_position _ _ _ (λ r. a.len ≤ r) (λ r. r < a.len) c.position.ensures.ran (YieldsList-from_slice rs cc)
    (λ r q k. search (rules, tests)) (λ r q k. search (rules, tests)) in
    rw c.from_residual.ensures
    (first_none a.len a.first rs (none_before a.len a.first rs (length rs) (omega arith) (rw c.in_err-i.was at found)) (omega arith))

pub returns-clause-is : goal.returns-clause-is
returns-clause-is c =
    let a = c.args in
    let rs = a.reach.now in
    let found = IsFirst-from_position _ _ _ (λ r. a.len ≤ r) (λ r. r < a.len) c.position.ensures.ran (YieldsList-from_slice rs cc)
    (λ r q k. search (rules, tests)) (λ r q k. search (rules, tests)) in
    let here = rw c.in_ok-i.was at found in
    first_here a.len a.first rs (none_before a.len a.first rs c.in_ok-i.i (omega (arith, here.0)) here.2) here.0 (here.1 0)
