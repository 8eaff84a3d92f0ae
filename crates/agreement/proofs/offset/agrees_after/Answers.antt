-- `agrees_after` meets its contract: nothing is shared, or the shared characters are compared.
use Rattle.std.proofs.Common.{tests, rules}
use native.Mathlib.Omega.{arith}
use Rattle.laws.specs.Search.AgreeWalk.{apart_short, apart_empty, agrees_compared}
use Rattle.agreement.proofs.offset.agrees_after.Goals as goal

pub returns-then-first-at : goal.returns-then-first-at
returns-then-first-at c =
    let a = c.args in
    apart_short a.first.now a.second.now a.at c.if-first-at.true

pub returns-then-is_empty : goal.returns-then-is_empty
returns-then-is_empty c =
    let a = c.args in
    apart_empty a.first.now a.second.now a.at (search (tests, rules))

pub returns : goal.returns
returns c =
    let a = c.args in
    agrees_compared a.first.now a.second.now a.at (omega arith)
    (search (tests, rules)) (omega (arith, c.min-shared.ensures)) c.same_run.ensures
