-- `stands_again` meets its contract: one period after a position where the string stands, only its last characters
-- are compared.
use Rattle.std.proofs.Common.{◌≡◌, ◌-◌, length, ℕ}
use Rattle.laws.specs.Text.Strings.{Stand}
use mathlib.Core.Path.{subst}
use native.Mathlib.Omega.{arith}
use Rattle.basics.specs.Bools.{reflects_same}
use Rattle.laws.specs.Receive.EntriesMatch.{stand_all, stand_part, stand_again}
use Rattle.reconstruction.proofs.matches.stands_again.Goals as goal

pub returns-then-step-period : goal.returns-then-step-period
returns-then-step-period c =
    let a = c.args in
    let apart : a.step ≡ a.period = c.if-step-period.true in
    reflects_same c.equal_from.result
    (stand_again a.position (omega arith) c.requires.3 c.requires.0 (omega arith)
    (subst (λ (d : ℕ). Stand a.string.now a.text.now (a.position - d)) apart c.requires.2))
    (λ st. stand_part st (length a.string.now - a.period)) c.equal_from.ensures

pub returns-else-step-period : goal.returns-else-step-period
returns-else-step-period c =
    let a = c.args in
    reflects_same c.equal_from-else-step-period.result (stand_all a.string.now a.text.now a.position (omega arith) c.requires.3)
    (λ st. stand_part st 0) c.equal_from-else-step-period.ensures
