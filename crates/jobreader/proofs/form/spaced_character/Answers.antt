-- `spaced_character` meets its contract: the first byte that is not as due ends the reading.
use Rattle.std.proofs.Common.{refl, arith}
use Rattle.laws.specs.JobSheet.Digits.{no_space, no_first, no_second, no_third, no_fourth, character_read}
use Rattle.jobreader.proofs.form.spaced_character.Goals as goal

pub returns-then-five-ne32-clause-value : goal.returns-then-five-ne32-clause-value
returns-then-five-ne32-clause-value c = no_space c.args.five.now 0 c.if-five-ne32.true

pub returns-in_err-value_of-clause-value : goal.returns-in_err-value_of-clause-value
returns-in_err-value_of-clause-value c =
    rw c.from_residual.ensures (no_first c.args.five.now 0 c.in_err-value_of.ensures.value refl)

pub returns-in_err-value_of-2-clause-value : goal.returns-in_err-value_of-2-clause-value
returns-in_err-value_of-2-clause-value c =
    rw c.from_residual-in_err-value_of-2.ensures (no_second c.args.five.now 0 c.in_err-value_of-2.ensures.value refl)

pub returns-in_err-value_of-3-clause-value : goal.returns-in_err-value_of-3-clause-value
returns-in_err-value_of-3-clause-value c =
    rw c.from_residual-in_err-value_of-3.ensures (no_third c.args.five.now 0 c.in_err-value_of-3.ensures.value refl)

pub returns-in_err-value_of-4-clause-value : goal.returns-in_err-value_of-4-clause-value
returns-in_err-value_of-4-clause-value c =
    rw c.from_residual-in_err-value_of-4.ensures (no_fourth c.args.five.now 0 c.in_err-value_of-4.ensures.value refl)

pub returns-clause-value : goal.returns-clause-value
returns-clause-value c =
    let a = c.in_ok-value_of.ensures in
    let b = c.in_ok-value_of-2.ensures in
    let c' = c.in_ok-value_of-3.ensures in
    let d = c.in_ok-value_of-4.ensures in
    rw (c.from-a.ensures, c.from-b.ensures, c.from-c.ensures, c.from-d.ensures)
    (character_read c.args.five.now 0 c.if-five-ne32.false
    (record { answered = (a.value, omega arith); some = λ e. absurd (omega arith) })
    (record { answered = (b.value, omega arith); some = λ e. absurd (omega arith) })
    (record { answered = (c'.value, omega arith); some = λ e. absurd (omega arith) })
    (record { answered = (d.value, omega arith); some = λ e. absurd (omega arith) }))
