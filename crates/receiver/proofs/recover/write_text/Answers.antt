-- `write_text` meets its contract: a refusal of reception is that of recovery, whose other refusal is that of an output too short.
use Rattle.std.proofs.Common.{List, ℕ, ◌≤◌, ◌<◌, length, ap, sym, ◌∙◌, length-take-le}
use Rattle.basics.specs.Writing.{over}
use Rattle.spec.specs.Index.{n_of}
use Rattle.spec.specs.Dictionary.{longest_text}
use Rattle.spec.specs.declared.Refusal.TheVariants.{OutputShort}
use Rattle.dictionary.specs.Passing.{passed_on}
use Rattle.laws.specs.Dictionary.Refused.{refused_number, puts_error}
use Rattle.laws.specs.Build.Building.{output_fits, output_refused, puts_accepted}
use Rattle.laws.specs.Receive.Receiving.{recovery_early, recovery_late}
use Rattle.receiver.proofs.recover.write_text.Goals as goal

pub returns-in_err-n : goal.returns-in_err-n
returns-in_err-n c =
    let a = c.args in
    let found = c.in_err-n.ensures.number in
    rw (passed_on _ _ c.from_residual.ensures.1)
    (puts_error _ _ a.output.now
    (found
    ∙ sym
    (recovery_early longest_text a.chars.now a.lengths.now a.index.now (length a.work.now) (length a.output.now)
    (refused_number _ found))))

pub returns-then-output-n : goal.returns-then-output-n
returns-then-output-n c =
    let a = c.args in
    let received = c.in_ok-n.ensures in
    let short : length a.output.now < n_of a.index.now = rw received.text.0 at c.if-output-n.true in
    puts_error _ OutputShort a.output.now
    (sym
    (recovery_late longest_text a.chars.now a.lengths.now a.index.now (length a.work.now) (length a.output.now)
    (sym received.number)
    ∙ output_refused (n_of a.index.now) (length a.output.now) short))

pub returns : goal.returns
returns c =
    let a = c.args in
    let received = c.in_ok-n.ensures in
    let text = received.text.3 in
    let room : n_of a.index.now ≤ length a.output.now = rw received.text.0 at c.if-output-n.false in
    let none =
    recovery_late longest_text a.chars.now a.lengths.now a.index.now (length a.work.now) (length a.output.now)
    (sym received.number)
    ∙ output_fits (n_of a.index.now) (length a.output.now) room in
    puts_accepted _ _ (record { refusal = 0; count = c.in_ok-n.n }) a.output.now (sym none) none
    (sym (length-take-le c.in_ok-n.n c.receive_text.new.work received.text.1) ∙ ap length text)
    (c.write_chars.ensures ∙ ap (λ (xs : List ℕ). over xs a.output.now) text)
