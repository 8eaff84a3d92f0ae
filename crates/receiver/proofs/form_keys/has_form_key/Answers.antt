use Rattle.std.proofs.Common.{◌≡◌, ◌-◌}
use mathlib.Core.Path.{sym, ◌∙◌}
use native.Mathlib.Omega.{arith}
use Rattle.laws.specs.Receive.FormKeys.{without_end, form_found, without_step, word_stops, lower_stops}
use Rattle.receiver.proofs.form_keys.has_form_key.Goals as goal

pub returns-then-kind_at-eq0 : goal.returns-then-kind_at-eq0
returns-then-kind_at-eq0 c =
    word_stops c.args.index.now _ (omega arith) c.loop-line.invariant (omega arith) c.requires
    (sym c.kind_at.ensures.0 ∙ c.if-kind_at-eq0.true)

pub returns-then-value : goal.returns-then-value
returns-then-value c =
    lower_stops c.args.index.now (c.loop-line.line - 1) (omega arith) c.loop-line.invariant (omega arith) c.requires
    (omega arith)

pub returns-then-value-2 : goal.returns-then-value-2
returns-then-value-2 c =
    let one = c.requires.kind_small (c.loop-line.line - 1) (omega arith) in
    form_found c.args.index.now (c.loop-line.line - 1) (omega arith)
    (omega arith) (omega arith) (omega arith)

pub loop-line-preserved : goal.loop-line-preserved
loop-line-preserved c =
    without_step c.args.index.now _ (omega arith) c.loop-line.invariant (omega arith)
    (omega arith)

pub returns : goal.returns
returns c =
    let none : c.loop-line.line ≡ 0 = omega (arith, c.loop-line-test.false) in
    without_end (rw none at c.loop-line.invariant)
