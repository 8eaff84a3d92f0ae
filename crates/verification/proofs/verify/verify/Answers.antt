use mathlib.Core.Path.{sym, ◌∙◌}
use native.Mathlib.Omega.{arith}
use Rattle.laws.specs.Receive.Verify.{testing_starts, testing_passes, testing_registers, testing_fails, testing_ends, map_small}
use Rattle.scanning.specs.Steps.{scannable}
use Rattle.verification.proofs.verify.verify.Goals.{then-next-ne0+else-not-line_has_key, else-next-ne0}
use Rattle.verification.proofs.verify.verify.Goals as goal

pub loop-at-init : goal.loop-at-init
loop-at-init c = testing_starts

pub line_has_key-requires : goal.line_has_key-requires
line_has_key-requires c = (
  c.requires.0,
  rw c.number_at.ensures.0 (map_small c.args.index.now c.args.line_map.now c.requires.1 c.loop-at.at),
  omega arith,
)

pub returns-then-not-line_has_key : goal.returns-then-not-line_has_key
returns-then-not-line_has_key c =
    let here = scannable c.args.table.now c.requires.2 c.loop-at-test.true in
    testing_fails here c.loop-at.invariant c.step-next.result.end c.step-next.ensures.stepped
    c.if-next-ne0.true
    (rw (← c.number_at.ensures.0)
    (sym c.line_has_key.ensures ∙ c.if-not-line_has_key.true))

pub loop-at-preserved : goal.loop-at-preserved
loop-at-preserved c =
    let here = scannable c.args.table.now c.requires.2 c.loop-at-test.true in
    elim c.if-next-ne0.branch [
      | then-next-ne0+else-not-line_has_key w ↦ rw w.count-is
          (testing_registers here c.loop-at.invariant c.step-next.result.end c.step-next.ensures.stepped w.if-next-ne0.true
          (rw (← w.number_at.ensures.0)
          (sym w.line_has_key.ensures ∙ w.if-not-line_has_key.false)))
      | else-next-ne0 w ↦ rw w.count-is
          (testing_passes here c.loop-at.invariant c.step-next.result.end c.step-next.ensures.stepped w.if-next-ne0.false)
    ]

pub returns : goal.returns
returns c =
    rw (c.line_start.ensures, c.key_count.ensures.0)
    (testing_ends c.loop-at.invariant c.loop-at-test.false c.requires.0)
