use Rattle.std.proofs.Common.{length}
use mathlib.Core.Path.{refl, sym, ap, ◌∙◌}
use native.Mathlib.Omega.{arith}
use lib.ListN.{length-set}
use Rattle.laws.specs.Window.AgreeingWords.{refining_start, refining_push, refining_deep, refining_column, refining_step}
use Rattle.agreement.specs.Lines.{search_lines}
use Rattle.agreement.proofs.words.refine.Goals as goal

pub loop-low-init : goal.loop-low-init
loop-low-init c =
    let lines = search_lines c.args.directory.now c.requires.split c.requires.is_string in
    (refining_start lines c.requires.inside c.requires.room, refl, refl)

pub loop-low-preserved-then-word-depth : goal.loop-low-preserved-then-word-depth
loop-low-preserved-then-word-depth c =
    let l = c.loop-low in (
      refining_push l.invariant.0 (omega arith)
          (sym (ap length c.word.ensures) ∙ c.if-word-depth.true),
      l.invariant.1,
      length-set l.lines l.count l.low ∙ l.invariant.2,
    )

pub equal_range-range-requires : goal.equal_range-range-requires
equal_range-range-requires c =
    let l = c.loop-low in
    refining_column l.invariant.0 (omega arith)
    (λ e. c.if-word-depth.false (ap length c.word.ensures ∙ e))

pub loop-low-smaller : goal.loop-low-smaller
loop-low-smaller c =
    let l = c.loop-low in
    omega (
      arith,
      refining_deep l.invariant.0 (omega arith)
          (λ e. c.if-word-depth.false (ap length c.word.ensures ∙ e)),
    )

pub loop-low-preserved : goal.loop-low-preserved
loop-low-preserved c =
    let l = c.loop-low in (
      refining_step l.invariant.0 (omega arith)
          (λ e. c.if-word-depth.false (ap length c.word.ensures ∙ e)) (omega arith)
          c.equal_range-range.ensures.0 c.equal_range-range.ensures.1,
      l.invariant.1,
      l.invariant.2,
    )
