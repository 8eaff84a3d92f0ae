use mathlib.Core.Path.{sym, ◌∙◌}
use Rattle.laws.specs.Window.LeadingLines.{leading_start, leading_passed, leading_room, leading_listed, leading_filled}
use Rattle.agreement.proofs.leading.fill_leading.Goals as goal
use Rattle.agreement.proofs.leading.fill_leading.Goals.{then-line_leads, else-line_leads}

pub loop-line-init : goal.loop-line-init
loop-line-init c = leading_start c.requires.2

pub bounds-lines-count : goal.bounds-lines-count
bounds-lines-count c =
    leading_room c.loop-line.invariant c.loop-line-test.true (sym c.if-line_leads.true ∙ c.line_leads.ensures)

pub loop-line-preserved : goal.loop-line-preserved
loop-line-preserved c =
    elim c.if-line_leads.branch [
      | then-line_leads w ↦ rw (w.lines-is, w.count-is)
          (leading_listed c.loop-line.invariant c.loop-line-test.true (sym w.if-line_leads.true ∙ c.line_leads.ensures))
      | else-line_leads w ↦ rw (w.lines-is, w.count-is)
          (leading_passed c.loop-line.invariant c.loop-line-test.true (sym w.if-line_leads.false ∙ c.line_leads.ensures))
    ]

pub returns : goal.returns
returns c =
    leading_filled c.loop-line.invariant c.loop-line-test.false
