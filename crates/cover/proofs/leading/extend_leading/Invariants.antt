-- `extend_leading` meets its contract: the leading lines, then the lone character at the offset 0. The invariant: the window is extended
-- by the leading lines before `line`.
use Rattle.cover.specs.Queries.{leading_step}
use Rattle.cover.specs.Windows.{SameStarts}
use Rattle.laws.specs.Window.LeadingLines.{Listed}
use Rattle.cover.proofs.leading.extend_leading.Given as goal

abbrev pub invariant-loop-line : goal.invariant-loop-line
invariant-loop-line l =
    record {
      way : Listed (leading_step l.query l.initial.window.first) l.query.leading.now l.initial.window.reach.now
          l.window.reach.now l.window.highest l.line-index;
      same : SameStarts l.initial.window l.window;
    }
