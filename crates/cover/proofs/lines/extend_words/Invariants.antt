-- `extend_words` meets its contract: the listed lines, then the range. The invariants: the window is extended by the first listed lines,
-- and then by the lines of the range before `line`.
use Rattle.cover.specs.Queries.{line_step}
use Rattle.cover.specs.Windows.{SameStarts}
use Rattle.laws.specs.Window.LeadingLines.{Listed}
use Rattle.laws.specs.Window.LineSteps.{Left}
use Rattle.cover.proofs.lines.extend_words.Given as goal

abbrev pub invariant-loop-listed : goal.invariant-loop-listed
invariant-loop-listed l =
    record {
      way : Listed (line_step l.query l.key_start l.initial.window.first) l.listed-items l.initial.window.reach.now
          l.window.reach.now l.window.highest l.listed-index;
      same : SameStarts l.initial.window l.window;
    }

abbrev pub invariant-loop-line : goal.invariant-loop-line
invariant-loop-line l =
    record {
      way : Left (line_step l.query l.key_start l.fn.window.first) l.initial.line l.line-end
          l.initial.window.reach.now l.window.reach.now l.window.highest l.line l.line-end;
      same : SameStarts l.fn.window l.window;
    }
