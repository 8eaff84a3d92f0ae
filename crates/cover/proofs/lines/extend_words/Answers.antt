use Rattle.basics.specs.Member.{in_getD}
use Rattle.cover.specs.Windows.{same_on}
use Rattle.laws.specs.Window.LeadingLines.{listed_step, listed_end}
use Rattle.laws.specs.Window.LineSteps.{left_start, left_step, left_end}
use Rattle.laws.specs.Window.AgreeingLines.{listed_agrees}
use Rattle.laws.specs.Window.AgreeingRun.{agreeing_reaches}
use Rattle.cover.proofs.lines.extend_words.Goals as goal

pub extend_line-requires-clause-below : goal.extend_line-requires-clause-below
extend_line-requires-clause-below c =
    (listed_agrees c.agreeing_words-agreeing.ensures.listed _ (in_getD _ c.loop-listed.listed-index 0 c.loop-listed-test.true)).0

pub extend_line-requires-clause-agrees : goal.extend_line-requires-clause-agrees
extend_line-requires-clause-agrees c =
    (listed_agrees c.agreeing_words-agreeing.ensures.listed _ (in_getD _ c.loop-listed.listed-index 0 c.loop-listed-test.true)).1

pub loop-listed-preserved : goal.loop-listed-preserved
loop-listed-preserved c =
    let l = c.loop-listed in
    let done = c.extend_line.ensures in
    record {
      way = listed_step l.invariant.way c.loop-listed-test.true done.same.2 (rw l.invariant.same.0 at done.extended);
      same = same_on c.args.window.now l.window c.extend_line.new.window l.invariant.same done.same;
    }

pub loop-line-init : goal.loop-line-init
loop-line-init c =
    let l = c.loop-listed in
    record { way = left_start (listed_end l.invariant.way c.loop-listed-test.false).bounded; same = l.invariant.same }

pub loop-line-preserved : goal.loop-line-preserved
loop-line-preserved c =
    let l = c.loop-line in
    let done = c.extend_line-in-loop-line.ensures in
    record {
      way = left_step l.invariant.way c.loop-line-test.true done.same.2 (rw l.invariant.same.0 at done.extended);
      same = same_on c.args.window.now l.window c.extend_line-in-loop-line.new.window l.invariant.same done.same;
    }

pub returns-clause-extended : goal.returns-clause-extended
returns-clause-extended c =
    let a = c.args in
    agreeing_reaches c.agreeing_words-agreeing.ensures.listed a.window.now.first a.window.now.reach.now
    (listed_end c.loop-listed.invariant.way c.loop-listed-test.false) (left_end c.loop-line.invariant.way c.loop-line-test.false)
