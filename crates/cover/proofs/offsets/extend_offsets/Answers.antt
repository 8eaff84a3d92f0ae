use Rattle.cover.specs.Windows.{same_on}
use Rattle.laws.specs.Window.Extending.{offsets_step, offsets_end, offsets_early}
use Rattle.cover.proofs.offsets.extend_offsets.Goals as goal

pub returns-then-window-key_start-clause-extended : goal.returns-then-window-key_start-clause-extended
returns-then-window-key_start-clause-extended c = offsets_early c.loop-key_start.invariant.way c.if-window-key_start.true

pub loop-key_start-preserved : goal.loop-key_start-preserved
loop-key_start-preserved c =
    let l = c.loop-key_start in
    let done = c.extend_offset.ensures in
    record {
      way = offsets_step l.invariant.way c.loop-key_start-test.true done.same.2 (rw l.invariant.same.0 at done.extended);
      same = same_on c.args.window.now l.window c.extend_offset.new.window l.invariant.same done.same;
    }

pub returns-clause-extended : goal.returns-clause-extended
returns-clause-extended c = offsets_end c.loop-key_start.invariant.way c.loop-key_start-test.false
