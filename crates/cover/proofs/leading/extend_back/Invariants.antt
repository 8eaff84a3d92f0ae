-- `extend_back` meets its contract. The invariant: the window is extended at the offsets from 0 down to above -`at`.
use Rattle.cover.specs.Windows.{SameStarts}
use Rattle.laws.specs.Window.Extending.{Backing}
use Rattle.cover.proofs.leading.extend_back.Given as goal

abbrev pub invariant-loop-at : goal.invariant-loop-at
invariant-loop-at l =
    record {
      way : Backing l.query.string.now l.key l.initial.window.first l.positions l.initial.window.reach.now l.window.reach.now
          l.window.highest l.at;
      same : SameStarts l.initial.window l.window;
    }
