-- `fill_at` meets its contract. The invariant: the number is written at the positions before.
use mathlib.Core.List.{[], ◌∷◌}
use Rattle.laws.specs.Receive.PositionWalk.{Reconstructed}
use Rattle.reconstruction.proofs.line_map.fill_at.Given as goal

abbrev pub invariant-loop-position : goal.invariant-loop-position
invariant-loop-position l = Reconstructed (l.value ∷ []) l.positions l.initial.slots l.slots l.position-index
