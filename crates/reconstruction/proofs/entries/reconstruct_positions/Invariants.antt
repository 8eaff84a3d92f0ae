-- `reconstruct_positions` meets its contract. The invariant: the string is written at the positions before.
use Rattle.laws.specs.Receive.PositionWalk.{Reconstructed}
use Rattle.reconstruction.proofs.entries.reconstruct_positions.Given as goal

abbrev pub invariant-loop-position : goal.invariant-loop-position
invariant-loop-position l = Reconstructed l.string l.positions l.initial.text l.text l.position-index
