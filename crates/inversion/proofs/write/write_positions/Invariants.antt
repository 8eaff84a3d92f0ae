-- `write_positions` meets its contract. The invariant: the positions of the codes that the iterator gave are written.
use Rattle.std.proofs.Common.{◌≡◌}
use Rattle.spec.specs.Numbers.{all_positions}
use Rattle.inversion.proofs.CodeWalk.{Listed}
use Rattle.inversion.proofs.write.write_positions.Given as goal

abbrev pub invariant-loop-code : goal.invariant-loop-code
invariant-loop-code l =
    (l.code-iterator.heads.now ≡ l.heads) × Listed all_positions l.heads l.links 0 l.initial.part l.part l.code-iterator.from l.here
