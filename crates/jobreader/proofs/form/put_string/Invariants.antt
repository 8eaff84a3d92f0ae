-- `put_string` meets its contract. The invariant: the characters of what is left of the line are to be written from `end` on.
use Rattle.std.proofs.Common.{◌≡◌}
use Rattle.std.specs.Slice.Iter.{chunks_exact_rest, chunks_exact_size}
use Rattle.jobreader.proofs.Fives.{StringLeft}
use Rattle.jobreader.proofs.form.put_string.Given as goal

abbrev pub invariant-loop-five : goal.invariant-loop-five
invariant-loop-five l =
    (chunks_exact_size l.five-iterator ≡ 5)
    × StringLeft l.line l.initial.end l.initial.out (chunks_exact_rest l.five-iterator) l.end l.out
