-- `write_directory` meets its contract. The invariant: the lines of the codes that the iterator gave are written.
use Rattle.std.proofs.Common.{◌≡◌, ◌+◌, ◌*◌}
use Rattle.spec.specs.Index.{header}
use Rattle.spec.specs.Numbers.{directory}
use Rattle.inversion.proofs.CodeWalk.{Listed}
use Rattle.inversion.proofs.write.write_directory.Given as goal

abbrev pub invariant-loop-code : goal.invariant-loop-code
invariant-loop-code l =
    (l.code-iterator.heads.now ≡ l.heads)
    × Listed directory l.heads l.links header l.initial.output l.output l.code-iterator.from (header + 3 * l.line)
