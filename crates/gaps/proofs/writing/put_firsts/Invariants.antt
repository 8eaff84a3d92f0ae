-- `put_firsts` meets its contract. The invariant: the lists before line i are as due, and those from it on are still written as one.
use Rattle.std.proofs.Common.{◌+◌, ◌*◌, drop}
use Rattle.spec.specs.Index.{header, keys_of}
use Rattle.models.specs.Gaps.{pair_as, first_as}
use Rattle.laws.specs.Gaps.GapWriting.{Firsts}
use Rattle.gaps.proofs.writing.put_firsts.Given as goal

abbrev pub invariant-loop-i : goal.invariant-loop-i
invariant-loop-i g l =
    let b = g.F.ListForm.as_gaps in
    Firsts (first_as b) (pair_as b) l.index (drop (header + 3 * keys_of l.index) l.index) l.part l.i l.at
