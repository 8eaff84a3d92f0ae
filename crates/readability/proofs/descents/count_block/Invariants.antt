-- `count_block` meets its contract. The invariant: `count` is the number of descents to the first i numbers after the first, at most i, and
-- what is left of the run starts with number i.
use Rattle.std.proofs.Common.{◌≡◌, ◌≤◌, ◌-◌, length, drop}
use Rattle.std.specs.Slice.Iter.{windows_size, windows_rest}
use Rattle.laws.specs.Readable.Descents.{Counted}
use Rattle.readability.proofs.descents.count_block.Given as goal

abbrev pub invariant-loop-pair : goal.invariant-loop-pair
invariant-loop-pair g l =
    let rest = windows_rest l.pair-iterator in
    let i = length l.run - length rest in
    record {
      pairs : windows_size l.pair-iterator ≡ 2;
      within : length rest ≤ length l.run;
      left : rest ≡ drop i l.run;
      counted : Counted g.F.ListForm.as_gaps l.run l.count i;
    }
