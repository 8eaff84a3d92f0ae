-- `stands_at_each` meets its contract. The invariant: the pairs that are left are those of the last positions, the string stands at the
-- positions up to the first of them, and `period` is a period of it.
use Rattle.std.proofs.Common.{length, drop, ◌≡◌, ◌≤◌, ◌+◌, ◌-◌}
use Rattle.std.specs.Slice.Iter.{windows_rest, windows_size}
use Rattle.laws.specs.Receive.EntriesMatch.{Period, StandFirst}
use Rattle.reconstruction.proofs.matches.stands_at_each.Given as goal

abbrev pub invariant-loop-pair : goal.invariant-loop-pair
invariant-loop-pair l = record {
  pairs : windows_size l.pair-iterator ≡ 2;
  some : 1 ≤ length (windows_rest l.pair-iterator);
  within : length (windows_rest l.pair-iterator) ≤ length l.positions;
  left : windows_rest l.pair-iterator ≡ drop (length l.positions - length (windows_rest l.pair-iterator)) l.positions;
  period : Period l.string l.period;
  first : StandFirst l.string l.text l.positions (length l.positions - length (windows_rest l.pair-iterator) + 1);
}
