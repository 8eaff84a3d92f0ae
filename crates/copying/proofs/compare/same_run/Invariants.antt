-- `same_run` meets its contract. The invariant: the characters from i on are equal.
use Rattle.std.proofs.Common.{◌+◌, ◌≤◌, ◌≡◌, ℕ, ◌<◌}
use lib.ListN.{get_or}
use Rattle.copying.proofs.compare.same_run.Given as goal

abbrev pub invariant-loop-i : goal.invariant-loop-i
invariant-loop-i l = (l.i ≤ l.count) × ((j : ℕ) → j < l.count → l.i ≤ j → get_or l.chars (l.at + j) 0 ≡ get_or l.numbers (l.from + j) 0)
