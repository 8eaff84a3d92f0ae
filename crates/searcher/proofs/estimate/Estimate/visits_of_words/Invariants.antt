-- `visits_of_words` meets its contract. The invariants: the lines passed before the last cost no more than the limit, and each
-- costs at most 32 times 2³².
use Rattle.std.proofs.Common.{◌+◌, ◌*◌, ◌^◌, ◌≤◌}
use Rattle.searcher.proofs.estimate.Estimate.visits_of_words.Given as goal

abbrev pub invariant-loop-listed : goal.invariant-loop-listed
invariant-loop-listed l = l.sum ≤ l.limit + 32 * 2 ^ 32

abbrev pub invariant-loop-line : goal.invariant-loop-line
invariant-loop-line l = l.sum ≤ l.limit + 32 * 2 ^ 32
