-- `exceeds` is safe: the sum is compared with the limit before each step, and the stride is at most 9. The measure is how much of the
-- string is left.
use Rattle.std.proofs.Common.{length, ◌-◌, ◌+◌, ◌*◌, ◌^◌, ◌≤◌}
use Rattle.searcher.proofs.estimate.Estimate.exceeds.Given as goal

abbrev pub invariant-loop-at : goal.invariant-loop-at
invariant-loop-at l = (1 ≤ l.stride) × (l.stride ≤ 9) × (l.sum ≤ l.limit + 9 * (l.limit + 33 * 2 ^ 32))

abbrev pub decreases-loop-at : goal.decreases-loop-at
decreases-loop-at l = length l.self.string.now - l.at
