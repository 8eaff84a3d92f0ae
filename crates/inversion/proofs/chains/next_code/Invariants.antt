-- `next_code` meets its contract. The invariant: no code passed has a chain. The measure is how many codes are left.
use Rattle.std.proofs.Common.{length, ◌-◌}
use Rattle.laws.specs.Build.CodeWalk.{Passed}
use Rattle.inversion.proofs.chains.next_code.Given as goal

abbrev pub invariant-loop-code : goal.invariant-loop-code
invariant-loop-code l = Passed l.heads l.from l.code

abbrev pub decreases-loop-code : goal.decreases-loop-code
decreases-loop-code l = length l.heads - l.code
