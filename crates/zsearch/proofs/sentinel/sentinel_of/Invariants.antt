-- `sentinel_of` meets its contract. The invariant: every lower number is a character of the string.
use Rattle.basics.specs.Absent.{LowerIn}
use Rattle.zsearch.proofs.sentinel.sentinel_of.Given as goal

abbrev pub invariant-loop-sentinel : goal.invariant-loop-sentinel
invariant-loop-sentinel l = LowerIn l.string l.sentinel-counter
