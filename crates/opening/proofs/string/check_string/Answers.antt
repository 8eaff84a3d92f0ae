-- `check_string` meets its contract: each test is one of the two of a wrong string.
use Rattle.std.proofs.lemmas.Bool.Decides.{nat_tests}
use Rattle.std.proofs.Common.{arith}
use Rattle.spec.specs.Calls.{string_wrong}
use Rattle.opening.proofs.string.check_string.Goals as goal

pub returns-then-is_empty : goal.returns-then-is_empty
unfolding string_wrong
returns-then-is_empty c = grind (arith, nat_tests, c.is_empty.ensures, c.then-is_empty.either)

pub returns : goal.returns
unfolding string_wrong
returns c = grind (arith, nat_tests, c.is_empty.ensures)
