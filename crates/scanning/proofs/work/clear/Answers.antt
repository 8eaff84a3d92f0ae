-- `clear` meets its contract: the slice is filled with zeros.
use Rattle.std.proofs.Common.{rules}
use Rattle.spec.specs.Calls.{zeros}
use Rattle.scanning.proofs.work.clear.Goals as goal

pub returns : goal.returns
unfolding zeros
returns c = search rules
