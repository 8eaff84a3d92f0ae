-- `key_start` meets its contract, by cases on the sign of the offset.
use mathlib.Core.Path.{sym}
use Rattle.laws.specs.Search.Offset32.{above, not_above}
use Rattle.agreement.proofs.offset.key_start.Goals as goal

pub returns-then-offset-gt0 : goal.returns-then-offset-gt0
returns-then-offset-gt0 c = (above c.args.offset c.ranges.offset c.if-offset-gt0.true).key_starts

pub returns-else-offset-gt0 : goal.returns-else-offset-gt0
returns-else-offset-gt0 c = sym (not_above c.args.offset c.ranges.offset c.if-offset-gt0.false)
