-- `string_start` meets its contract: what is negated is an offset below zero plus 1, which does not overflow.
use mathlib.Core.Path.{sym}
use Rattle.laws.specs.Search.Offset32.{below, not_below}
use Rattle.agreement.proofs.offset.string_start.Goals as goal

pub returns-then-offset-lt0 : goal.returns-then-offset-lt0
returns-then-offset-lt0 c = (below c.args.offset c.ranges.offset c.if-offset-lt0.true).string_starts

pub returns-else-offset-lt0 : goal.returns-else-offset-lt0
returns-else-offset-lt0 c = sym (not_below c.args.offset c.ranges.offset c.if-offset-lt0.false)
