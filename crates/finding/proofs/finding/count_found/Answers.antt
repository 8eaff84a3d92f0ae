use Rattle.std.proofs.Common.{◌≡◌, Bool, true, false, refl}
use mathlib.Core.Bool.{cond}
use mir.Val.{bool_byte}
use Rattle.laws.specs.Window.Finding.{counting_step, counting_end}
use Rattle.finding.proofs.finding.count_found.Goals as goal

bit_of : (b : Bool) → bool_byte b ≡ cond b 1 0
bit_of true = refl
bit_of false = refl

pub loop-reached-preserved : goal.loop-reached-preserved
loop-reached-preserved c =
    rw (c.from-total.ensures, bit_of)
    (counting_step c.args.len c.args.reach.now c.loop-reached.invariant c.loop-reached-test.true)

pub returns : goal.returns
returns c =
    counting_end c.args.len c.args.reach.now c.loop-reached.invariant c.loop-reached-test.false
