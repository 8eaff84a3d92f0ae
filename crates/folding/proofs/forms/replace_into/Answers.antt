use native.Mathlib.Omega.{arith}
use Rattle.folding.proofs.Front.{front_start, front_step}
use Rattle.folding.proofs.forms.replace_into.Goals as goal

pub loop-i-init : goal.loop-i-init
loop-i-init g c = front_start _ _

pub loop-i-preserved : goal.loop-i-preserved
loop-i-preserved g c =
    front_step _ _ _ _ _ c.loop-i.invariant (omega arith) (rw (← c.replace.ensures) c.from.ensures)
