use Rattle.std.proofs.Common.{◌≡◌, refl, sym, Bool, true, false, ◌&&◌, ◌||◌, not, List, ℕ, ◌+◌, ◌<◌, get_or, ltb, length}
use Rattle.laws.specs.Readable.LineSteps.{Rises, rises_step, rises_end}
use Rattle.readability.proofs.lists.rise.Goals as goal

none_descends : (descends rises : Bool) → (not descends && rises) ≡ not (descends || not rises)
none_descends true rises = refl
none_descends false true = refl
none_descends false false = refl

descends_step :
    {ps : List ℕ} {last i : ℕ} (descends : Bool) → Rises ps (not descends) last i → i < length ps →
    Rises ps (not (descends || not (ltb last (get_or ps i 0)))) (get_or ps i 0) (i + 1)
descends_step {ps} {last} {i} descends h below =
    rw (sym (none_descends descends (ltb last (get_or ps i 0)))) (rises_step h below)

pub loop-i-preserved : goal.loop-i-preserved
loop-i-preserved c = descends_step c.loop-i.descends c.loop-i.invariant c.loop-i-test.true

pub returns : goal.returns
returns c = rises_end c.loop-i.invariant c.loop-i-test.false
