use Rattle.laws.specs.Text.WidthFolding.{exceeds_step, exceeds_end}
use Rattle.folding.proofs.forms.excesses.Goals as goal

pub loop-character-preserved : goal.loop-character-preserved
loop-character-preserved c =
    let turn = c.loop-character in
    rw c.saturating_sub-all.ensures
    (exceeds_step c.args.text.now turn.all turn.character-index c.loop-character-test.true
    turn.invariant)

pub returns : goal.returns
returns c =
    let turn = c.loop-character in
    exceeds_end c.args.text.now turn.all turn.character-index c.loop-character-test.false turn.invariant
