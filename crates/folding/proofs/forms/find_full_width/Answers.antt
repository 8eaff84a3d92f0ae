use Rattle.laws.specs.Text.WidthFolding.{held_step, held_end}
use Rattle.folding.proofs.forms.find_full_width.Goals as goal

pub loop-character-preserved : goal.loop-character-preserved
loop-character-preserved c =
    let turn = c.loop-character in
    rw c.is_full_width-held.ensures
    (held_step c.args.text.now turn.held turn.character-index c.loop-character-test.true
    turn.invariant)

pub returns : goal.returns
returns c =
    let turn = c.loop-character in
    held_end c.args.text.now turn.held turn.character-index c.loop-character-test.false turn.invariant
