-- `replace_as_numbers` meets its contract: a number has the character's value.
use Rattle.folding.proofs.Front.{front_numbers}
use Rattle.folding.proofs.forms.replace_as_numbers.Goals as goal

pub returns : goal.returns
returns c =
    let written = c.replace_into.ensures in
    front_numbers c.args.text.now c.args.numbers.now _ c.requires c.replace_into.auto.slots
    (record { front = written.front; rest = written.rest })
