-- `excesses` meets its contract. The invariant: where `all` is 0, none of the first i characters is a full-width form.
use Rattle.laws.specs.Text.WidthFolding.{Exceeds}
use Rattle.folding.proofs.forms.excesses.Given as goal

abbrev pub invariant-loop-character : goal.invariant-loop-character
invariant-loop-character l = Exceeds l.text l.all l.character-index
