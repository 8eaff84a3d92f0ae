-- `find_full_width` meets its contract. The invariant: the text has a full-width form exactly if one was found so far or is among the
-- characters left.
use Rattle.laws.specs.Text.WidthFolding.{Held}
use Rattle.folding.proofs.forms.find_full_width.Given as goal

abbrev pub invariant-loop-character : goal.invariant-loop-character
invariant-loop-character l = Held l.text l.held l.character-index
