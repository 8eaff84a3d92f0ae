-- `is_full_width` meets its contract: the two comparisons are those of the definition.
use Rattle.spec.specs.Replaced.{is_full_width}
use mathlib.Core.Path.{refl}
use Rattle.folding.proofs.forms.is_full_width.Goals as goal

pub returns : goal.returns
unfolding is_full_width
returns c = refl
