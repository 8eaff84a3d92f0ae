-- `replace` meets its contract: a full-width form is FEE0 or more, so the difference does not wrap.
use mathlib.Core.Path.{sym, ◌∙◌}
use native.Mathlib.Omega.{arith}
use Rattle.laws.specs.Text.WidthFolding.{form_get, char_lowered, char_stays}
use Rattle.folding.proofs.forms.replace.Goals as goal

pub overflow_sub-result : goal.overflow_sub-result
overflow_sub-result c = omega (arith, form_get c.args.character (sym c.is_full_width.ensures ∙ c.if-is_full_width.true))

pub returns-then-is_full_width : goal.returns-then-is_full_width
returns-then-is_full_width c = sym (char_lowered c.args.character (sym c.is_full_width.ensures ∙ c.if-is_full_width.true))

pub returns-else-is_full_width : goal.returns-else-is_full_width
returns-else-is_full_width c = sym (char_stays c.args.character (sym c.is_full_width.ensures ∙ c.if-is_full_width.false))
