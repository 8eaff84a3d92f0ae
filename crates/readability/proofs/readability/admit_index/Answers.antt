-- `admit_index` meets its contract: read as it is, a list of positions stays unchanged.
use Rattle.spec.specs.Dictionary.{longest_text}
use Rattle.spec.specs.Calls.{index_refusal}
use mathlib.Core.Path.{ap, ◌∙◌}
use Rattle.laws.specs.Gaps.ReadLists.{read_positions}
use Rattle.readability.proofs.readability.admit_index.Goals as goal

pub returns-clause-number : goal.returns-clause-number
returns-clause-number c =
    c.admit_as.ensures.number
    ∙ ap (index_refusal longest_text c.args.chars.now c.args.lengths.now) (read_positions c.args.index.now)
