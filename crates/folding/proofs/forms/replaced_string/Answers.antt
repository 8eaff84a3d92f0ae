-- `replaced_string` meets its contract: the replaced string is as long as the string.
use Rattle.std.proofs.Common.{length, take, ℕ, List}
use Rattle.spec.specs.Replaced.{replaced}
use mathlib.Core.Path.{ap, ◌∙◌}
use lib.ListN.{replicate}
use Rattle.laws.specs.Text.WidthFolding.{length_replaced}
use Rattle.laws.specs.Receive.WorkParts.{front_taken}
use Rattle.folding.proofs.Front.{front_numbers}
use Rattle.folding.proofs.forms.replaced_string.Goals as goal

pub returns : goal.returns
returns c =
    let string = c.args.string.now in
    let written = c.replace_into.ensures in
    ap (λ (own : List ℕ). take (length string) own)
    (front_numbers string (replicate {A = ℕ} 256 0) _ c.requires c.replace_into.auto.slots
    (record { front = written.front; rest = written.rest }))
    ∙ front_taken (length string) (replaced string) (replicate {A = ℕ} 256 0) (length_replaced string)
