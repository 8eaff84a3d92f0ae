-- `agrees_at` meets its contract: the string begins first at an offset above zero, the key at any other.
use Rattle.std.proofs.Common.{ℕ, w32}
use Rattle.spec.specs.Search.{agrees, string_start, key_start}
use mathlib.Core.Path.{ap, ◌∙◌}
use mir.ValLaws.{to_z-of_z}
use Rattle.laws.specs.Search.Offset32.{above, not_above}
use Rattle.laws.specs.Search.AgreeWalk.{agrees_string_first, agrees_key_first}
use Rattle.agreement.proofs.offset.agrees_at.Goals as goal

pub returns-then-offset-gt0 : goal.returns-then-offset-gt0
returns-then-offset-gt0 c =
    let a = c.args in
    c.agrees_after.ensures
    ∙ ap (λ (at : ℕ). agrees a.string.now 0 a.key.now at)
    (c.key_start.ensures ∙ ap key_start (to_z-of_z w32 a.offset c.ranges.offset))
    ∙ agrees_string_first a.key.now a.string.now a.offset
    (above a.offset c.ranges.offset c.if-offset-gt0.true).string_starts

pub returns-else-offset-gt0 : goal.returns-else-offset-gt0
returns-else-offset-gt0 c =
    let a = c.args in
    c.agrees_after-else-offset-gt0.ensures
    ∙ ap (λ (at : ℕ). agrees a.key.now 0 a.string.now at)
    (c.string_start.ensures ∙ ap string_start (to_z-of_z w32 a.offset c.ranges.offset))
    ∙ agrees_key_first a.key.now a.string.now a.offset (not_above a.offset c.ranges.offset c.if-offset-gt0.false)
