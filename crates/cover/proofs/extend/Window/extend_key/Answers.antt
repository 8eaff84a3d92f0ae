-- `extend_key` meets its contract: a key that does not agree changes nothing.
use Rattle.std.proofs.Common.{◌≡◌, ◌<◌, ◌^◌, ℕ, List, Bool, w32, to_z, ◌-ℤ◌}
use Rattle.std.proofs.Common.{sym, ap, ◌∙◌, arith}
use Rattle.spec.specs.Search.{agrees, agrees_at}
use Rattle.laws.specs.Search.Offset.{agrees_offset}
use Rattle.laws.specs.Search.Offset32.{held, offset_held}
use Rattle.laws.specs.Window.Window.{reaches_same, reaches_by}
use Rattle.laws.specs.Window.WindowSearch.{key_apart, key_agrees}
use Rattle.cover.proofs.extend.Window.extend_key.Goals as goal

-- what `agrees_at` answers, with the offset as two starts
agreed : (string key : List ℕ) (i o : ℕ) → i < 2 ^ 31 → o < 2 ^ 31 → {r : Bool} →
    r ≡ agrees_at key string (held (to_z w32 o -ℤ to_z w32 i)) → agrees string i key o ≡ r
agreed s k i o p q is = agrees_offset s i k o ∙ ap (agrees_at k s) (offset_held o i q p) ∙ sym is

pub returns-then-agrees_at-clause-extended : goal.returns-then-agrees_at-clause-extended
returns-then-agrees_at-clause-extended c =
    let a = c.args in
    reaches_by
    (key_agrees a.at 0 a.string.now a.key.now a.self.now.first a.positions.now a.self.now.reach.now
    (agreed a.string.now a.key.now a.at 0 (omega arith) (omega arith) c.agrees_at.ensures ∙ c.if-agrees_at.true))
    c.extend_at_positions.ensures.extended

pub returns-else-agrees_at-clause-extended : goal.returns-else-agrees_at-clause-extended
returns-else-agrees_at-clause-extended c =
    let a = c.args in
    reaches_same
    (key_apart a.at 0 a.string.now a.key.now a.self.now.first a.positions.now a.self.now.reach.now
    (agreed a.string.now a.key.now a.at 0 (omega arith) (omega arith) c.agrees_at.ensures ∙ c.if-agrees_at.false))
    c.requires.is_window.within
