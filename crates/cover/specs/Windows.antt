-- What holds for a window of starts, and what stays of it while it is extended. Assumes nothing.
use Rattle.std.specs.Prelude.{◌≡◌, ◌^◌, ◌≤◌, length}
use Rattle.std.proofs.Common.{◌∙◌}
use Rattle.laws.specs.Window.Window.{Within}
use Rattle.cover.specs.declared.extend.Window.{Window}

-- its first start is small, and none of its starts reaches further than to `highest`
pub record IsWindow (w : Window) : Type 0 where
  pub first_small : w.first ≤ 2 ^ 32
  pub within : Within w.highest w.reach.now

-- two windows have the same first start, and as many starts, whose reaches lie behind the same reference
abbrev pub SameStarts : (old new : Window) → Type 0
SameStarts old new =
    (new.first ≡ old.first) × (new.reach.ghost_name ≡ old.reach.ghost_name) × (length new.reach.now ≡ length old.reach.now)

pub same_on : (a b c : Window) → SameStarts a b → SameStarts b c → SameStarts a c
same_on a b c p q = (q.0 ∙ p.0, q.1 ∙ p.1, q.2 ∙ p.2)
