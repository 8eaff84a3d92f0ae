-- `neighbours_ascend` meets its contract: a word with a lower code comes before, one with a higher code does not, and words with equal
-- codes are compared.
use Rattle.std.proofs.Common.{ℕ}
use mathlib.Core.Path.{sym}
use native.Mathlib.Omega.{arith}
use Rattle.laws.specs.Dictionary.WordCode.{neighbours_less, neighbours_more}
use Rattle.dictionary.proofs.admission.neighbours_ascend.Goals as goal

pub returns-then-at_code-next_code : goal.returns-then-at_code-next_code
returns-then-at_code-next_code c =
    sym
    (neighbours_less
    (λ (i : ℕ). omega (arith, c.type_inv.chars i))
    c.requires
    c.if-at_code-next_code.true)

pub returns-then-next_code-at_code : goal.returns-then-next_code-at_code
returns-then-next_code-at_code c =
    sym
    (neighbours_more
    (λ (i : ℕ). omega (arith, c.type_inv.chars i))
    c.requires
    c.if-next_code-at_code.true)
