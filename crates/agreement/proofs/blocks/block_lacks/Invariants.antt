-- `block_lacks` meets its contract. The invariant: if `lacks` is true, the first i characters are others.
use Rattle.std.proofs.Common.{◌≡◌, true}
use Rattle.laws.specs.Text.Strings.{Lacks}
use Rattle.agreement.proofs.blocks.block_lacks.Given as goal

abbrev pub invariant-loop-i : goal.invariant-loop-i
invariant-loop-i l = l.lacks ≡ true → Lacks l.chars l.at l.i l.character
