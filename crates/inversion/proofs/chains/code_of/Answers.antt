-- `code_of` meets its contract: a word's token is one more than its code.
use Rattle.std.proofs.Common.{◌≡◌}
use Rattle.spec.specs.Replaced.{replaced_char}
use native.Mathlib.Omega.{arith}
use Rattle.laws.specs.Build.KeyCode.{coded_lone, coded_word}
use Rattle.inversion.proofs.chains.code_of.Goals as goal

pub returns-then-token-eq4097-clause-is : goal.returns-then-token-eq4097-clause-is
returns-then-token-eq4097-clause-is c =
    rw c.replace.ensures (coded_lone c.args.token (replaced_char c.args.character) c.if-token-eq4097.true)

pub returns-else-token-eq4097-clause-is : goal.returns-else-token-eq4097-clause-is
returns-else-token-eq4097-clause-is c =
    coded_word c.args.token (replaced_char c.args.character) (λ (z : c.args.token ≡ 0). omega arith) c.if-token-eq4097.false
