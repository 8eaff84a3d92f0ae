-- `line_has_key` meets its contract: the line's kind and value are compared with those of the token's key.
use Rattle.std.proofs.Common.{arith}
use Rattle.std.proofs.lemmas.Grind.{common_steps}
use Rattle.spec.specs.Words.{key, same_key}
use Rattle.models.specs.Reception.{token_mapped, token_key}
use Rattle.verification.proofs.verify.line_has_key.Goals as goal

pub returns-in_default : goal.returns-in_default
unfolding token_mapped
returns-in_default c = grind (arith, common_steps, c.in_default.ensures)

pub returns-then-kind_at-eq1 : goal.returns-then-kind_at-eq1
unfolding token_mapped token_key same_key key
returns-then-kind_at-eq1 c = grind (arith, common_steps, c.in-Some.ensures)

pub returns-else-kind_at-eq1 : goal.returns-else-kind_at-eq1
unfolding token_mapped token_key same_key key
returns-else-kind_at-eq1 c = grind (arith, common_steps, c.in-Some.ensures)

pub returns-then-kind_at-eq0 : goal.returns-then-kind_at-eq0
unfolding token_mapped token_key same_key key
returns-then-kind_at-eq0 c = grind (arith, common_steps, c.in-Some.ensures)

pub returns-else-kind_at-eq0 : goal.returns-else-kind_at-eq0
unfolding token_mapped token_key same_key key
returns-else-kind_at-eq0 c = grind (arith, common_steps, c.in-Some.ensures)
