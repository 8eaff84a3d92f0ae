-- `key_of_code` meets its contract: codes below 4,096 are word numbers.
use Rattle.std.proofs.Common.{sym, arith}
use Rattle.spec.specs.Words.{key}
use Rattle.laws.specs.Build.KeyCode.{code_key_word, code_key_lone}
use Rattle.inversion.proofs.write.key_of_code.Goals as goal

pub returns-then-code-lt4096 : goal.returns-then-code-lt4096
unfolding key
returns-then-code-lt4096 c = (sym (code_key_word c.args.code c.if-code-lt4096.true), omega arith)

pub returns-else-code-lt4096 : goal.returns-else-code-lt4096
unfolding key
returns-else-code-lt4096 c = (sym (code_key_lone c.args.code c.if-code-lt4096.false), omega arith)
