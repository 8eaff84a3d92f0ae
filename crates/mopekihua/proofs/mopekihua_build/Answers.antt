-- `mopekihua_build` meets its contract: that of `build` is passed on, and what is lent as characters holds characters.
use Rattle.laws.specs.Text.Chars.{lent_chars}
use Rattle.mopekihua.proofs.mopekihua_build.Goals as goal

pub returns-clause-chars_value : goal.returns-clause-chars_value
returns-clause-chars_value c = (
  lent_chars c.args.chars.now c.type_inv.chars,
  lent_chars c.args.text.now c.type_inv.text,
)
