-- `code_at` meets its contract: the three reads give the word's first three digits, each at most 65,536.
use Rattle.laws.specs.Dictionary.WordCode.{code_read}
use Rattle.dictionary.proofs.admission.code_at.Goals as goal

pub returns : goal.returns
returns c =
    code_read c.requires c.digit-a.ensures.value c.digit-b.ensures.value
    c.digit-c.ensures.value
