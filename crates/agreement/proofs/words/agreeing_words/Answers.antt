-- `agreeing_words` meets its contract: where the string ended all words left agree, else the few left are compared.
use native.Mathlib.Omega.{arith}
use Rattle.laws.specs.Window.AgreeingWords.{refining_all}
use Rattle.agreement.proofs.words.agreeing_words.Goals as goal

pub returns-then-string-key_start : goal.returns-then-string-key_start
returns-then-string-key_start c =
    let found = c.refine-refined.ensures.refining in
    record { listed = found.listed; range = refining_all found (omega arith) }
