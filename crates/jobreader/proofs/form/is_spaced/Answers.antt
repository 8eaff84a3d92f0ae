-- `is_spaced` meets its contract: there is a character exactly where `spaced_character` is below 65,536.
use Rattle.std.proofs.Common.{◌≡◌, ℕ, ◌<◌, Option, Some, None, IfSome, unwrap_or, is_some, ltb, lt-ltb, sym, ◌∙◌, refl}
use Rattle.laws.specs.JobSheet.Digits.{spaced_told}
use Rattle.jobreader.proofs.form.is_spaced.Goals as goal

told : (o : Option ℕ) (n : ℕ) → unwrap_or o 65536 ≡ n → IfSome o (λ c. c < 65536) → is_some o ≡ ltb n 65536
told None n e h = rw (← e) refl
told (Some c) n e h = rw (← e) (sym (lt-ltb c 65536 h))

pub returns : goal.returns
returns c =
    let call = c.spaced_character in
    c.is_some.ensures ∙ told call.result _ call.ensures.value call.ensures.small ∙ spaced_told c.args.five.now 0
