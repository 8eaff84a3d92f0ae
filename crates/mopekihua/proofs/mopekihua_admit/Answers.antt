-- `mopekihua_admit` meets its contract: an admitted dictionary has as many words as lengths.
use Rattle.std.proofs.Common.{◌≡◌, Bor, List, ℕ, length, Result, Ok, Err, IfOk, IsOkAnd, MatchResult, rules}
use Rattle.spec.specs.declared.Refusal.{Refusal}
use Rattle.spec.specs.Calls.{Answers, AdmitSays}
use Rattle.spec.specs.Refusals.{number_of, answer_of}
use Rattle.laws.specs.Dictionary.Refused.{answers_error, answers_count}
use Rattle.dictionary.specs.declared.admission.Dictionary.{Dictionary}
use Rattle.mopekihua.proofs.mopekihua_admit.Goals as goal

counted :
    {P : Dictionary → ℕ → Type 0} (cs ls : Bor (List ℕ)) {n : ℕ} (r : Result Dictionary Refusal) (q : Result ℕ Refusal) →
    ((d : Dictionary) (k : ℕ) → P d k → k ≡ length d.lengths.now) → number_of r ≡ n → IfOk r (λ d. (d.chars ≡ cs) × (d.lengths ≡ ls)) →
    MatchResult r (λ d. IsOkAnd q (P d)) (λ e. q ≡ Err e) → Answers n (length ls.now) (answer_of q)
counted cs ls (Ok d) (Ok k) counts number lent is = rw (← lent.1, counts d k is) (answers_count _ number)
counted cs ls (Ok d) (Err e) counts number lent is = absurd is
counted cs ls (Err e) q counts number lent is = rw is (answers_error _ e number)

pub returns : goal.returns
unfolding AdmitSays
returns c =
    let admitted = c.admit-admitted.ensures in
    rw c.from.ensures
    (counted c.args.chars c.args.lengths _ c.map.result (λ d k told. search rules) admitted.number admitted.lent c.map.ensures.cases)
