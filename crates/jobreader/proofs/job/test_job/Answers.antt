-- `test_job` meets its contract: the dictionary is refused, or the finds decide.
use Rattle.std.proofs.Common.{◌≡◌, ◌+◌, ◌-◌, sym, ◌∙◌, true, false, arith}
use Rattle.laws.specs.Dictionary.Refused.{refused_number}
use Rattle.laws.specs.JobSheet.JobReading.{dictionary_first, then_finds}
use Rattle.dictionary.specs.Passing.{passed_on}
use Rattle.jobreader.proofs.job.test_job.Goals as goal

pub returns-in_err-admit : goal.returns-in_err-admit
returns-in_err-admit c =
    let number = c.in_err-admit.ensures.number in
    rw (passed_on _ _ c.from_residual.ensures.1)
    (number ∙ sym (dictionary_first _ _ _ (refused_number _ number)))

pub returns-then-some_length_wrong : goal.returns-then-some_length_wrong
returns-then-some_length_wrong c =
    let p = c.args.parts.now in
    let finds : p.words + 1 + p.finds - (p.words + 1) ≡ p.finds = omega arith in
    sym (then_finds _ _ _ true (sym c.in_ok-admit.ensures.number)
    (rw finds at (sym c.some_length_wrong.ensures ∙ c.if-some_length_wrong.true)))

pub returns : goal.returns
returns c =
    let p = c.args.parts.now in
    let finds : p.words + 1 + p.finds - (p.words + 1) ≡ p.finds = omega arith in
    sym (then_finds _ _ _ false (sym c.in_ok-admit.ensures.number)
    (rw finds at (sym c.some_length_wrong.ensures ∙ c.if-some_length_wrong.false)))
