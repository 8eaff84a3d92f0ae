-- `receive` meets its contract: the answer of `receive_text`, and the work slice cleared after it.
use Rattle.std.proofs.Common.{◌≡◌, ℕ, ◌∙◌}
use Rattle.std.specs.Prelude.{Result, Ok, Err, IfOk}
use Rattle.std.proofs.lemmas.Result.{IfOk-weaker}
use Rattle.spec.specs.Calls.{Answers, ReceiveSays}
use Rattle.spec.specs.Refusals.{number_of, answer_of}
use Rattle.spec.specs.declared.Refusal.{Refusal}
use Rattle.laws.specs.Dictionary.Refused.{answers_error, answers_count}
use Rattle.laws.specs.Receive.Receiving.{zeros_alike}
use Rattle.receiver.proofs.receive.receive.Goals as goal

-- what is answered for a result
answers_result :
    {number : ℕ} (count : ℕ) (r : Result ℕ Refusal) → number_of r ≡ number → IfOk r (λ n. n ≡ count) → Answers number count (answer_of r)
answers_result count (Ok n) is counted = rw counted (answers_count count is)
answers_result count (Err e) is _ = answers_error count e is

pub returns : goal.returns
unfolding ReceiveSays
returns c =
    let received = c.receive_text-received in (
      answers_result _ received.result received.ensures.number (IfOk-weaker received.result _ _ (λ n h. h.0) received.ensures.text),
      c.clear.ensures ∙ zeros_alike c.args.work.now received.new.work received.auto.work,
    )
