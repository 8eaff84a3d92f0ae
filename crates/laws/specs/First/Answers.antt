-- The contract of a call of first, from its refusal. Assumes nothing.
use Rattle.std.specs.Prelude.{◌≡◌, List, ℕ}
use Rattle.std.proofs.Math.Path.{sym}
use Rattle.std.proofs.Common.{◌∙◌}
use Rattle.spec.specs.declared.FirstAnswer.{FirstAnswer}
use Rattle.spec.specs.Replaced.{replaced}
use Rattle.spec.specs.Dictionary.{lexicon}
use Rattle.spec.specs.First.{first_position}
use Rattle.spec.specs.Calls.{string_refusal, FirstSays}
use Rattle.laws.specs.Dictionary.Answering.{accepted_yes, accepted_no}

-- the answer has this refusal and this position
pub record Answered (r : FirstAnswer) (refusal position : ℕ) : Type 0 where
  pub number : r.refusal ≡ refusal
  pub at : r.position ≡ position

module _ (g : ℕ) (cs ls xs s : List ℕ) where
  abbrev first : ℕ
  first = first_position (lexicon cs ls) xs (replaced s)

  pub first_refused :
      {r : FirstAnswer} → (string_refusal g cs ls xs s ≡ 0 → ⊥) → Answered r (string_refusal g cs ls xs s) 0 → FirstSays g cs ls xs s r
  unfolding FirstSays
  first_refused some h = (h.number, h.at ∙ sym (accepted_no (string_refusal g cs ls xs s) first 0 some))

  pub first_says :
      {r : FirstAnswer} → string_refusal g cs ls xs s ≡ 0 → Answered r (string_refusal g cs ls xs s) first → FirstSays g cs ls xs s r
  unfolding FirstSays
  first_says none h = (h.number, h.at ∙ sym (accepted_yes (string_refusal g cs ls xs s) first 0 none))
