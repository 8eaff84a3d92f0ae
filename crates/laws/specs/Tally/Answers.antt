-- What a tally answers: one law for an accepted call, one for a refusal. Assumes nothing.
use Rattle.std.specs.Prelude.{◌≡◌, List, ℕ, replicate}
use Rattle.std.proofs.Math.Path.{sym}
use Rattle.std.proofs.Common.{◌∙◌}
use Rattle.spec.specs.Dictionary.{lexicon}
use Rattle.spec.specs.Index.{entries_of}
use Rattle.spec.specs.Tally.{tally}
use Rattle.spec.specs.Calls.{index_refusal, TallySays}
use Rattle.spec.specs.declared.TallyAnswer.{TallyAnswer}
use Rattle.laws.specs.Dictionary.Answering.{accepted_yes, accepted_no}

-- the answer has this refusal, this count and these counts by length
pub record Tallied (r : TallyAnswer) (refusal count : ℕ) (counts : List ℕ) : Type 0 where
  pub number : r.refusal ≡ refusal
  pub total : r.count ≡ count
  pub by_length : r.by_length ≡ counts

module _ (g : ℕ) (cs ls xs : List ℕ) {r : TallyAnswer} where
  pub tally_accepted :
      index_refusal g cs ls xs ≡ 0 → Tallied r (index_refusal g cs ls xs) (entries_of xs) (tally (lexicon cs ls) xs) →
      TallySays g cs ls xs r
  unfolding TallySays
  tally_accepted none h = (
    h.number,
    h.total ∙ sym (accepted_yes (index_refusal g cs ls xs) (entries_of xs) 0 none),
    h.by_length ∙ sym (accepted_yes (index_refusal g cs ls xs) (tally (lexicon cs ls) xs) (replicate 32 0) none),
  )

  pub tally_refused :
      (index_refusal g cs ls xs ≡ 0 → ⊥) → Tallied r (index_refusal g cs ls xs) 0 (replicate 32 0) → TallySays g cs ls xs r
  unfolding TallySays
  tally_refused some h = (
    h.number,
    h.total ∙ sym (accepted_no (index_refusal g cs ls xs) (entries_of xs) 0 some),
    h.by_length ∙ sym (accepted_no (index_refusal g cs ls xs) (tally (lexicon cs ls) xs) (replicate 32 0) some),
  )
