-- What opening an index answers: the refusal, and the bounds of the directory if no line is met. Assumes nothing.
use Rattle.std.specs.Prelude.{◌≡◌, List, ℕ, ◌+◌, ◌*◌}
use Rattle.std.proofs.Common.{sym, ◌∙◌}
use Rattle.spec.specs.Index.{header, keys_of}
use Rattle.spec.specs.Calls.{index_refusal, accepted}
use Rattle.laws.specs.Dictionary.Answering.{accepted_yes, accepted_no}

-- the number of lines of the directory and the index at which the positions start; on a refusal both are 0
pub record Bounded (g : ℕ) (cs ls xs : List ℕ) (refusal keys first : ℕ) : Type 0 where
  pub number : refusal ≡ index_refusal g cs ls xs
  pub lines : keys ≡ accepted refusal (keys_of xs) 0
  pub positions : first ≡ accepted refusal (header + 3 * keys_of xs) 0

module _ (g : ℕ) (cs ls xs : List ℕ) {refusal : ℕ} (number : refusal ≡ index_refusal g cs ls xs) where
  pub bounds_refused : (refusal ≡ 0 → ⊥) → Bounded g cs ls xs refusal 0 0
  bounds_refused some =
      record {
        number = number;
        lines = sym (accepted_no refusal (keys_of xs) 0 some);
        positions = sym (accepted_no refusal (header + 3 * keys_of xs) 0 some);
      }

  pub bounds_accepted :
      refusal ≡ 0 → {keys first : ℕ} → keys ≡ keys_of xs → first ≡ header + 3 * keys_of xs → Bounded g cs ls xs refusal keys first
  bounds_accepted none is_keys is_first =
      record {
        number = number;
        lines = is_keys ∙ sym (accepted_yes refusal (keys_of xs) 0 none);
        positions = is_first ∙ sym (accepted_yes refusal (header + 3 * keys_of xs) 0 none);
      }

-- what holds if the index is accepted: no line is met, and the bounds are those of the directory
module _ {g : ℕ} {cs ls xs : List ℕ} {refusal keys first : ℕ} (b : Bounded g cs ls xs refusal keys first) (none : refusal ≡ 0) where
  pub opened_accepted : index_refusal g cs ls xs ≡ 0
  opened_accepted = sym b.number ∙ none

  pub opened_keys : keys ≡ keys_of xs
  opened_keys = b.lines ∙ accepted_yes refusal (keys_of xs) 0 none

  pub opened_first : first ≡ header + 3 * keys_of xs
  opened_first = b.positions ∙ accepted_yes refusal (header + 3 * keys_of xs) 0 none
