-- A string written at each position of a list, as loops do it: the copy at one position, and the walk over the positions. Assumes
-- nothing.
use Rattle.std.specs.Prelude.{◌≡◌, refl, List, [], ◌∷◌, ℕ, suc, ◌+◌, ◌-◌, ◌≤◌, ◌<◌, get_or, drop, set}
use Rattle.std.proofs.Math.Path.{ap}
use Rattle.std.proofs.Common.{◌∙◌, arith, length-set, drop_of_length-le, drop-cons}
use Rattle.std.proofs.Math.Numerals.{add-one}
use Rattle.std.proofs.Math.ListN.{length}
use Rattle.std.proofs.lemmas.List.Edits.{sets}
use Rattle.std.proofs.Math.Seq.{length-sets}
use Rattle.models.specs.Reception.{fill_positions, reconstruct_positions}

-- AT ONE POSITION

-- the first j characters of s are written, from `at` on
pub record Setting (s : List ℕ) (at : ℕ) (old now : List ℕ) (j : ℕ) : Type 0 where
  pub within : j ≤ length s
  pub left : sets now (at + j) (drop j s) ≡ sets old at s
  pub len : length now ≡ length old

module _ (s : List ℕ) (at : ℕ) (old : List ℕ) where
  pub setting_start : Setting s at old old 0
  setting_start =
      let z : at + 0 ≡ at = omega arith in
      record { within = omega arith; left = rw z; len = refl }

  module _ {now : List ℕ} {j : ℕ} (h : Setting s at old now j) where
    pub setting_step : j < length s → Setting s at old (set now (at + j) (get_or s j 0)) (j + 1)
    setting_step below =
        let z : at + (j + 1) ≡ suc (at + j) = omega arith in
        record {
          within = omega arith;
          left = rw (z, add-one j) (rw (drop-cons s j 0 below) at h.left);
          len = length-set now (at + j) (get_or s j 0) ∙ h.len;
        }

    pub setting_end : length s ≤ j → now ≡ sets old at s
    setting_end past = rw (drop_of_length-le s past) at h.left

-- AT EACH POSITION OF A LIST

pub length_reconstruct_positions : (s ps us : List ℕ) → length (reconstruct_positions s ps us) ≡ length us
unfolding reconstruct_positions
length_reconstruct_positions s [] us = refl
length_reconstruct_positions s (p ∷ ps) us = length_reconstruct_positions s ps (sets us (p - 1) s) ∙ length-sets us (p - 1) s

-- a string of one character is one stored value
pub reconstruct_character : (m : ℕ) (ps us : List ℕ) → reconstruct_positions (m ∷ []) ps us ≡ fill_positions m ps us
unfolding reconstruct_positions fill_positions
reconstruct_character m [] us = refl
reconstruct_character m (p ∷ ps) us = reconstruct_character m ps (set us (p - 1) m)

-- a string of `len` characters lies within n characters at each of these positions
pub record LieWithin (len n : ℕ) (ps : List ℕ) : Type 0 where
  pub from : (j : ℕ) → j < length ps → 1 ≤ get_or ps j 0
  pub to : (j : ℕ) → j < length ps → get_or ps j 0 + len ≤ suc n

-- the string is written at the first j positions
pub record Reconstructed (s ps old now : List ℕ) (j : ℕ) : Type 0 where
  pub within : j ≤ length ps
  pub left : reconstruct_positions s (drop j ps) now ≡ reconstruct_positions s ps old
  pub len : length now ≡ length old

module _ (s ps old : List ℕ) where
  pub reconstructed_start : Reconstructed s ps old old 0
  reconstructed_start = record { within = omega arith; left = refl; len = refl }

  module _ {now : List ℕ} {j : ℕ} (h : Reconstructed s ps old now j) where
    pub reconstructed_step :
        j < length ps → {p : ℕ} → p ≡ get_or ps j 0 → {next : List ℕ} → next ≡ sets now (p - 1) s → Reconstructed s ps old next (j + 1)
    unfolding reconstruct_positions
    reconstructed_step below {p} is e =
        record {
          within = omega arith;
          left = rw (e, is, add-one j) (rw (drop-cons ps j 0 below) at h.left);
          len = ap length e ∙ length-sets now (p - 1) s ∙ h.len;
        }

    pub reconstructed_end : length ps ≤ j → now ≡ reconstruct_positions s ps old
    unfolding reconstruct_positions
    reconstructed_end past = rw (drop_of_length-le ps past) at h.left

-- the same with a single value
module _ (m : ℕ) {ps old now : List ℕ} {j : ℕ} (h : Reconstructed (m ∷ []) ps old now j) where
  pub filled_step : j < length ps → {p : ℕ} → p ≡ get_or ps j 0 → Reconstructed (m ∷ []) ps old (set now (p - 1) m) (j + 1)
  filled_step below is = reconstructed_step (m ∷ []) ps old h below is refl

  pub filled_end : length ps ≤ j → now ≡ fill_positions m ps old
  filled_end past = reconstructed_end (m ∷ []) ps old h past ∙ reconstruct_character m ps old
