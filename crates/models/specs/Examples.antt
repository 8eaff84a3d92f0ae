-- The scan and the reach, tried on the dictionary A of document 01's examples. Assumes nothing.
use Rattle.std.specs.Prelude.{◌≡◌, refl, cond, [], ◌∷◌, ℕ, eqb}
use Rattle.spec.specs.Dictionary.{lexicon, words_from}
use Rattle.spec.specs.Words.{Entry, key, entry, spells}
use Rattle.spec.specs.Numbers.{line}
use Rattle.spec.specs.Index.{lines_from, lines_in}
use Rattle.spec.specs.Reception.{lies_on}
use Rattle.spec.specs.Search.{overlaps, equal_from, agrees}
use Rattle.spec.specs.Examples.{a, b, c, d, A, lone_a_c}
use Rattle.models.specs.Scan.{scan}
use Rattle.models.specs.Reach.{extend, reach_positions, reach_key, reach_back, reach_leading, reach_offset, reach_offsets, reach}

-- the longest entry at each position of abcd over A: abc, bcd, c, d
abbrev pub longest_in_abcd : ℕ → Entry
longest_in_abcd p =
    cond (eqb p 1) (entry (key 0 1) 1 3) (cond (eqb p 2) (entry (key 0 2) 2 3) (cond (eqb p 3) (entry (key 1 c) 3 1) (entry (key 1 d) 4 1)))

pub record ModelExamples : Type 0 where
  pub scan_is_strict : scan longest_in_abcd 4 1 1 ≡ entry (key 0 1) 1 3 ∷ entry (key 0 2) 2 3 ∷ []
  pub reach_stops : reach A (lines_in lone_a_c) (a ∷ b ∷ c ∷ []) 1 ≡ 1

pub model_examples : ModelExamples
unfolding scan extend reach_positions reach_key reach_back reach_leading reach_offset reach_offsets reach words_from lexicon key entry
    spells
    line lines_from lines_in lies_on overlaps equal_from agrees
model_examples = record { scan_is_strict = refl; reach_stops = refl }
