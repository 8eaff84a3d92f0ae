-- Full-width forms, tried on examples: texts, strings, dictionaries, and an index with such a lone key. Each row is proved by
-- computation. Assumes nothing.
use Rattle.std.specs.Prelude.{◌≡◌, refl, true, false, List, [], ◌∷◌, ℕ, replicate}
use Rattle.spec.specs.Replaced.{is_full_width, replaced_char, replaced, holds_full_width}
use Rattle.spec.specs.Dictionary.{longest_text, lexicon, is_char, all_chars, is_text, words_from, total, too_large, length_good}
use Rattle.spec.specs.Dictionary.{lengths_good, lengths_wrong, word_before, ascend, disordered, some_full_width, unreplaced}
use Rattle.spec.specs.Dictionary.{dictionary_refusal}
use Rattle.spec.specs.Words.{key, same, listed, is_word, spells, stands, entry, contains, same_key, same_entry, key_entries}
use Rattle.spec.specs.Words.{word_entries, lone_entries, complete, in_another, maximal, entries}
use Rattle.spec.specs.Numbers.{index_of, key_before, entry_before, into, sorted, line, with_entry, lines_of, directory, all_positions}
use Rattle.spec.specs.Numbers.{header_numbers, numbers}
use Rattle.spec.specs.Index.{entries_of, readable, counts_from, lines_from, lines_in, kinds_good, key_good, keys_ascend, rise_from}
use Rattle.spec.specs.Index.{last_of, line_good, lines_good, lengths_fit}
use Rattle.spec.specs.Reception.{lies_on, shown_by, or_shown, shown, char_or, recovered_from, recovered, is_index, received}
use Rattle.spec.specs.Search.{find, overlaps, equal_from, agrees, covers, covered, all_covered, found_from}
use Rattle.spec.specs.First.{first_of, first_position}
use Rattle.spec.specs.Cut.{bears, cut_down, lies_from, lies_in, joins_from, joins, bearing}
use Rattle.spec.specs.Tally.{tally, of_length, tally_from}
use Rattle.spec.specs.Calls.{text_too_long, unreadable, string_wrong, work_short, output_short, no_text, or_else, build_refusal}
use Rattle.spec.specs.Calls.{index_refusal, reception_refusal, recovery_refusal, string_refusal}
use Rattle.spec.specs.Examples.{a, b, a_chars, a_lengths, A, abcdab}

-- the full-width forms of a, b, c, d
abbrev wide_a : ℕ
wide_a = 0xFF41

abbrev wide_b : ℕ
wide_b = 0xFF42

-- abcdab, all of it or only its first b in full-width forms
abbrev all_wide : List ℕ
all_wide = wide_a ∷ wide_b ∷ 0xFF43 ∷ 0xFF44 ∷ wide_a ∷ wide_b ∷ []

abbrev one_wide : List ℕ
one_wide = a ∷ wide_b ∷ 99 ∷ 100 ∷ a ∷ b ∷ []

-- lone A at 1 and lone FF21 at 2 of two characters
abbrev lone_form : List ℕ
lone_form = 2 ∷ 2 ∷ 1 ∷ 0x41 ∷ 1 ∷ 1 ∷ 0xFF21 ∷ 1 ∷ 1 ∷ 2 ∷ []

pub record ReplacedTried : Type 0 where
  -- THE BOUNDS
  pub first_form : replaced_char 0xFF01 ≡ 0x21
  pub last_form : replaced_char 0xFF5E ≡ 0x7E
  pub before_the_first : replaced_char 0xFF00 ≡ 0xFF00
  pub after_the_last : replaced_char 0xFF5F ≡ 0xFF5F
  pub plain : replaced abcdab ≡ abcdab
  pub empty : replaced [] ≡ []
  pub unreplaced_is_none : is_text longest_text (wide_a ∷ []) ≡ false
  pub replaced_is_text : is_text longest_text (replaced (wide_a ∷ [])) ≡ true
  -- BUILDING AND RECOVERY
  pub same_text : replaced all_wide ≡ abcdab
  pub same_in_part : replaced one_wide ≡ abcdab
  pub same_index : index_of A (replaced all_wide) ≡ 6 ∷ 3 ∷ 0 ∷ 0 ∷ 1 ∷ 0 ∷ 1 ∷ 1 ∷ 0 ∷ 2 ∷ 1 ∷ 5 ∷ 1 ∷ 2 ∷ []
  pub text_replaced : recovered A (index_of A (replaced all_wide)) ≡ abcdab
  pub lone_replaced : index_of A (replaced (0xFF21 ∷ [])) ≡ 1 ∷ 1 ∷ 1 ∷ 0x41 ∷ 1 ∷ 1 ∷ []
  -- SEARCH
  pub string_replaced : find A (index_of A abcdab) (replaced (wide_a ∷ wide_b ∷ [])) ≡ 1 ∷ 5 ∷ []
  pub string_mixed : find A (index_of A abcdab) (replaced (a ∷ wide_b ∷ [])) ≡ 1 ∷ 5 ∷ []
  pub string_as_lent : find A (index_of A abcdab) (wide_a ∷ wide_b ∷ []) ≡ []
  pub first_replaced : first_position A (index_of A abcdab) (replaced (wide_b ∷ [])) ≡ 2
  pub cut_replaced : cut_down A (index_of A abcdab) (replaced (0xFF44 ∷ 0xFF44 ∷ [])) ≡ cut_down A (index_of A abcdab) (100 ∷ 100 ∷ [])
  -- REFUSAL 12, right after 3 and before the others
  pub twelve : dictionary_refusal (0xFF21 ∷ []) (1 ∷ []) ≡ 12
  pub in_a_later_word : dictionary_refusal (a ∷ b ∷ 0xFF5E ∷ []) (1 ∷ 2 ∷ []) ≡ 12
  pub forms_beside : dictionary_refusal (0xFF00 ∷ 0xFF5F ∷ []) (1 ∷ 1 ∷ []) ≡ 0
  pub two_before_twelve : dictionary_refusal (0xFF21 ∷ []) (2 ∷ []) ≡ 2
  pub three_before_twelve : dictionary_refusal (0xFF21 ∷ 0xFF21 ∷ []) (1 ∷ 1 ∷ []) ≡ 3
  pub twelve_before_seven : build_refusal longest_text (0xFF21 ∷ []) (1 ∷ []) (a ∷ []) 0 0 ≡ 12
  pub seven_without : build_refusal longest_text (0x41 ∷ []) (1 ∷ []) (a ∷ []) 0 0 ≡ 7
  pub twelve_before_five : index_refusal longest_text (0xFF21 ∷ []) (1 ∷ []) [] ≡ 12
  pub twelve_before_six : string_refusal longest_text (0xFF21 ∷ []) (1 ∷ []) (0 ∷ 0 ∷ []) [] ≡ 12
  -- A LONE KEY FF21: readable, tallied, no text has it, found by no string, cut out
  pub form_readable : readable longest_text A lone_form ≡ true
  pub form_beside_word : readable longest_text (lexicon (0x41 ∷ []) (1 ∷ [])) (1 ∷ 1 ∷ 1 ∷ 0xFF21 ∷ 1 ∷ 1 ∷ []) ≡ true
  pub form_tallied : tally A lone_form ≡ 2 ∷ replicate 31 0
  pub form_shown : is_index longest_text A lone_form ≡ true
  pub form_refused : reception_refusal longest_text a_chars a_lengths lone_form 16 ≡ 9
  pub form_not_recovered : recovery_refusal longest_text a_chars a_lengths lone_form 0 16 ≡ 9
  pub form_not_found : find A lone_form (replaced (0xFF21 ∷ [])) ≡ 1 ∷ []
  pub form_not_covering : find A lone_form (replaced (0xFF21 ∷ 0xFF21 ∷ [])) ≡ []
  pub form_cut_out : cut_down A lone_form (replaced (0xFF21 ∷ [])) ≡ 2 ∷ 1 ∷ 1 ∷ 0x41 ∷ 1 ∷ 1 ∷ []

pub replaced_tried : ReplacedTried
unfolding is_char all_chars is_text words_from lexicon total too_large length_good lengths_good lengths_wrong word_before ascend
    disordered is_full_width replaced_char replaced holds_full_width some_full_width unreplaced dictionary_refusal key same listed is_word
    spells stands entry contains same_key same_entry key_entries word_entries lone_entries complete in_another maximal entries key_before
    entry_before into sorted line with_entry lines_of directory all_positions header_numbers numbers index_of counts_from entries_of
    lines_from lines_in kinds_good key_good keys_ascend rise_from last_of line_good lines_good lengths_fit readable lies_on shown_by
    or_shown shown char_or recovered_from recovered is_index received overlaps equal_from agrees covers covered all_covered found_from find
    first_of first_position lies_from lies_in joins_from joins bears bearing cut_down of_length tally_from tally text_too_long unreadable
    string_wrong work_short output_short no_text or_else build_refusal index_refusal reception_refusal recovery_refusal string_refusal
replaced_tried =
    record {
      first_form = refl;
      last_form = refl;
      before_the_first = refl;
      after_the_last = refl;
      plain = refl;
      empty = refl;
      unreplaced_is_none = refl;
      replaced_is_text = refl;
      same_text = refl;
      same_in_part = refl;
      same_index = refl;
      text_replaced = refl;
      lone_replaced = refl;
      string_replaced = refl;
      string_mixed = refl;
      string_as_lent = refl;
      first_replaced = refl;
      cut_replaced = refl;
      twelve = refl;
      in_a_later_word = refl;
      forms_beside = refl;
      two_before_twelve = refl;
      three_before_twelve = refl;
      twelve_before_seven = refl;
      seven_without = refl;
      twelve_before_five = refl;
      twelve_before_six = refl;
      form_readable = refl;
      form_beside_word = refl;
      form_tallied = refl;
      form_shown = refl;
      form_refused = refl;
      form_not_recovered = refl;
      form_not_found = refl;
      form_not_covering = refl;
      form_cut_out = refl;
    }
