-- Job sheets and their answers, each row proved by computation on literal bytes: document 01's example, its lone keys, and refused
-- sheets. Assumes nothing.
use Rattle.std.specs.Prelude.{◌≡◌, refl, List, [], ◌∷◌, ◌++◌, ℕ, zero, suc, replicate}
use Prim.Native.String.{String}
use Rattle.spec.specs.Replaced.{is_full_width, replaced_char, replaced, holds_full_width}
use Rattle.spec.specs.Dictionary.{lexicon, dictionary_refusal, words_from, total, too_large, length_good, lengths_good, lengths_wrong}
use Rattle.spec.specs.Dictionary.{word_before, ascend, disordered, some_full_width, unreplaced}
use Rattle.spec.specs.Words.{key, same, listed, is_word, spells, stands, entry, contains, same_key, same_entry, key_entries}
use Rattle.spec.specs.Words.{word_entries, lone_entries, complete, in_another, maximal, entries}
use Rattle.spec.specs.Numbers.{index_of, key_before, entry_before, into, sorted, line, with_entry, lines_of, directory, all_positions}
use Rattle.spec.specs.Numbers.{header_numbers, numbers}
use Rattle.spec.specs.Index.{entries_of, counts_from, lines_from, lines_in}
use Rattle.spec.specs.Reception.{lies_on}
use Rattle.spec.specs.Search.{find, overlaps, equal_from, agrees, covers, covered, all_covered, found_from}
use Rattle.spec.specs.Calls.{string_wrong, or_else, accepted}
use Rattle.spec.specs.JobSheet.{digit, is_digit, character, is_spaced, ends_well, characters, is_form, string_in, onto_first, lines}
use Rattle.spec.specs.JobSheet.{forms, after, nothing_left, words_on, texts_on, finds_on, left_on, text_on, in_form, in_counts}
use Rattle.spec.specs.JobSheet.{sheet_too_long, sheet_wrong, run_together, lengths_of, some_string_wrong, contents_refusal}
use Rattle.spec.specs.JobSheet.{sheet_refusal}
use Rattle.spec.specs.JobAnswer.{decimal_within, decimal, digit_byte, hexadecimal, spaced, index_line, key_name, key_line, key_lines}
use Rattle.spec.specs.JobAnswer.{index_lines, found_line, found_lines, refused_line, lexicon_on, printed, job_answer}
use Rattle.spec.specs.Bytes.{bytes}

-- SHEETS

-- "Input, whole"
abbrev input : List ℕ
input =
    bytes "(word 0061 0062)\n"
    ++ bytes "(word 0061 0062 0063)\n"
    ++ bytes "(word 0062 0063 0064)\n"
    ++ bytes "(text 0061 0062 0063 0064 0061 0062)\n"
    ++ bytes "(find 0061 0062)\n"
    ++ bytes "(find 0063 0064 0061)\n"
    ++ bytes "(find 0078)\n"

-- "Output, whole"
abbrev output : List ℕ
output =
    bytes "(index 6 3 3)\n"
    ++ bytes "(key word 0 (5))\n"
    ++ bytes "(key word 1 (1))\n"
    ++ bytes "(key word 2 (2))\n"
    ++ bytes "(found 2 (1 5))\n"
    ++ bytes "(found 1 (3))\n"
    ++ bytes "(found 0 ())\n"

-- document 01's axa over ab, abc, bcd
abbrev lone_input : List ℕ
lone_input =
    bytes "(word 0061 0062)\n"
    ++ bytes "(word 0061 0062 0063)\n"
    ++ bytes "(word 0062 0063 0064)\n"
    ++ bytes "(text 0061 0078 0061)\n"

-- "a lone key is printed `(key lone 0061 (1 3))`"
abbrev lone_output : List ℕ
lone_output =
    bytes "(index 3 2 3)\n"
    ++ bytes "(key lone 0061 (1 3))\n"
    ++ bytes "(key lone 0078 (2))\n"

-- the answer for ａｂＡ with the word ab: keys and finds are replaced
abbrev full_width_output : String
full_width_output = "(index 3 2 2)\n(key word 0 (1))\n(key lone 0041 (3))\n(found 0 ())\n(found 1 (2))\n(found 1 (3))\n"

-- what is printed for a sheet, both as texts
abbrev Prints : (sheet answer : String) → Type 0
Prints s t = job_answer (bytes s) ≡ bytes t

-- a text without characters, and k finds of a
abbrev finds : ℕ → List ℕ
finds k = bytes "(text)\n" ++ run_together (replicate k (bytes "(find 0061)\n"))

-- the digit values of `count` bytes, from `byte` on
abbrev values_from : (byte count : ℕ) → List ℕ
values_from b zero = []
values_from b (suc k) = digit b ∷ values_from (suc b) k

-- the digit values of all bytes: 48 come before `0`, seven between `9` and `A`, and 185 after `F`
abbrev all_values : List ℕ
all_values =
    replicate 48 16
    ++ (0 ∷ 1 ∷ 2 ∷ 3 ∷ 4 ∷ 5 ∷ 6 ∷ 7 ∷ 8 ∷ 9 ∷ [])
    ++ replicate 7 16
    ++ (10 ∷ 11 ∷ 12 ∷ 13 ∷ 14 ∷ 15 ∷ [])
    ++ replicate 185 16

-- ROWS

pub record JobExamples : Type 0 where
  pub codes : bytes "(A a0)\n" ≡ 40 ∷ 65 ∷ 32 ∷ 97 ∷ 48 ∷ 41 ∷ 10 ∷ []
  pub whole : job_answer input ≡ output
  pub lone_keys : job_answer lone_input ≡ lone_output
  pub only_a_text : Prints "(text)\n" "(index 0 0 0)\n"
  pub more_than_nine : decimal 2047 ≡ bytes "2047"
  pub every_byte : values_from 0 256 ≡ all_values
  pub four_digits : hexadecimal 0xABCD ≡ bytes "ABCD"
  pub upper_case : Prints "(text 004A)\n" "(index 1 1 1)\n(key lone 004A (1))\n"
  pub empty_word : Prints "(word)\n(text 0061)\n" "(refused 2)\n"
  pub words_fall : Prints "(word 0062)\n(word 0061)\n(text 0061)\n" "(refused 3)\n"
  pub empty_find : Prints "(text 0061)\n(find)\n" "(refused 6)\n"
  pub later_find : Prints "(text 0061)\n(find 0061)\n(find)\n" "(refused 6)\n"
  pub two_before_six : Prints "(word)\n(text 0061)\n(find)\n" "(refused 2)\n"
  pub three_before_six : Prints "(word 0061)\n(word 0061)\n(text 0061)\n(find)\n" "(refused 3)\n"
  pub eleven_before_two : Prints "(word)\n(text 0061)\n(text 0061)\n" "(refused 11)\n"
  pub no_input : Prints "" "(refused 11)\n"
  pub no_text : Prints "(word 0061)\n" "(refused 11)\n"
  pub two_texts : Prints "(text 0061)\n(text 0061)\n" "(refused 11)\n"
  pub word_after_text : Prints "(text 0061)\n(word 0061)\n" "(refused 11)\n"
  pub last_line_feed : Prints "(text 0061)\n(find 0061)" "(refused 11)\n"
  pub byte_after_the_last : Prints "(text 0061)\n " "(refused 11)\n"
  pub line_after_the_last : Prints "(text 0061)\n\n" "(refused 11)\n"
  pub carriage_return : Prints "(text)\r\n" "(refused 11)\n"
  pub space_alone : Prints "(word )\n(text 0061)\n" "(refused 11)\n"
  pub three_digits : Prints "(text 006)\n" "(refused 11)\n"
  pub lower_case : Prints "(text 004a)\n" "(refused 11)\n"
  pub full_width : Prints "(word 0061 0062)\n(text FF41 FF42 FF21)\n(find FF22)\n(find FF42)\n(find 0041)\n" full_width_output
  pub full_width_word : Prints "(word FF21)\n(text 0061)\n" "(refused 12)\n"
  pub three_before_twelve : Prints "(word FF21)\n(word FF21)\n(text 0061)\n" "(refused 3)\n"
  pub twelve_before_six : Prints "(word FF21)\n(text 0061)\n(find)\n" "(refused 12)\n"
  pub eleven_before_twelve : Prints "(word FF21)\n(text 006)\n" "(refused 11)\n"
  pub finds_50 : sheet_refusal (finds 50) ≡ 0
  pub finds_51 : sheet_refusal (finds 51) ≡ 11

pub job_examples : JobExamples
unfolding bytes words_from lexicon total too_large length_good lengths_good lengths_wrong word_before ascend disordered is_full_width
    replaced_char replaced holds_full_width some_full_width unreplaced dictionary_refusal key same listed is_word spells stands entry
    contains same_key same_entry key_entries word_entries lone_entries complete in_another maximal entries key_before entry_before into
    sorted line with_entry lines_of directory all_positions header_numbers numbers index_of counts_from entries_of lines_from lines_in
    lies_on overlaps equal_from agrees covers covered all_covered found_from find string_wrong or_else accepted digit is_digit character
    is_spaced ends_well characters is_form string_in onto_first lines forms after nothing_left words_on texts_on finds_on left_on text_on
    in_form in_counts sheet_too_long sheet_wrong run_together lengths_of some_string_wrong contents_refusal sheet_refusal decimal_within
    decimal digit_byte hexadecimal spaced index_line key_name key_line key_lines index_lines found_line found_lines refused_line lexicon_on
    printed job_answer
job_examples =
    record {
      codes = refl;
      whole = refl;
      lone_keys = refl;
      only_a_text = refl;
      more_than_nine = refl;
      every_byte = refl;
      four_digits = refl;
      upper_case = refl;
      empty_word = refl;
      words_fall = refl;
      empty_find = refl;
      later_find = refl;
      two_before_six = refl;
      three_before_six = refl;
      eleven_before_two = refl;
      no_input = refl;
      no_text = refl;
      two_texts = refl;
      word_after_text = refl;
      last_line_feed = refl;
      byte_after_the_last = refl;
      line_after_the_last = refl;
      carriage_return = refl;
      space_alone = refl;
      three_digits = refl;
      lower_case = refl;
      full_width = refl;
      full_width_word = refl;
      three_before_twelve = refl;
      twelve_before_six = refl;
      eleven_before_twelve = refl;
      finds_50 = refl;
      finds_51 = refl;
    }
