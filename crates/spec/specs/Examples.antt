-- Document 01's starred examples as one table, and a second table of further tries, each row proved by computation. Assumes nothing.
use Rattle.std.specs.Prelude.{◌≡◌, refl, true, false, List, [], ◌∷◌, ◌++◌, ℕ, suc, ◌-◌, pos, negsuc, length, replicate}
use Rattle.std.proofs.Common.{arith}
use Rattle.spec.specs.Replaced.{is_full_width, replaced_char, replaced, holds_full_width}
use Rattle.spec.specs.Dictionary.{longest_text, Lexicon, lexicon, dictionary_refusal, is_char, words_from, total, too_large}
use Rattle.spec.specs.Dictionary.{length_good, lengths_good, lengths_wrong, word_before, ascend, disordered, some_full_width}
use Rattle.spec.specs.Dictionary.{unreplaced}
use Rattle.spec.specs.Words.{key, same, listed, is_word, spells, stands, entry, contains, same_key, same_entry, key_entries}
use Rattle.spec.specs.Words.{word_entries, lone_entries, complete, in_another, maximal, entries}
use Rattle.spec.specs.Numbers.{index_of, key_before, entry_before, into, sorted, line, with_entry, lines_of, directory, all_positions}
use Rattle.spec.specs.Numbers.{header_numbers, numbers}
use Rattle.spec.specs.Index.{entries_of, readable, counts_from, lines_from, lines_in, kinds_good, key_good, keys_ascend, rise_from}
use Rattle.spec.specs.Index.{last_of, line_good, lines_good, lengths_fit}
use Rattle.spec.specs.Reception.{recovered, lies_on, shown_by, or_shown, shown, char_or, recovered_from, is_index, received}
use Rattle.spec.specs.Search.{find, offset, in_offsets, agrees_at, overlaps, equal_from, agrees, string_start, key_start, covers}
use Rattle.spec.specs.Search.{covered, all_covered, found_from}
use Rattle.spec.specs.Cut.{bears, cut_down, lies_from, lies_in, joins_from, joins, bearing}
use Rattle.spec.specs.Tally.{tally, shorter, of_length, tally_from}
use Rattle.spec.specs.Theorems.{positions, positions_from}
use Rattle.spec.specs.Calls.{index_refusal, reception_refusal, recovery_refusal, unreadable, work_short, output_short, no_text}
use Rattle.spec.specs.Calls.{or_else}
use Rattle.spec.specs.JobAnswer.{decimal_within, decimal, digit_byte, hexadecimal, spaced, index_line, key_name, key_line, key_lines}
use Rattle.spec.specs.JobAnswer.{index_lines}
use Rattle.spec.specs.Bytes.{bytes}

-- the characters a, b, c, d, x
abbrev pub a : ℕ
a = 97

abbrev pub b : ℕ
b = 98

abbrev pub c : ℕ
c = 99

abbrev pub d : ℕ
d = 100

abbrev pub x : ℕ
x = 120

-- "A is the dictionary ab, abc, bcd; B is a, aa, aaa."
abbrev pub a_chars : List ℕ
a_chars = a ∷ b ∷ a ∷ b ∷ c ∷ b ∷ c ∷ d ∷ []

abbrev pub a_lengths : List ℕ
a_lengths = 2 ∷ 3 ∷ 3 ∷ []

abbrev pub b_chars : List ℕ
b_chars = replicate 6 a

abbrev pub b_lengths : List ℕ
b_lengths = 1 ∷ 2 ∷ 3 ∷ []

abbrev pub A : Lexicon
A = lexicon a_chars a_lengths

abbrev pub B : Lexicon
B = lexicon b_chars b_lengths

abbrev pub abcdab : List ℕ
abcdab = a ∷ b ∷ c ∷ d ∷ a ∷ b ∷ []

abbrev pub axa : List ℕ
axa = a ∷ x ∷ a ∷ []

-- lone a and lone b over the text ab
abbrev pub two_lone : List ℕ
two_lone = 2 ∷ 2 ∷ 1 ∷ a ∷ 1 ∷ 1 ∷ b ∷ 1 ∷ 1 ∷ 2 ∷ []

-- lone a at 1 of two characters
abbrev pub one_lone : List ℕ
one_lone = 2 ∷ 1 ∷ 1 ∷ a ∷ 1 ∷ 1 ∷ []

-- lone a at 1 and lone c at 3 of three characters
abbrev pub lone_a_c : List ℕ
lone_a_c = 3 ∷ 2 ∷ 1 ∷ a ∷ 1 ∷ 1 ∷ c ∷ 1 ∷ 1 ∷ 3 ∷ []

-- The starred examples, in document 01's order.
pub record Starred : Type 0 where
  pub overlapping_words : index_of A abcdab ≡ 6 ∷ 3 ∷ 0 ∷ 0 ∷ 1 ∷ 0 ∷ 1 ∷ 1 ∷ 0 ∷ 2 ∷ 1 ∷ 5 ∷ 1 ∷ 2 ∷ []
  pub lone_characters :
      (index_of A axa ≡ 3 ∷ 2 ∷ 1 ∷ 97 ∷ 2 ∷ 1 ∷ 120 ∷ 1 ∷ 1 ∷ 3 ∷ 2 ∷ [])
      × (index_lines (index_of A axa)
      ≡ bytes "(index 3 2 3)\n" ++ bytes "(key lone 0061 (1 3))\n" ++ bytes "(key lone 0078 (2))\n")
  pub empty_text :
      (index_of A [] ≡ 0 ∷ 0 ∷ []) × ((h : ℕ) (s : List ℕ) → find A (index_of A []) (h ∷ s) ≡ [])
  pub longest_only : index_of B (replicate 4 a) ≡ 4 ∷ 1 ∷ 0 ∷ 2 ∷ 2 ∷ 1 ∷ 2 ∷ []
  pub each_once : find B (index_of B (replicate 4 a)) (a ∷ a ∷ []) ≡ 1 ∷ 2 ∷ 3 ∷ []
  pub word_missed :
      (readable longest_text A two_lone ≡ true) × (reception_refusal longest_text a_chars a_lengths two_lone 16 ≡ 9)
  pub position_uncovered :
      (readable longest_text A one_lone ≡ true) × (reception_refusal longest_text a_chars a_lengths one_lone 16 ≡ 9)
  pub lone_word : index_refusal longest_text b_chars b_lengths (1 ∷ 1 ∷ 1 ∷ a ∷ 1 ∷ 1 ∷ []) ≡ 5
  pub one_bears :
      (bears (a ∷ b ∷ []) (d ∷ d ∷ []) ≡ false)
      × (bears (a ∷ b ∷ c ∷ []) (d ∷ d ∷ []) ≡ false)
      × (bears (b ∷ c ∷ d ∷ []) (d ∷ d ∷ []) ≡ true)
  pub longer_string : find A (index_of A abcdab) (a ∷ b ∷ c ∷ d ∷ a ∷ b ∷ c ∷ []) ≡ []

-- Tries beyond the starred examples.
pub record Tried : Type 0 where
  pub admits : dictionary_refusal a_chars a_lengths ≡ 0
  pub admits_none : dictionary_refusal [] [] ≡ 0
  pub length_zero : dictionary_refusal a_chars (0 ∷ 2 ∷ 3 ∷ 3 ∷ []) ≡ 2
  pub length_33 : dictionary_refusal (replicate 33 a) (33 ∷ []) ≡ 2
  pub sum_short : dictionary_refusal a_chars (2 ∷ 3 ∷ []) ≡ 2
  pub equal_words : dictionary_refusal (a ∷ a ∷ []) (1 ∷ 1 ∷ []) ≡ 3
  pub two_before_three : dictionary_refusal (b ∷ a ∷ c ∷ []) (1 ∷ 1 ∷ []) ≡ 2
  pub prefix_after : dictionary_refusal (a ∷ b ∷ a ∷ []) (2 ∷ 1 ∷ []) ≡ 3
  pub word_of_one : index_of B (a ∷ []) ≡ 1 ∷ 1 ∷ 0 ∷ 0 ∷ 1 ∷ 1 ∷ []
  pub overlapping_join : find A (index_of A abcdab) (a ∷ b ∷ c ∷ d ∷ []) ≡ 1 ∷ []
  pub touching_join : find A (index_of A abcdab) (c ∷ d ∷ a ∷ []) ≡ 3 ∷ []
  pub positions_of_ab : positions (a ∷ b ∷ []) abcdab ≡ 1 ∷ 5 ∷ []
  pub received_abcdab : received longest_text A (index_of A abcdab) ≡ true
  pub not_received : received longest_text A two_lone ≡ false
  pub text_recovered : recovered A (index_of A abcdab) ≡ abcdab
  pub accepted_at_48 : reception_refusal longest_text a_chars a_lengths (index_of A abcdab) 48 ≡ 0
  pub work_short_at_47 : reception_refusal longest_text a_chars a_lengths (index_of A abcdab) 47 ≡ 7
  pub recovery_output_short : recovery_refusal longest_text a_chars a_lengths (index_of A abcdab) 5 48 ≡ 8
  pub recovery_no_text : recovery_refusal longest_text a_chars a_lengths two_lone 0 16 ≡ 9
  pub cut_for_dd : cut_down A (index_of A abcdab) (d ∷ d ∷ []) ≡ 6 ∷ 1 ∷ 0 ∷ 2 ∷ 1 ∷ 2 ∷ []
  pub unreceived_search : find A two_lone (a ∷ b ∷ []) ≡ 1 ∷ []
  pub unreceived_cut : cut_down A two_lone (b ∷ []) ≡ 2 ∷ 1 ∷ 1 ∷ b ∷ 1 ∷ 2 ∷ []
  pub fewer_find_none : find A one_lone (a ∷ b ∷ []) ≡ []
  pub tally_of_aaaa : tally B (index_of B (replicate 4 a)) ≡ 0 ∷ 0 ∷ 2 ∷ replicate 29 0
  pub tally_of_axa : tally A (index_of A axa) ≡ 3 ∷ replicate 31 0
  pub tally_of_abcdab : tally A (index_of A abcdab) ≡ 0 ∷ 1 ∷ 2 ∷ replicate 29 0
  pub entries_of_abcdab : entries_of (index_of A abcdab) ≡ 3
  pub shorter_second : shorter 3 2 a b ≡ b
  pub shorter_tie : shorter 2 2 a b ≡ a
  pub offset_before : offset 2 5 ≡ negsuc 2
  pub offset_least : (in_offsets (a ∷ b ∷ c ∷ []) (c ∷ d ∷ []) (negsuc 1) ≡ true) ×
      (agrees_at (a ∷ b ∷ c ∷ []) (c ∷ d ∷ []) (negsuc 1) ≡ true)
  pub offset_below : (in_offsets (a ∷ b ∷ c ∷ []) (c ∷ d ∷ []) (negsuc 2) ≡ false) ×
      (agrees_at (a ∷ b ∷ c ∷ []) (c ∷ d ∷ []) (negsuc 2) ≡ false)
  pub offset_greatest : (in_offsets (d ∷ a ∷ []) (c ∷ d ∷ []) (pos 1) ≡ true) × (agrees_at (d ∷ a ∷ []) (c ∷ d ∷ []) (pos 1) ≡ true)
  pub offset_above : (in_offsets (d ∷ a ∷ []) (c ∷ d ∷ []) (pos 2) ≡ false) × (agrees_at (d ∷ a ∷ []) (c ∷ d ∷ []) (pos 2) ≡ false)

pub record Examples : Type 0 where
  pub starred : Starred
  pub tried : Tried

-- an empty text has no position at which a string of one or more characters fits
pub no_position : (m : ℕ) → 1 - suc m ≡ 0
no_position m = omega arith

pub examples : Examples
unfolding is_char words_from lexicon total too_large length_good lengths_good lengths_wrong word_before ascend disordered is_full_width
    replaced_char replaced holds_full_width
    some_full_width unreplaced dictionary_refusal key same listed is_word spells stands entry contains same_key same_entry key_entries
    word_entries lone_entries complete in_another maximal entries key_before entry_before into sorted line with_entry lines_of directory
    all_positions header_numbers numbers index_of counts_from entries_of lines_from lines_in kinds_good key_good keys_ascend rise_from
    last_of line_good lines_good lengths_fit readable lies_on shown_by or_shown shown char_or recovered_from recovered is_index received
    positions_from positions
    overlaps equal_from agrees offset in_offsets string_start key_start agrees_at covers covered all_covered found_from find lies_from
    lies_in joins_from joins bears bearing cut_down of_length tally_from tally shorter unreadable work_short output_short no_text or_else
    index_refusal reception_refusal recovery_refusal bytes decimal_within decimal digit_byte hexadecimal spaced index_line key_name
    key_line key_lines index_lines
examples =
    record {
      starred =
          record {
            overlapping_words = refl;
            lone_characters = (refl, refl);
            empty_text = (refl, λ h s. rw (no_position (length s)));
            longest_only = refl;
            each_once = refl;
            word_missed = (refl, refl);
            position_uncovered = (refl, refl);
            lone_word = refl;
            one_bears = (refl, refl, refl);
            longer_string = refl;
          };
      tried =
          record {
            admits = refl;
            admits_none = refl;
            length_zero = refl;
            length_33 = refl;
            sum_short = refl;
            equal_words = refl;
            two_before_three = refl;
            prefix_after = refl;
            word_of_one = refl;
            overlapping_join = refl;
            touching_join = refl;
            positions_of_ab = refl;
            received_abcdab = refl;
            not_received = refl;
            text_recovered = refl;
            accepted_at_48 = refl;
            work_short_at_47 = refl;
            recovery_output_short = refl;
            recovery_no_text = refl;
            cut_for_dd = refl;
            unreceived_search = refl;
            unreceived_cut = refl;
            fewer_find_none = refl;
            tally_of_aaaa = refl;
            tally_of_axa = refl;
            tally_of_abcdab = refl;
            entries_of_abcdab = refl;
            shorter_second = refl;
            shorter_tie = refl;
            offset_before = refl;
            offset_least = (refl, refl);
            offset_below = (refl, refl);
            offset_greatest = (refl, refl);
            offset_above = (refl, refl);
          };
    }
