-- The first found position and the index up to a position, tried on examples, each row proved by computation. Assumes nothing.
use Rattle.std.specs.Prelude.{◌≡◌, refl, true, false, List, [], ◌∷◌, ℕ, length, replicate}
use Rattle.spec.specs.Replaced.{is_full_width, replaced_char, replaced, holds_full_width}
use Rattle.spec.specs.Dictionary.{
  longest_text,
  lexicon,
  dictionary_refusal,
  is_char,
  words_from,
  total,
  too_large,
  length_good,
  lengths_good,
  lengths_wrong,
  word_before,
  ascend,
  disordered,
  some_full_width,
  unreplaced,
}
use Rattle.spec.specs.Words.{key, same, listed, is_word, spells, stands, entry, contains, same_key, same_entry, key_entries}
use Rattle.spec.specs.Words.{word_entries, lone_entries, complete, in_another, maximal, entries}
use Rattle.spec.specs.Numbers.{index_of, key_before, entry_before, into, sorted, line, with_entry, lines_of, directory, all_positions}
use Rattle.spec.specs.Numbers.{header_numbers, numbers}
use Rattle.spec.specs.Index.{entries_of, readable, counts_from, lines_from, lines_in, kinds_good, key_good, keys_ascend, rise_from}
use Rattle.spec.specs.Index.{last_of, line_good, lines_good, lengths_fit}
use Rattle.spec.specs.Reception.{lies_on, shown_by, or_shown, shown, char_or, recovered_from, recovered, is_index, received}
use Rattle.spec.specs.Search.{find, overlaps, equal_from, agrees, covers, covered, all_covered, found_from}
use Rattle.spec.specs.First.{first_of, first_position, positions_to, with_line, lines_to, index_to}
use Rattle.spec.specs.Cut.{bears, cut_down, lies_from, lies_in, joins_from, joins, bearing}
use Rattle.spec.specs.Calls.{string_wrong, index_refusal, string_refusal, unreadable, or_else}
use Rattle.spec.specs.Examples.{a, b, c, d, x, a_chars, a_lengths, A, B, abcdab, axa, two_lone, no_position}

-- word bcd and lone c at 1, lone d at 2 of three characters: no text has it
abbrev pub bcd_and_lone : List ℕ
bcd_and_lone = 3 ∷ 3 ∷ 0 ∷ 2 ∷ 1 ∷ 1 ∷ c ∷ 1 ∷ 1 ∷ d ∷ 1 ∷ 1 ∷ 1 ∷ 2 ∷ []

pub record FirstTried : Type 0 where
  -- THE FIRST FOUND POSITION
  pub of_two : first_position A (index_of A abcdab) (a ∷ b ∷ []) ≡ 1
  pub of_overlapping : first_position B (index_of B (replicate 4 a)) (a ∷ a ∷ []) ≡ 1
  pub within_a_word : first_position A (index_of A abcdab) (b ∷ []) ≡ 2
  pub across_words : first_position A (index_of A abcdab) (c ∷ d ∷ a ∷ []) ≡ 3
  pub at_the_end : first_position A (index_of A abcdab) (d ∷ a ∷ b ∷ []) ≡ 4
  pub none : first_position A (index_of A abcdab) (x ∷ []) ≡ 0
  pub longer_string : first_position A (index_of A abcdab) (a ∷ b ∷ c ∷ d ∷ a ∷ b ∷ c ∷ []) ≡ 0
  pub empty_text : (h : ℕ) (s : List ℕ) → first_position A (index_of A []) (h ∷ s) ≡ 0
  pub no_text : first_position A two_lone (a ∷ b ∷ []) ≡ 1
  pub no_text_later : first_position A two_lone (b ∷ []) ≡ 2
  pub cut_down_end : first_position A (cut_down A (index_of A abcdab) (d ∷ a ∷ b ∷ [])) (d ∷ a ∷ b ∷ []) ≡ 4
  -- THE INDEX UP TO A POSITION: ab at 5, abc at 1, bcd at 2 in abcdab; lone a at 1 and 3, lone x at 2 in axa
  pub key_dropped : index_to 2 (index_of A abcdab) ≡ 6 ∷ 2 ∷ 0 ∷ 1 ∷ 1 ∷ 0 ∷ 2 ∷ 1 ∷ 1 ∷ 2 ∷ []
  pub position_dropped : index_to 2 (index_of A axa) ≡ 3 ∷ 2 ∷ 1 ∷ a ∷ 1 ∷ 1 ∷ x ∷ 1 ∷ 1 ∷ 2 ∷ []
  pub all_dropped : index_to 0 (index_of A abcdab) ≡ 6 ∷ 0 ∷ []
  pub none_dropped : index_to 5 (index_of A abcdab) ≡ index_of A abcdab
  pub dropped_readable : readable longest_text A (index_to 2 (index_of A abcdab)) ≡ true
  -- WHERE A READER MAY STOP: ab in abcdab and ax in axa are found at 1, with m = 2: entries to 2 are enough
  pub stops : first_position A (index_to 2 (index_of A abcdab)) (a ∷ b ∷ []) ≡ 1
  pub stops_at_last : first_position A (index_to 2 (index_of A axa)) (a ∷ x ∷ []) ≡ 1
  -- with one less, nothing is found, or, in an index that no text has, a later position is
  pub one_less_none : first_position A (index_to 1 (index_of A axa)) (a ∷ x ∷ []) ≡ 0
  pub one_less_later :
      (readable longest_text A bcd_and_lone ≡ true)
      × (received longest_text A bcd_and_lone ≡ false)
      × (first_position A (index_to 2 bcd_and_lone) (c ∷ d ∷ []) ≡ 1)
      × (first_position A (index_to 1 bcd_and_lone) (c ∷ d ∷ []) ≡ 2)
  -- REFUSALS: 5 before 6, and a string of 1 to 256 characters
  pub accepts_256 : string_refusal longest_text a_chars a_lengths two_lone (replicate 256 a) ≡ 0
  pub refuses_257 : string_refusal longest_text a_chars a_lengths two_lone (replicate 257 a) ≡ 6
  pub refuses_empty : string_refusal longest_text a_chars a_lengths two_lone [] ≡ 6
  pub five_first : string_refusal longest_text a_chars a_lengths [] [] ≡ 5

pub first_tried : FirstTried
unfolding is_char words_from lexicon total too_large length_good lengths_good lengths_wrong word_before ascend disordered is_full_width
    replaced_char replaced holds_full_width some_full_width unreplaced dictionary_refusal key same listed is_word spells stands entry
    contains same_key same_entry key_entries word_entries lone_entries complete in_another maximal entries key_before entry_before into
    sorted line with_entry lines_of directory all_positions header_numbers numbers index_of counts_from entries_of lines_from lines_in
    kinds_good key_good keys_ascend rise_from last_of line_good lines_good lengths_fit readable lies_on shown_by or_shown shown char_or
    recovered_from recovered is_index received overlaps equal_from agrees covers covered all_covered found_from find first_of first_position
    positions_to with_line lines_to index_to lies_from lies_in joins_from joins bears bearing cut_down string_wrong unreadable or_else
    index_refusal string_refusal
first_tried =
    record {
      of_two = refl;
      of_overlapping = refl;
      within_a_word = refl;
      across_words = refl;
      at_the_end = refl;
      none = refl;
      longer_string = refl;
      empty_text = λ h s. rw (no_position (length s));
      no_text = refl;
      no_text_later = refl;
      cut_down_end = refl;
      key_dropped = refl;
      position_dropped = refl;
      all_dropped = refl;
      none_dropped = refl;
      dropped_readable = refl;
      stops = refl;
      stops_at_last = refl;
      one_less_none = refl;
      one_less_later = (refl, refl, refl, refl);
      accepts_256 = refl;
      refuses_257 = refl;
      refuses_empty = refl;
      five_first = refl;
    }
