-- The gap form and its inverse, tried on examples, each row proved by computation. Assumes nothing.
use Rattle.std.specs.Prelude.{◌≡◌, refl, true, false, List, [], ◌∷◌, ℕ, length}
use Rattle.spec.specs.Replaced.{is_full_width, replaced_char, replaced, holds_full_width}
use Rattle.spec.specs.Dictionary.{
  longest_text,
  lexicon,
  dictionary_refusal,
  is_char,
  words_from,
  total,
  too_large,
  length_good,
  lengths_good,
  lengths_wrong,
  word_before,
  ascend,
  disordered,
  some_full_width,
  unreplaced,
}
use Rattle.spec.specs.Words.{key, same, listed, is_word, spells, stands, entry, contains, same_key, same_entry, key_entries}
use Rattle.spec.specs.Words.{word_entries, lone_entries, complete, in_another, maximal, entries}
use Rattle.spec.specs.Numbers.{index_of, key_before, entry_before, into, sorted, line, with_entry, lines_of, directory, all_positions}
use Rattle.spec.specs.Numbers.{header_numbers, numbers}
use Rattle.spec.specs.Index.{entries_of, readable, counts_from, lines_from, lines_in, kinds_good, key_good, keys_ascend, rise_from}
use Rattle.spec.specs.Index.{last_of, line_good, lines_good, lengths_fit}
use Rattle.spec.specs.Gaps.{gaps_after, sums_after, gaps, prefix_sums, lists_from, with_lists, gap_form, restored}
use Rattle.spec.specs.Calls.{unreadable, output_short, or_else, index_refusal, gaps_refusal}
use Rattle.spec.specs.Examples.{a, x, a_chars, a_lengths, A}

abbrev pub xaxxa : List ℕ
xaxxa = x ∷ a ∷ x ∷ x ∷ a ∷ []

-- the index of xaxxa over A: lone a at 2 and 5, lone x at 1, 3 and 4
abbrev pub xaxxa_index : List ℕ
xaxxa_index = 5 ∷ 2 ∷ 1 ∷ a ∷ 2 ∷ 1 ∷ x ∷ 3 ∷ 2 ∷ 5 ∷ 1 ∷ 3 ∷ 4 ∷ []

abbrev pub xaxxa_gaps : List ℕ
xaxxa_gaps = 5 ∷ 2 ∷ 1 ∷ a ∷ 2 ∷ 1 ∷ x ∷ 3 ∷ 2 ∷ 3 ∷ 1 ∷ 2 ∷ 1 ∷ []

-- two numbers as the list of a lone a in n characters
abbrev pub lone_pair : (n p q : ℕ) → List ℕ
lone_pair n p q = n ∷ 1 ∷ 1 ∷ a ∷ 2 ∷ p ∷ q ∷ []

pub record GapsTried : Type 0 where
  -- ONE LIST
  pub three_positions : gaps (3 ∷ 4 ∷ 9 ∷ []) ≡ 3 ∷ 1 ∷ 5 ∷ []
  pub three_gaps : prefix_sums (3 ∷ 1 ∷ 5 ∷ []) ≡ 3 ∷ 4 ∷ 9 ∷ []
  pub one_position : gaps (7 ∷ []) ≡ 7 ∷ []
  -- AN INDEX: the first position of each key stays, whatever the list of the key before
  pub is_index : index_of A xaxxa ≡ xaxxa_index
  pub rearranged : gap_form xaxxa_index ≡ xaxxa_gaps
  pub back : restored xaxxa_gaps ≡ xaxxa_index
  pub empty_text : gap_form (index_of A []) ≡ 0 ∷ 0 ∷ []
  -- WHAT RESTORES TO NO READABLE INDEX. A gap of 0, first and later
  pub zero_first : readable longest_text A (restored (lone_pair 9 0 4)) ≡ false
  pub zero_later : readable longest_text A (restored (lone_pair 9 4 0)) ≡ false
  -- a last gap that reaches n, and one that exceeds it by one
  pub meets_n : readable longest_text A (restored (lone_pair 9 4 5)) ≡ true
  pub passes_n : readable longest_text A (restored (lone_pair 9 4 6)) ≡ false
  -- 3 and a gap of 65,534 come to 65,537, past any n, and not to 1
  pub no_wrap : restored (lone_pair 65535 3 65534) ≡ lone_pair 65535 3 65537
  pub no_wrap_read : readable longest_text A (restored (lone_pair 65535 3 65534)) ≡ false
  pub to_the_end : restored (lone_pair 65535 3 65532) ≡ lone_pair 65535 3 65535
  pub to_the_end_read : readable longest_text A (restored (lone_pair 65535 3 65532)) ≡ true
  -- each key's list starts anew: carried over, the second would exceed n
  pub anew : readable longest_text A (restored (5 ∷ 2 ∷ 1 ∷ a ∷ 1 ∷ 1 ∷ x ∷ 1 ∷ 4 ∷ 2 ∷ [])) ≡ true
  -- numbers that belong to no line stay, and are not readable; nor is a list cut short
  pub left_over : restored (5 ∷ 0 ∷ 7 ∷ []) ≡ 5 ∷ 0 ∷ 7 ∷ []
  pub left_over_read : readable longest_text A (restored (5 ∷ 0 ∷ 7 ∷ [])) ≡ false
  pub cut_short : restored (5 ∷ 1 ∷ 1 ∷ a ∷ 3 ∷ 2 ∷ 1 ∷ []) ≡ 5 ∷ 1 ∷ 1 ∷ a ∷ 3 ∷ 2 ∷ 3 ∷ []
  pub cut_short_read : readable longest_text A (restored (5 ∷ 1 ∷ 1 ∷ a ∷ 3 ∷ 2 ∷ 1 ∷ [])) ≡ false
  -- REFUSALS: 5 before 8, and the output as long as the index
  pub five_first : gaps_refusal longest_text a_chars a_lengths [] 13 0 ≡ 5
  pub refuses_short : gaps_refusal longest_text a_chars a_lengths xaxxa_index 13 12 ≡ 8
  pub accepts_long : gaps_refusal longest_text a_chars a_lengths xaxxa_index 13 13 ≡ 0
  pub same_len : length xaxxa_gaps ≡ 13

pub gaps_tried : GapsTried
unfolding is_char words_from lexicon total too_large length_good lengths_good lengths_wrong word_before ascend disordered is_full_width
    replaced_char replaced holds_full_width some_full_width unreplaced dictionary_refusal key same listed is_word spells stands entry
    contains same_key same_entry key_entries word_entries lone_entries complete in_another maximal entries key_before entry_before into
    sorted line with_entry lines_of directory all_positions header_numbers numbers index_of counts_from entries_of lines_from lines_in
    kinds_good key_good keys_ascend rise_from last_of line_good lines_good lengths_fit readable gaps_after sums_after lists_from with_lists
    gap_form restored unreadable output_short or_else index_refusal gaps_refusal
gaps_tried =
    record {
      three_positions = refl;
      three_gaps = refl;
      one_position = refl;
      is_index = refl;
      rearranged = refl;
      back = refl;
      empty_text = refl;
      zero_first = refl;
      zero_later = refl;
      meets_n = refl;
      passes_n = refl;
      no_wrap = refl;
      no_wrap_read = refl;
      to_the_end = refl;
      to_the_end_read = refl;
      anew = refl;
      left_over = refl;
      left_over_read = refl;
      cut_short = refl;
      cut_short_read = refl;
      five_first = refl;
      refuses_short = refl;
      accepts_long = refl;
      same_len = refl;
    }
