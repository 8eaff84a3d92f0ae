-- A readable index with its tables of starts: what a directory line's key spells and where its positions are. Assumes nothing.
use Rattle.std.specs.Prelude.{◌≡◌, true, List, [], ℕ, ◌+◌, ◌*◌, ◌-◌, ◌^◌, ◌≤◌, ◌<◌, length, get_or, take, drop, set}
use Rattle.std.proofs.Math.Path.{refl, sym}
use Rattle.std.proofs.Common.{ap, ◌∙◌, arith, length-set, get_or-take, get_or-drop, get_or-set_same, get_or-set_other, below_more}
use Rattle.std.proofs.Math.Logic.{⊎_elim}
use Rattle.basics.specs.Writing.{over}
use Rattle.spec.specs.Dictionary.{lexicon, total, ascend, admitted}
use Rattle.spec.specs.Words.{key, spells}
use Rattle.spec.specs.Numbers.{line}
use Rattle.spec.specs.Index.{header, n_of, keys_of, kind_at, value_at, count_at, key_at, counts_from, lines_in, readable}
use Rattle.spec.specs.Calls.{index_refusal}
use Rattle.models.specs.Readability.{most_keys}
use Rattle.models.specs.Window.{list_start, positions_at, line_of}
use Rattle.models.specs.WordStarts.{starts_from, lengths_of, lexicon_at}
use Rattle.laws.specs.Text.Facts.{GoodLexicon, IsKey, GoodLine, GoodLines}
use Rattle.laws.specs.Dictionary.Keys.{IsWordKey, IsLoneKey, key_kinds, spells_word, spells_short, spells_some}
use Rattle.laws.specs.Dictionary.Lexicon.{length_words, admitted_get, admitted_lexicon, admitted_ascend}
use Rattle.laws.specs.Dictionary.WordCode.{Small}
use Rattle.laws.specs.Dictionary.WordStarts.{WordStarts, end_room, word_lies, word_end, filled_len, filled_lengths, filled_words}
use Rattle.laws.specs.Numbers.KeyNumbers.{few_lines}
use Rattle.laws.specs.Numbers.Slices.{Fits}
use Rattle.laws.specs.Numbers.LineNumbers.{length_lines_in, line_of_in}
use Rattle.laws.specs.Readable.Readable.{readable_get}
use Rattle.laws.specs.Readable.LineWalk.{readable_fits}
use Rattle.laws.specs.Readable.KeyTests.{no_refusal}
use Rattle.laws.specs.Readable.IndexRefusal.{index_accepted}
use Rattle.laws.specs.Numbers.DirectoryWalk.{list_room}

-- what holds if 1, 2, 3 and 5 are not met
pub record CanRead (cs ls xs : List ℕ) : Type 0 where
  pub few_words : length ls ≤ 4096
  pub few_chars : length cs ≤ 65535
  pub sum : total ls ≡ length cs
  pub lexicon_good : GoodLexicon (lexicon cs ls)
  pub words_rise : ascend (lexicon cs ls).words ≡ true
  pub fits : Fits xs
  pub lines : GoodLines (lexicon cs ls) (n_of xs) (lines_in xs)
  pub n_small : n_of xs ≤ 2 ^ 32
  pub keys_few : keys_of xs ≤ most_keys

-- a readable index, and the table of its dictionary's word starts
pub record Reads (cs ws xs : List ℕ) : Type 0 where
  pub can : CanRead cs (lengths_of ws) xs
  pub words : WordStarts cs ws

-- the table has the starts of the first n lists, counted from the end of the directory
pub record ListStarts (xs : List ℕ) (n : ℕ) (ts : List ℕ) : Type 0 where
  pub within : n ≤ keys_of xs
  pub room : keys_of xs ≤ length ts
  pub at : (i : ℕ) → i < n → get_or ts i 0 ≡ counts_from i 0 xs

module _ {cs ls xs : List ℕ} (can : CanRead cs ls xs) (i : ℕ) (below : i < keys_of xs) where
  -- the numbers of line i lie within the slice
  pub line_room : header + 3 * i + 2 < length xs
  line_room = omega arith

  pub line_is_good : GoodLine (lexicon cs ls) (n_of xs) (line_of xs i)
  line_is_good = can.lines.each (line_of xs i) (line_of_in xs i below)

  pub key_is : IsKey (lexicon cs ls) (key_at xs i)
  unfolding line
  key_is = line_is_good.is_key

  -- a word's key
  module _ (kind : kind_at xs i ≡ 0) where
    pub word_below : value_at xs i < length ls
    unfolding key lexicon
    word_below =
        ⊎_elim (λ (w : IsWordKey (lexicon cs ls) (key_at xs i)). omega (arith, length_words ls cs))
        (λ (l : IsLoneKey (lexicon cs ls) (key_at xs i)). absurd (omega arith))
        (key_kinds (lexicon cs ls) (key_at xs i) key_is)

  pub key_short : length (spells (lexicon cs ls) (key_at xs i)) ≤ 32
  key_short = spells_short can.lexicon_good (key_at xs i) key_is

  pub spelt_short : (k : List ℕ) → k ≡ spells (lexicon cs ls) (key_at xs i) → length k ≤ 32
  spelt_short k e = rw e key_short

-- line i of a readable index is that of a word
pub record WordLine (cs ws xs : List ℕ) (i : ℕ) : Type 0 where
  pub reads : Reads cs ws xs
  pub below : i < keys_of xs
  pub kind : kind_at xs i ≡ 0

module _ {cs ws xs : List ℕ} {i : ℕ} (line : WordLine cs ws xs i) where
  pub line_word : value_at xs i < length (lengths_of ws)
  line_word = word_below line.reads.can i line.below line.kind

  abbrev word : List ℕ
  word = spells (lexicon_at cs ws) (key_at xs i)

  -- it is that number of the dictionary
  pub line_spells : get_or (lexicon_at cs ws).words (value_at xs i) [] ≡ word
  unfolding key
  line_spells = sym (spells_word (lexicon_at cs ws) (key_at xs i) line.kind)

  pub line_len : get_or ws (value_at xs i + 1) 0 ≡ get_or ws (value_at xs i) 0 + length word
  line_len = omega (arith, word_end line.reads.words (value_at xs i) line_word, ap length line_spells)

  pub line_end : get_or ws (value_at xs i) 0 + length word ≤ length cs
  line_end = omega (arith, line_len, end_room line.reads.words (value_at xs i) line_word)

  -- its characters lie among the dictionary's
  pub line_char : (j : ℕ) → j < length word → get_or cs (get_or ws (value_at xs i) 0 + j) 0 ≡ get_or word j 0
  line_char j b =
      sym (get_or-drop (get_or ws (value_at xs i) 0) cs j 0)
      ∙ sym
      (get_or-take (get_or ws (value_at xs i + 1) 0 - get_or ws (value_at xs i) 0) (drop (get_or ws (value_at xs i) 0) cs) j 0
      (omega (arith, line_len)))
      ∙ ap (λ (k : List ℕ). get_or k j 0) (word_lies line.reads.words (value_at xs i) line_word ∙ line_spells)

-- FILLING THE TABLE OF LISTS

module _ (xs : List ℕ) where
  pub list_starts_none : (ts : List ℕ) → keys_of xs ≤ length ts → ListStarts xs 0 ts
  list_starts_none ts h = record { within = omega arith; room = h; at = λ w b. absurd (omega arith) }

  pub list_starts_first : 0 ≡ counts_from 0 0 xs
  unfolding counts_from
  list_starts_first = refl

  pub list_starts_next :
      {n : ℕ} {ts : List ℕ} → ListStarts xs n ts → n < keys_of xs → (v : ℕ) → v ≡ counts_from n 0 xs → ListStarts xs (n + 1) (set ts n v)
  list_starts_next {n} {ts} h below v e =
      record {
        within = omega arith;
        room = omega (arith, length-set ts n v);
        at =
            below_more (λ (w : ℕ). get_or (set ts n v) w 0 ≡ counts_from w 0 xs) n
            (λ w b. get_or-set_other ts n w v 0 (λ (z : w ≡ n). omega arith) ∙ h.at w b)
            (get_or-set_same ts n v 0 (omega arith) ∙ e);
      }

-- READING THE POSITIONS

module _ {xs : List ℕ} (fits : Fits xs) (i : ℕ) (below : i < keys_of xs) {ts : List ℕ} (table : ListStarts xs (keys_of xs) ts) where
  starts_at : get_or ts i 0 ≡ counts_from i 0 xs
  starts_at = table.at i below

  pub positions_room : header + 3 * keys_of xs + get_or ts i 0 + count_at xs i ≤ length xs
  positions_room = omega (arith, starts_at, list_room xs i below fits)

  pub positions_are :
      {start end : ℕ} → start ≡ header + 3 * keys_of xs + get_or ts i 0 → end ≡ start + count_at xs i →
      take (end - start) (drop start xs) ≡ positions_at xs i
  positions_are {start} {end} from to =
      let size : end - start ≡ count_at xs i = omega arith in
      let at : start ≡ list_start xs i = omega (arith, starts_at) in
      rw (size, at)

pub list_starts_all : {xs : List ℕ} {n : ℕ} {ts : List ℕ} → ListStarts xs n ts → keys_of xs ≤ n → ListStarts xs (keys_of xs) ts
list_starts_all {xs} {n} h past = let e : n ≡ keys_of xs = omega arith in rw e at h

-- a readable index with both tables
pub record Opened (cs ws xs ts : List ℕ) : Type 0 where
  pub reads : Reads cs ws xs
  pub list_starts : ListStarts xs (keys_of xs) ts

-- what holds for a readable index and an admitted dictionary
module _ (g : ℕ) (small : g ≤ 2 ^ 32) (cs ls xs : List ℕ) where
  pub admitted_reads : admitted cs ls ≡ true → readable g (lexicon cs ls) xs ≡ true → CanRead cs ls xs
  admitted_reads dictionary can =
      let facts = admitted_get cs ls dictionary in
      let good = admitted_lexicon cs ls dictionary in
      let is = readable_get g (lexicon cs ls) xs can in
      record {
        few_words = facts.few;
        few_chars = facts.small;
        sum = facts.sum;
        lexicon_good = good;
        words_rise = admitted_ascend cs ls dictionary;
        fits = readable_fits g (lexicon cs ls) xs can;
        lines = is.lines;
        n_small = omega (arith, is.length_allowed);
        keys_few = omega (arith, few_lines good.few is.lines, length_lines_in xs);
      }

  pub can_read : Small cs → index_refusal g cs ls xs ≡ 0 → CanRead cs ls xs
  can_read chars none =
      let passes = index_accepted g cs ls xs none in
      admitted_reads (no_refusal cs ls chars passes.no_refusal) passes.is_readable

pub key_some :
    {cs ls xs : List ℕ} → CanRead cs ls xs → (i : ℕ) → i < keys_of xs → 1 ≤ length (spells (lexicon cs ls) (key_at xs i))
key_some {cs} {ls} {xs} can i below = spells_some can.lexicon_good (key_at xs i) (key_is can i below)

-- a table filled from the lengths of a dictionary's words: the part of it that is lent on has the starts, and no more
module _ {cs ls xs : List ℕ} (can : CanRead cs ls xs) (old : List ℕ) {table : List ℕ} (filled : table ≡ over (starts_from 0 ls) old) where
  pub front_len : length ls + 1 ≡ length (take (length ls + 1) table)
  front_len = filled_len ls old filled

  pub front_lengths : lengths_of (take (length ls + 1) table) ≡ ls
  front_lengths = filled_lengths ls old filled

  pub front_reads : Reads cs (take (length ls + 1) table) xs
  front_reads = record { can = rw front_lengths can; words = filled_words ls old filled (omega arith) }
