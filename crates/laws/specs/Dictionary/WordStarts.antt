-- The table of word starts has one entry more than there are words: from it come a word's characters and its length. Assumes nothing.
use Rattle.std.specs.Prelude.{◌≡◌, refl, List, [], ◌∷◌, ℕ, zero, suc, ◌+◌, ◌-◌, ◌≤◌, ◌<◌, length, take, drop, set}
use Rattle.std.proofs.Common.{sym, ◌∙◌, add-one, length-drop, drop_of_length-le, drop-cons}
use Rattle.std.proofs.Common.{drop-drop, get_or-take, get_or-drop, take_at, length-take-le}
use Rattle.std.proofs.Math.Path.{ap}
use native.Mathlib.Omega.{arith}
use Rattle.std.proofs.Math.ListN.{get_or}
use Rattle.basics.specs.Placed.{Writing, writing_start, writing_one}
use Rattle.basics.specs.Writing.{over, written}
use Rattle.spec.specs.Dictionary.{lexicon, words_from, total}
use Rattle.models.specs.WordStarts.{starts_from, lengths_from, lengths_of, word, word_len}

-- WORDS, by their lengths

-- the index at which word w's characters start
abbrev pub word_start : (lengths : List ℕ) → (w : ℕ) → ℕ
word_start ls w = total (take w ls)

start_suc : (ls : List ℕ) (w : ℕ) → w < length ls → word_start ls (suc w) ≡ word_start ls w + get_or ls w 0
unfolding total
start_suc [] w h = absurd (omega arith)
start_suc (l ∷ ls) zero h = omega arith
start_suc (l ∷ ls) (suc w) h = omega (arith, start_suc ls w (omega arith))

word_start_next : (ls : List ℕ) (w : ℕ) → w < length ls → word_start ls (w + 1) ≡ word_start ls w + get_or ls w 0
word_start_next ls w h = rw (add-one w) (start_suc ls w h)

word_start_room : (ls : List ℕ) (w : ℕ) → w < length ls → word_start ls w + get_or ls w 0 ≤ total ls
unfolding total
word_start_room [] w h = absurd (omega arith)
word_start_room (l ∷ ls) zero h = omega arith
word_start_room (l ∷ ls) (suc w) h = omega (arith, word_start_room ls w (omega arith))

word_there :
    (ls cs : List ℕ) (w : ℕ) → w < length ls → get_or (words_from ls cs) w [] ≡ take (get_or ls w 0) (drop (word_start ls w) cs)
unfolding words_from total
word_there [] cs w h = absurd (omega arith)
word_there (l ∷ ls) cs zero h = refl
word_there (l ∷ ls) cs (suc w) h =
    word_there ls (drop l cs) w (omega arith) ∙ ap (λ (d : List ℕ). take (get_or ls w 0) d) (drop-drop (word_start ls w) l cs)

lengths_back : (a : ℕ) (ls : List ℕ) → lengths_of (starts_from a ls) ≡ ls
unfolding lengths_of lengths_from starts_from
lengths_back a [] = refl
lengths_back a (l ∷ []) = let e : a + l - a ≡ l = omega arith in rw e
lengths_back a (l ∷ m ∷ ls) =
    let e : a + l - a ≡ l = omega arith in
    rw e (ap (λ (ks : List ℕ). l ∷ ks) (lengths_back (a + l) (m ∷ ls)))

-- the lengths are read back from the starts
pub lengths_of_starts : (ls : List ℕ) → lengths_of (starts_from 0 ls) ≡ ls
lengths_of_starts ls = lengths_back 0 ls

pub length_starts : (a : ℕ) (ls : List ℕ) → length (starts_from a ls) ≡ suc (length ls)
unfolding starts_from
length_starts a [] = refl
length_starts a (l ∷ ls) = ap suc (length_starts (a + l) ls)

start_at : (a : ℕ) (ls : List ℕ) (w : ℕ) → w ≤ length ls → get_or (starts_from a ls) w 0 ≡ a + word_start ls w
unfolding starts_from total
start_at a [] zero h = omega arith
start_at a [] (suc w) h = absurd (omega arith)
start_at a (l ∷ ls) zero h = omega arith
start_at a (l ∷ ls) (suc w) h = omega (arith, start_at (a + l) ls w (omega arith))

-- WORDS, by the table

-- words lie one after the other among these characters from 0 on, and these are their starts
pub record WordStarts (cs ws : List ℕ) : Type 0 where
  pub are : ws ≡ starts_from 0 (lengths_of ws)
  pub room : total (lengths_of ws) ≤ length cs

pub starts_words : {cs : List ℕ} (ls : List ℕ) → total ls ≤ length cs → WordStarts cs (starts_from 0 ls)
starts_words ls room =
    record { are = ap (starts_from 0) (sym (lengths_of_starts ls)); room = rw (lengths_of_starts ls) room }

-- word w lies between its start and the next one
pub record WordLies (cs ws : List ℕ) (w : ℕ) : Type 0 where
  pub known : w + 1 < length ws
  pub order : get_or ws w 0 ≤ get_or ws (w + 1) 0
  pub room : get_or ws (w + 1) 0 ≤ length cs

module _ {cs ws : List ℕ} (table : WordStarts cs ws) where
  pub starts_len : length ws ≡ suc (length (lengths_of ws))
  starts_len = ap length table.are ∙ length_starts 0 (lengths_of ws)

  module _ (w : ℕ) (below : w < length (lengths_of ws)) where
    start_is : get_or ws w 0 ≡ word_start (lengths_of ws) w
    start_is =
        omega (arith, ap (λ (us : List ℕ). get_or us w 0) table.are, start_at 0 (lengths_of ws) w (omega arith))

    pub end_is : get_or ws (w + 1) 0 ≡ get_or ws w 0 + get_or (lengths_of ws) w 0
    end_is =
        ap (λ (us : List ℕ). get_or us (w + 1) 0) table.are
        ∙ start_at 0 (lengths_of ws) (w + 1) (omega arith)
        ∙ omega (arith, word_start_next (lengths_of ws) w below, start_is)

    -- a word's characters lie among the dictionary's
    pub end_room : get_or ws (w + 1) 0 ≤ length cs
    end_room = omega (arith, end_is, start_is, word_start_room (lengths_of ws) w below)

    pub lies : WordLies cs ws w
    lies = record { known = omega (arith, starts_len); order = omega (arith, end_is); room = end_room }

    pub word_lies : take (word_len ws w) (drop (get_or ws w 0) cs) ≡ word cs ws w
    unfolding lexicon
    word_lies =
        let size : word_len ws w ≡ get_or (lengths_of ws) w 0 = omega (arith, end_is) in
        rw (size, start_is) (sym (word_there (lengths_of ws) cs w below))

    pub word_end : get_or ws (w + 1) 0 ≡ get_or ws w 0 + length (word cs ws w)
    word_end =
        omega (
          arith,
          end_is,
          end_room,
          sym (ap length word_lies) ∙ length-take-le (word_len ws w) (drop (get_or ws w 0) cs)
              (omega (arith, end_room, end_is, length-drop (get_or ws w 0) cs)),
        )

    pub len_is : word_len ws w ≡ length (word cs ws w)
    len_is = omega (arith, word_end)

    pub word_char : (d : ℕ) → d < length (word cs ws w) → get_or cs (get_or ws w 0 + d) 0 ≡ get_or (word cs ws w) d 0
    word_char d h =
        sym (get_or-drop (get_or ws w 0) cs d 0)
        ∙ sym (get_or-take (word_len ws w) (drop (get_or ws w 0) cs) d 0 (omega (arith, len_is)))
        ∙ ap (λ (us : List ℕ). get_or us d 0) word_lies

-- FILLING THE TABLE

word_start_total : (ls : List ℕ) (w : ℕ) → w ≤ length ls → word_start ls w ≤ total ls
unfolding total
word_start_total ls zero h = omega arith
word_start_total [] (suc w) h = absurd (omega arith)
word_start_total (l ∷ ls) (suc w) h = omega (arith, word_start_total ls w (omega arith))

-- the starts of the first i words are written; word i starts at `at`
pub record FillingStarts (ls old now : List ℕ) (i at : ℕ) : Type 0 where
  pub writing : Writing (starts_from 0 ls) 0 old (starts_from at (drop i ls)) i now
  pub at_is : at ≡ word_start ls i
  pub within : i ≤ length ls

module _ (ls old : List ℕ) where
  pub filling_start : length ls < length old → FillingStarts ls old old 0 0
  unfolding total
  filling_start room =
      record { writing = writing_start (starts_from 0 ls) 0 old (omega (arith, length_starts 0 ls)); at_is = refl; within = omega arith }

  module _ {now : List ℕ} {i at : ℕ} (h : FillingStarts ls old now i at) where
    next_starts : i < length ls → starts_from at (drop i ls) ≡ at ∷ starts_from (at + get_or ls i 0) (drop (i + 1) ls)
    unfolding starts_from
    next_starts below = rw (add-one i) (ap (starts_from at) (drop-cons ls i 0 below))

    last_start : length ls ≤ i → starts_from at (drop i ls) ≡ at ∷ []
    unfolding starts_from
    last_start past = ap (starts_from at) (drop_of_length-le ls past)

    pub filling_room : i < length now
    filling_room =
        omega (arith, h.writing.room, h.writing.len, length_starts at (drop i ls), length-drop i ls)

    pub filling_is : at ≡ get_or (starts_from 0 ls) i 0
    filling_is = omega (arith, start_at 0 ls i h.within)

    pub filling_at : at ≤ total ls
    filling_at = omega (arith, word_start_total ls i h.within)

    pub filling_step : i < length ls → FillingStarts ls old (set now i at) (i + 1) (at + get_or ls i 0)
    filling_step below =
        record {
          writing = writing_one at (starts_from (at + get_or ls i 0) (drop (i + 1) ls)) (rw (next_starts below) at h.writing);
          at_is = omega (arith, word_start_next ls i below);
          within = omega arith;
        }

    pub filling_end : length ls ≤ i → set now i at ≡ over (starts_from 0 ls) old
    filling_end past = written (writing_one at [] (rw (last_start past) at h.writing))

-- a filled table: the part of it that is lent on has the starts, and no more
module _ (ls old : List ℕ) {table : List ℕ} (filled : table ≡ over (starts_from 0 ls) old) where
  pub filled_front : take (length ls + 1) table ≡ starts_from 0 ls
  filled_front =
      let len : length (starts_from 0 ls) ≡ length ls + 1 = omega (arith, length_starts 0 ls) in
      rw filled (take_at (starts_from 0 ls) (drop (length (starts_from 0 ls)) old) (length ls + 1) len)

  pub filled_len : length ls + 1 ≡ length (take (length ls + 1) table)
  filled_len = omega (arith, ap length filled_front, length_starts 0 ls)

  pub filled_lengths : lengths_of (take (length ls + 1) table) ≡ ls
  filled_lengths = ap lengths_of filled_front ∙ lengths_of_starts ls

  pub filled_words : {cs : List ℕ} → total ls ≤ length cs → WordStarts cs (take (length ls + 1) table)
  filled_words room = rw filled_front (starts_words ls room)
