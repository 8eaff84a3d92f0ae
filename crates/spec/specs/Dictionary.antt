-- Characters, texts, dictionaries, and lines 1 to 3 and 12 of the refusal table. Assumes nothing: these are definitions.
use Rattle.std.specs.Prelude.{Bool, true, false, ◌&&◌, ◌||◌, not, cond, List, [], ◌∷◌, ℕ, ◌+◌, ltb, leb, eqb, length, take, drop}
use Rattle.spec.specs.Replaced.{holds_full_width}

-- "A character is a 16-bit number."
unfoldable pub is_char : ℕ → Bool
is_char c = ltb c 65536

-- every number of a list is a character
unfoldable pub all_chars : List ℕ → Bool
all_chars [] = true
all_chars (c ∷ cs) = is_char c && all_chars cs

-- The greatest length of a text whose index is of 16-bit numbers.
abbrev pub longest_text : ℕ
longest_text = 65535

-- "A text has n characters, n from 0 to 65,535": to the greatest length g. Document 02: "“Text” in reception, recovery and demands 2 and
-- 3 is from here on the replaced text".
unfoldable pub is_text : (g : ℕ) → (text : List ℕ) → Bool
is_text g ts = (all_chars ts && leb (length ts) g) && not (holds_full_width ts)

-- "It is lent as all characters run together and a list of lengths."
unfoldable pub words_from : (lengths chars : List ℕ) → List (List ℕ)
words_from [] cs = []
words_from (l ∷ ls) cs = take l cs ∷ words_from ls (drop l cs)

-- A dictionary (the field's word: lexicon). It alone decides which words there are, what a key spells and what is a word. "The first word
-- has number 0."
pub record Lexicon : Type 0 where
  pub words : List (List ℕ)

unfoldable pub lexicon : (chars lengths : List ℕ) → Lexicon
lexicon cs ls = record { words = words_from ls cs }

-- the sum of a list
unfoldable pub total : List ℕ → ℕ
total [] = 0
total (x ∷ xs) = x + total xs

-- Line 1: "more than 4,096 words or 65,535 dictionary characters". It counts the characters lent.
unfoldable pub too_large : (chars lengths : List ℕ) → Bool
too_large cs ls = ltb 4096 (length ls) || ltb 65535 (length cs)

-- "words of 1 to 32 characters"
unfoldable pub length_good : ℕ → Bool
length_good l = leb 1 l && leb l 32

-- every length is from 1 to 32
unfoldable pub lengths_good : List ℕ → Bool
lengths_good [] = true
lengths_good (l ∷ ls) = length_good l && lengths_good ls

-- Line 2: "a word length is 0 or above 32, or the lengths do not add up to the characters lent"
unfoldable pub lengths_wrong : (chars lengths : List ℕ) → Bool
lengths_wrong cs ls = not (lengths_good ls && eqb (total ls) (length cs))

-- "Words ascend strictly, compared character by character, a proper prefix first."
unfoldable pub word_before : (a b : List ℕ) → Bool
word_before xs [] = false
word_before [] (y ∷ ys) = true
word_before (x ∷ xs) (y ∷ ys) = ltb x y || (eqb x y && word_before xs ys)

-- each word is before the next
unfoldable pub ascend : List (List ℕ) → Bool
ascend [] = true
ascend (w ∷ []) = true
ascend (w ∷ v ∷ ws) = word_before w v && ascend (v ∷ ws)

-- Line 3: "words do not ascend strictly"
unfoldable pub disordered : (chars lengths : List ℕ) → Bool
disordered cs ls = not (ascend (words_from ls cs))

-- one of the words contains a full-width form
unfoldable pub some_full_width : (words : List (List ℕ)) → Bool
some_full_width [] = false
some_full_width (w ∷ ws) = holds_full_width w || some_full_width ws

-- Line 12: "a word holds a character from FF01 to FF5E"
unfoldable pub unreplaced : (chars lengths : List ℕ) → Bool
unreplaced cs ls = some_full_width (words_from ls cs)

-- The number of the first line about dictionaries that is met; 0 if none is. 12 is "tested right after 3".
unfoldable pub dictionary_refusal : (chars lengths : List ℕ) → ℕ
dictionary_refusal cs ls =
    cond (too_large cs ls) 1 (cond (lengths_wrong cs ls) 2 (cond (disordered cs ls) 3 (cond (unreplaced cs ls) 12 0)))

-- Admitted, document 01's term (the field's: validated).
-- "A dictionary is admitted if it meets no line about dictionaries in the table below."
unfoldable pub admitted : (chars lengths : List ℕ) → Bool
admitted cs ls = all_chars cs && eqb (dictionary_refusal cs ls) 0
