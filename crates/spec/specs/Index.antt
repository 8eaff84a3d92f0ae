-- Delivered numbers: their parts, and what is readable. Assumes nothing: these are definitions.
use Rattle.std.specs.Prelude.{Bool, true, ◌&&◌, not, cond, List, [], ◌∷◌, ℕ, zero, suc, ◌+◌, ◌*◌, ltb, leb, eqb, length, get_or, take, drop}
use Rattle.spec.specs.Dictionary.{Lexicon, is_char}
use Rattle.spec.specs.Words.{Key, key, spells, is_word}
use Rattle.spec.specs.Numbers.{key_before, Line, line}

-- THE PARTS

-- how many numbers precede the directory, those of `header_numbers`
abbrev pub header : ℕ
header = 2

-- the greatest number that an index of 16-bit numbers holds
abbrev pub greatest_number : ℕ
greatest_number = 65535

-- "The stated length of a delivered index is n, its first number"
abbrev pub n_of : List ℕ → ℕ
n_of xs = get_or xs 0 0

-- "K, the number of keys"
abbrev pub keys_of : List ℕ → ℕ
keys_of xs = get_or xs 1 0

-- "kind, value, count" of directory line i, from 0
abbrev pub kind_at : List ℕ → (i : ℕ) → ℕ
kind_at xs i = get_or xs (header + 3 * i) 0

abbrev pub value_at : List ℕ → (i : ℕ) → ℕ
value_at xs i = get_or xs (header + 3 * i + 1) 0

abbrev pub count_at : List ℕ → (i : ℕ) → ℕ
count_at xs i = get_or xs (header + 3 * i + 2) 0

abbrev pub key_at : List ℕ → (i : ℕ) → Key
key_at xs i = key (kind_at xs i) (value_at xs i)

-- the sum of the counts of line i and the lines after it
unfoldable pub counts_from : (left i : ℕ) → List ℕ → ℕ
counts_from zero i xs = 0
counts_from (suc k) i xs = count_at xs i + counts_from k (suc i) xs

-- "M is the sum of the counts."
unfoldable pub entries_of : List ℕ → ℕ
entries_of xs = counts_from (keys_of xs) 0 xs

-- line i and the lines after it; each takes its positions from the head of those left
unfoldable pub lines_from : (left i : ℕ) → (numbers positions : List ℕ) → List Line
lines_from zero i xs ps = []
lines_from (suc k) i xs ps = line (key_at xs i) (take (count_at xs i) ps) ∷ lines_from k (suc i) xs (drop (count_at xs i) ps)

-- the directory lines with their positions
unfoldable pub lines_in : List ℕ → List Line
lines_in xs = lines_from (keys_of xs) 0 xs (drop (header + 3 * keys_of xs) xs)

-- READABLE

-- "every kind is 0 or 1"
unfoldable pub kinds_good : (left i : ℕ) → List ℕ → Bool
kinds_good zero i xs = true
kinds_good (suc k) i xs = leb (kind_at xs i) 1 && kinds_good k (suc i) xs

-- "every word number is below the number of words; no lone key is itself a word"; and a lone key is a character.
unfoldable pub key_good : Lexicon → Key → Bool
key_good lex k =
    cond (eqb k.kind 0) (ltb k.value (length lex.words)) (is_char k.value && not (is_word lex (k.value ∷ [])))

-- "the pairs (kind, value) ascend strictly"
unfoldable pub keys_ascend : List Line → Bool
keys_ascend [] = true
keys_ascend (l ∷ []) = true
keys_ascend (l ∷ m ∷ ls) = key_before l.key_of m.key_of && keys_ascend (m ∷ ls)

-- "positions ascend strictly, start at 1 or more": `least` is the least that the next may be
unfoldable pub rise_from : (least : ℕ) → List ℕ → Bool
rise_from a [] = true
rise_from a (p ∷ ps) = leb a p && rise_from (suc p) ps

-- the last of the positions
unfoldable pub last_of : List ℕ → ℕ
last_of [] = 0
last_of (p ∷ []) = p
last_of (p ∷ q ∷ ps) = last_of (q ∷ ps)

-- "every count is at least 1 [..] under each key positions ascend strictly, start at 1 or more, and the key's last character
-- falls at or before n"
unfoldable pub line_good : Lexicon → (n : ℕ) → Line → Bool
line_good lex n l =
    (key_good lex l.key_of && leb 1 (length l.positions))
    && (rise_from 1 l.positions && leb (last_of l.positions + length (spells lex l.key_of)) (suc n))

-- every line is good
unfoldable pub lines_good : Lexicon → (n : ℕ) → List Line → Bool
lines_good lex n [] = true
lines_good lex n (l ∷ ls) = line_good lex n l && lines_good lex n ls

-- "the slice has at least 2 numbers, and at least 2 + 3K [..] the length is 2 + 3K + M"
unfoldable pub lengths_fit : List ℕ → Bool
lengths_fit xs =
    (leb header (length xs) && leb (header + 3 * keys_of xs) (length xs))
    && eqb (length xs) (header + 3 * keys_of xs + entries_of xs)

-- Readable, for texts of at most g characters. A stated length above g is that of no text; 16-bit numbers state none above
-- 65,535.
unfoldable pub readable : (g : ℕ) → Lexicon → (numbers : List ℕ) → Bool
readable g lex xs =
    (lengths_fit xs && leb (n_of xs) g)
    && (kinds_good (keys_of xs) 0 xs && (keys_ascend (lines_in xs) && lines_good lex (n_of xs) (lines_in xs)))
