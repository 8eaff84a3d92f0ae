-- Readability of numbers, line by line, each list read through a function. Assumes nothing.
use Rattle.std.specs.Prelude.{Bool, cond, ◌&&◌, List, [], ◌∷◌, suc, zero, ℕ, ◌*◌, ◌+◌, eqb, leb, ltb, drop, length, take}
use Rattle.spec.specs.Dictionary.{Lexicon}
use Rattle.spec.specs.Gaps.{prefix_sums}
use Rattle.spec.specs.Index.{count_at, header, key_at, key_good, keys_of, last_of, n_of, rise_from}
use Rattle.spec.specs.Words.{Key, spells}

-- kind and value as one number
abbrev pub key_number : Key → ℕ
key_number k = k.kind * 65536 + k.value

-- the most keys that an index has, of any width: 4,096 words and 65,536 characters
abbrev pub most_keys : ℕ
most_keys = 69632

-- a line's numbers are read as positions that ascend from 1, and the key ends at or before n
unfoldable pub list_good : (read : List ℕ → List ℕ) → (n len : ℕ) → (numbers : List ℕ) → Bool
list_good read n l ps = leb (last_of (read ps) + l) (suc n) && rise_from 1 (read ps)

-- the first `count` of `positions`: they are there, there is at least one, and their list is good
unfoldable pub line_list_good : (read : List ℕ → List ℕ) → (n len count : ℕ) → (positions : List ℕ) → Bool
line_list_good read n l c ps = (leb c (length ps) && leb 1 c) && list_good read n l (take c ps)

-- the same without the order of the positions: they are there, there is at least one, and the key ends at or before n at the last
unfoldable pub line_list_ends : (read : List ℕ → List ℕ) → (n len count : ℕ) → (positions : List ℕ) → Bool
line_list_ends read n l c ps = (leb c (length ps) && leb 1 c) && leb (last_of (read (take c ps)) + l) (suc n)

-- a good key whose code is `least` or more
unfoldable pub key_fits : Lexicon → (least : ℕ) → Key → Bool
key_fits lex a k = (leb k.kind 1 && leb a (key_number k)) && key_good lex k

unfoldable pub line_fits : (read : List ℕ → List ℕ) → Lexicon → (n least : ℕ) → Key → (count : ℕ) → (positions : List ℕ) → Bool
line_fits read lex n a k c ps = key_fits lex a k && line_list_good read n (length (spells lex k)) c ps

-- a line without the order of its positions
unfoldable pub line_ends : (read : List ℕ → List ℕ) → Lexicon → (n least : ℕ) → Key → (count : ℕ) → (positions : List ℕ) → Bool
line_ends read lex n a k c ps = key_fits lex a k && line_list_ends read n (length (spells lex k)) c ps

unfoldable pub rest_good : (read : List ℕ → List ℕ) → Lexicon → (n left i least : ℕ) → (numbers positions : List ℕ) → Bool
rest_good read lex n zero i a xs ps = eqb (length ps) 0
rest_good read lex n (suc k) i a xs ps =
    line_fits read lex n a (key_at xs i) (count_at xs i) ps
    && rest_good read lex n k (suc i) (suc (key_number (key_at xs i))) xs (drop (count_at xs i) ps)

-- numbers that are the positions themselves
abbrev pub as_is : List ℕ → List ℕ
as_is ps = ps

-- the walk over all lines of a slice that has its directory
unfoldable pub walk_good : (read : List ℕ → List ℕ) → Lexicon → (numbers : List ℕ) → Bool
walk_good read lex xs = rest_good read lex (n_of xs) (keys_of xs) 0 0 xs (drop (header + 3 * keys_of xs) xs)

-- a line's numbers as positions: prefix sums of gaps, or themselves
unfoldable pub read_as : (gaps : Bool) → List ℕ → List ℕ
read_as b ps = cond b (prefix_sums ps) ps

-- DESCENTS, by which the order of all positions is tested in one pass

-- what a number has to exceed: the position before it, or, as a gap, 0
abbrev pub floor_of : (gaps : Bool) → (before : ℕ) → ℕ
floor_of b before = cond b 0 before

abbrev pub one_if : Bool → ℕ
one_if t = cond t 1 0

-- how many numbers of a run after its first do not exceed what they have to; a list ascends from 1 if it has none after a 0
unfoldable pub descents : (gaps : Bool) → (run : List ℕ) → ℕ
descents b [] = 0
descents b (q ∷ []) = 0
descents b (q ∷ p ∷ ps) = one_if (leb p (floor_of b q)) + descents b (p ∷ ps)

-- the descent to the first position of a list, which is no fault unless that is 0
abbrev pub first_descent : (floor first : ℕ) → ℕ
first_descent f p = one_if (ltb 0 p && leb p f)
