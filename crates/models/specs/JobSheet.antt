-- Reading and printing a job sheet. Assumes nothing.
use Rattle.std.specs.Prelude.{Bool, cond, false, ◌||◌, List, [], ◌++◌, ◌∷◌, suc, ℕ, ◌+◌, ◌-◌, eqb, ltb, drop, get_or, length}
use Rattle.spec.specs.Calls.{or_else}
use Rattle.spec.specs.Dictionary.{dictionary_refusal, lexicon, words_from}
use Rattle.spec.specs.Index.{keys_of, lines_from}
use Rattle.spec.specs.JobAnswer.{decimal, ending_list, found_lines, gap, index_lines, key_lines, opening_list, spaced}
use Rattle.spec.specs.JobSheet.{character, is_spaced}
use Rattle.spec.specs.Numbers.{index_of}
use Rattle.spec.specs.Replaced.{replaced}

-- the five bytes at an index are a space and four digits
unfoldable pub spaced_at : List ℕ → (at : ℕ) → Bool
spaced_at l at = is_spaced (get_or l at 0) (get_or l (at + 1) 0) (get_or l (at + 2) 0) (get_or l (at + 3) 0) (get_or l (at + 4) 0)

unfoldable pub character_at : List ℕ → (at : ℕ) → ℕ
character_at l at = character (get_or l (at + 1) 0) (get_or l (at + 2) 0) (get_or l (at + 3) 0) (get_or l (at + 4) 0)

-- 65,536, which is no character, unless a space and four digits are there
unfoldable pub spaced_character : List ℕ → (at : ℕ) → ℕ
spaced_character l at = cond (spaced_at l at) (character_at l at) 65536

-- bytes put before the first line
unfoldable pub onto_all : List ℕ → List (List ℕ) → List (List ℕ)
onto_all p [] = p ∷ []
onto_all p (l ∷ ls) = (p ++ l) ∷ ls

-- the number of bytes of lines, each with its LF
unfoldable pub size : List (List ℕ) → ℕ
size [] = 0
size (l ∷ ls) = suc (length l) + size ls

unfoldable pub some_length_wrong : List ℕ → Bool
some_length_wrong [] = false
some_length_wrong (l ∷ ls) = (eqb l 0 || ltb 256 l) || some_length_wrong ls

-- the first line met by a dictionary and then by the lengths of the finds
unfoldable pub parts_refusal : (chars words finds : List ℕ) → ℕ
parts_refusal cs ws fs = or_else (dictionary_refusal cs ws) (cond (some_length_wrong fs) 6 0)

-- each number after a space
unfoldable pub each_spaced : List ℕ → List ℕ
each_spaced [] = []
each_spaced (p ∷ ps) = (gap ++ decimal p) ++ each_spaced ps

-- in parentheses, at the end of a line
unfoldable pub listed : List ℕ → List ℕ
listed ps = opening_list ++ (spaced ps ++ ending_list)

-- what is printed for the lines from line i on
unfoldable pub left_from : List ℕ → (position i : ℕ) → List ℕ
left_from xs position i = key_lines (lines_from (keys_of xs - i) i xs (drop position xs))

-- what is printed for an index and such strings
unfoldable pub shown : (chars lengths index strings counts : List ℕ) → List ℕ
shown cs ls xs fs ns = index_lines xs ++ found_lines (lexicon cs ls) xs (words_from ns fs)

unfoldable pub printed_of : (chars lengths text strings counts : List ℕ) → List ℕ
printed_of cs ls ts fs ns = shown cs ls (index_of (lexicon cs ls) (replaced ts)) fs ns
