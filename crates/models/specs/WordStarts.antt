-- The table of word starts: where each word's characters start among the dictionary's, and where those of the last end. Assumes nothing.
use Rattle.std.specs.Prelude.{List, [], ◌∷◌, ℕ, ◌+◌, ◌-◌, get_or}
use Rattle.spec.specs.Dictionary.{Lexicon, lexicon}

-- where words of these lengths start, the first at `at`, and where the last ends
unfoldable pub starts_from : (at : ℕ) → (lengths : List ℕ) → List ℕ
starts_from a [] = a ∷ []
starts_from a (l ∷ ls) = a ∷ starts_from (a + l) ls

-- the lengths of words with these starts: each start less the one before
unfoldable pub lengths_from : (at : ℕ) → (starts : List ℕ) → List ℕ
lengths_from a [] = []
lengths_from a (b ∷ ws) = (b - a) ∷ lengths_from b ws

unfoldable pub lengths_of : (starts : List ℕ) → List ℕ
lengths_of [] = []
lengths_of (a ∷ ws) = lengths_from a ws

-- the dictionary of these characters and word starts
abbrev pub lexicon_at : (chars starts : List ℕ) → Lexicon
lexicon_at cs ws = lexicon cs (lengths_of ws)

-- word i and its length
abbrev pub word : (chars starts : List ℕ) (i : ℕ) → List ℕ
word cs ws i = get_or (lexicon_at cs ws).words i []

abbrev pub word_len : (starts : List ℕ) (i : ℕ) → ℕ
word_len ws i = get_or ws (i + 1) 0 - get_or ws i 0
