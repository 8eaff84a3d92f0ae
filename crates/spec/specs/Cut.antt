-- The cut-down index for one string. Assumes nothing: these are definitions.
use Rattle.std.specs.Prelude.{Bool, false, ◌&&◌, ◌||◌, cond, List, [], ◌∷◌, ℕ, zero, suc, ◌-◌, leb, length, take, drop}
use Rattle.spec.specs.Dictionary.{Lexicon}
use Rattle.spec.specs.Words.{spells, same}
use Rattle.spec.specs.Numbers.{Line, numbers}
use Rattle.spec.specs.Index.{n_of, lines_in}

-- small stands in big at index i or after it
unfoldable pub lies_from : (left i : ℕ) → (small big : List ℕ) → Bool
lies_from zero i a b = false
lies_from (suc n) i a b = same (take (length a) (drop i b)) a || lies_from n (suc i) a b

-- a string is contained in another
unfoldable pub lies_in : (small big : List ℕ) → Bool
lies_in a b = lies_from (suc (length b) - length a) 0 a b

-- a suffix of a, of i characters or more, is a prefix of b
unfoldable pub joins_from : (left i : ℕ) → (a b : List ℕ) → Bool
joins_from zero i a b = false
joins_from (suc n) i a b =
    (leb i (length a) && (leb i (length b) && same (drop (length a - i) a) (take i b))) || joins_from n (suc i) a b

-- a nonempty suffix of a is a prefix of b
unfoldable pub joins : (a b : List ℕ) → Bool
joins a b = joins_from (length a) 1 a b

-- Bears, document 01's term (in the field's words: the key can overlap an occurrence of the string).
-- "A key bears on the string if its string contains it, is contained in it, ends in a nonempty start of it, or starts with a nonempty
-- end of it."
unfoldable pub bears : (key string : List ℕ) → Bool
bears k s = (lies_in s k || lies_in k s) || (joins k s || joins s k)

-- the lines whose keys bear on the string
unfoldable pub bearing : Lexicon → (string : List ℕ) → List Line → List Line
bearing lex s [] = []
bearing lex s (l ∷ ls) = cond (bears (spells lex l.key_of) s) (l ∷ bearing lex s ls) (bearing lex s ls)

-- Cut-down index, document 01's term (the field's: an index pruned for one query).
-- "The cut-down index has the same n and exactly the bearing keys with all their positions."
unfoldable pub cut_down : Lexicon → (numbers string : List ℕ) → List ℕ
cut_down lex xs s = numbers (n_of xs) (bearing lex s (lines_in xs))
