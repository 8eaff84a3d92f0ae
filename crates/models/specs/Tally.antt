-- The tally as one walk over the directory. Assumes nothing.
use Rattle.std.specs.Prelude.{cond, List, [], ◌∷◌, suc, zero, ℕ, ◌+◌, eqb, length}
use Rattle.spec.specs.Dictionary.{Lexicon}
use Rattle.spec.specs.Index.{count_at, key_at}
use Rattle.spec.specs.Words.{spells}

-- the number of entries of length l under the lines from i on, by their counts
unfoldable pub counted : Lexicon → (l left i : ℕ) → List ℕ → ℕ
counted lex l zero i xs = 0
counted lex l (suc k) i xs = cond (eqb (length (spells lex (key_at xs i))) l) (count_at xs i) 0 + counted lex l k (suc i) xs

-- two lists of counts added element by element
unfoldable pub added : List ℕ → List ℕ → List ℕ
added [] ys = []
added (x ∷ xs) [] = x ∷ xs
added (x ∷ xs) (y ∷ ys) = (x + y) ∷ added xs ys
