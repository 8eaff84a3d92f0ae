-- The entries that lines of an index stand for, and the longest entry at a position. Assumes nothing.
use Rattle.std.specs.Prelude.{cond, ◌&&◌, List, [], ◌++◌, ◌∷◌, ℕ, eqb, ltb, length}
use Rattle.spec.specs.Dictionary.{Lexicon}
use Rattle.spec.specs.Numbers.{Line, line}
use Rattle.spec.specs.Words.{Entry, Key, complete, entry, key, spells}

-- the entries of a line and of a list of lines
unfoldable pub entries_at : Lexicon → Key → (positions : List ℕ) → List Entry
entries_at lex k [] = []
entries_at lex k (p ∷ ps) = entry k p (length (spells lex k)) ∷ entries_at lex k ps

unfoldable pub flat : Lexicon → List Line → List Entry
flat lex [] = []
flat lex (l ∷ ls) = entries_at lex l.key_of l.positions ++ flat lex ls

unfoldable pub no_line : Line
no_line = line (key 0 0) []

-- the longest of `best` and the entries of a list that start at p
unfoldable pub longest_of : (p : ℕ) (best : Entry) → List Entry → Entry
longest_of p best [] = best
longest_of p best (e ∷ es) = longest_of p (cond (eqb e.at p && ltb best.len e.len) e best) es

-- the longest entry at p; of length 0 if none starts there, which happens at no position of a text
unfoldable pub longest_at : Lexicon → (text : List ℕ) → (p : ℕ) → Entry
longest_at lex ts p = longest_of p (entry (key 1 0) p 0) (complete lex ts)
