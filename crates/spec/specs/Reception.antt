-- Recovery of the text from an index, and reception. Assumes nothing: these are definitions.
use Rattle.std.specs.Prelude.{Bool, ◌&&◌, not, cond, List, [], ◌∷◌, ℕ, zero, suc, ◌+◌, ◌-◌, ltb, leb, length, get_or}
use Rattle.std.proofs.Math.Option.{Option, none, some}
use Rattle.spec.specs.Replaced.{holds_full_width}
use Rattle.spec.specs.Dictionary.{Lexicon}
use Rattle.spec.specs.Words.{spells, same}
use Rattle.spec.specs.Numbers.{Line, index_of}
use Rattle.spec.specs.Index.{n_of, lines_in, readable}

-- p is one of the positions that a string of this length occupies.
unfoldable pub lies_on : (position len p : ℕ) → Bool
lies_on a l p = leb a p && ltb p (a + l)

-- RECOVERY, document 01's term (the field's: reconstruction): the text, from the characters of the entries

-- the character at p of a string that lies over p from one of these positions
unfoldable pub shown_by : (string positions : List ℕ) → (p : ℕ) → Option ℕ
shown_by s [] p = none
shown_by s (a ∷ more) p = cond (lies_on a (length s) p) (some (get_or s (p - a) 0)) (shown_by s more p)

-- the first of two options that has a character
unfoldable pub or_shown : Option ℕ → Option ℕ → Option ℕ
or_shown (some c) o = some c
or_shown none o = o

-- the character at p of the first entry over p
unfoldable pub shown : Lexicon → List Line → (p : ℕ) → Option ℕ
shown lex [] p = none
shown lex (l ∷ ls) p = or_shown (shown_by (spells lex l.key_of) l.positions p) (shown lex ls p)

-- the character, or 0 if there is none
unfoldable pub char_or : Option ℕ → ℕ
char_or none = 0
char_or (some c) = c

-- the characters at p and the positions after it
unfoldable pub recovered_from : (left p : ℕ) → Lexicon → List Line → List ℕ
recovered_from zero p lex ls = []
recovered_from (suc n) p lex ls = char_or (shown lex ls p) ∷ recovered_from n (suc p) lex ls

-- the text of the stated length
unfoldable pub recovered : Lexicon → (numbers : List ℕ) → List ℕ
recovered lex xs = recovered_from (n_of xs) 1 lex (lines_in xs)

-- the numbers are readable, and are the index of the text recovered from them
unfoldable pub is_index : (g : ℕ) → Lexicon → (numbers : List ℕ) → Bool
is_index g lex xs = readable g lex xs && same (index_of lex (recovered lex xs)) xs

-- RECEPTION, document 01's term (the field's: verification of an index): "Reception accepts a readable index exactly if some text of
-- length n has it as its index." Document 02: a text is a replaced text, "so a readable index with such a lone key meets 9". If any text
-- has it, the recovered one does (`ReceivedExactly`).
unfoldable pub received : (g : ℕ) → Lexicon → (numbers : List ℕ) → Bool
received g lex xs = is_index g lex xs && not (holds_full_width (recovered lex xs))
