-- The tally of an index by word length, and the shorter of two position lists. Assumes nothing: these are definitions.
use Rattle.std.specs.Prelude.{cond, List, [], ◌∷◌, ℕ, zero, suc, ◌+◌, ltb, eqb, length}
use Rattle.spec.specs.Dictionary.{Lexicon}
use Rattle.spec.specs.Words.{spells}
use Rattle.spec.specs.Numbers.{Line}
use Rattle.spec.specs.Index.{lines_in}

-- how many entries have a key that spells l characters; "A lone character has length 1."
unfoldable pub of_length : Lexicon → (l : ℕ) → List Line → ℕ
of_length lex l [] = 0
of_length lex l (k ∷ ks) = cond (eqb (length (spells lex k.key_of)) l) (length k.positions) 0 + of_length lex l ks

-- the counts for length l and the lengths after it
unfoldable pub tally_from : (left l : ℕ) → Lexicon → List Line → List ℕ
tally_from zero l lex ks = []
tally_from (suc n) l lex ks = of_length lex l ks ∷ tally_from n (suc l) lex ks

-- Tally, document 01's term (the field's: histogram). "The tally gives 32 counts, the entries by word length 1 to 32."
unfoldable pub tally : Lexicon → (numbers : List ℕ) → List ℕ
tally lex xs = tally_from 32 1 lex (lines_in xs)

-- "Of two position lists the shorter one is itself handed back, the first on a tie."
unfoldable pub shorter {ℓ} : {A : Type ℓ} → (first second : ℕ) → A → A → A
shorter a b x y = cond (ltb b a) y x
