-- The first found position, and the index without its entries that start after a position. Assumes nothing: these are definitions.
use Rattle.std.specs.Prelude.{cond, List, [], ◌∷◌, ℕ, leb, eqb, length}
use Rattle.spec.specs.Dictionary.{Lexicon}
use Rattle.spec.specs.Numbers.{Line, line, numbers}
use Rattle.spec.specs.Index.{n_of, lines_in}
use Rattle.spec.specs.Search.{find}

-- THE FIRST FOUND POSITION

-- the head of a list of positions, 0 for none: positions are from 1
unfoldable pub first_of : List ℕ → ℕ
first_of [] = 0
first_of (p ∷ ps) = p

-- Document 02: "a question that gives the first found position, or that there is none. It must equal the head of the full list."
unfoldable pub first_position : Lexicon → (numbers string : List ℕ) → ℕ
first_position lex xs s = first_of (find lex xs s)

-- AN INDEX UP TO A POSITION. Document 02: "the index without its entries that start after p + m − 1 (keys left empty are dropped)";
-- here after any position q

-- the positions that are not after q
unfoldable pub positions_to : (q : ℕ) → List ℕ → List ℕ
positions_to q [] = []
positions_to q (p ∷ ps) = cond (leb p q) (p ∷ positions_to q ps) (positions_to q ps)

-- a line put before others, or dropped if its key has no positions
unfoldable pub with_line : Line → List Line → List Line
with_line l ls = cond (eqb (length l.positions) 0) ls (l ∷ ls)

-- lines without their positions after q
unfoldable pub lines_to : (q : ℕ) → List Line → List Line
lines_to q [] = []
lines_to q (l ∷ ls) = with_line (line l.key_of (positions_to q l.positions)) (lines_to q ls)

-- the index without its entries that start after q
unfoldable pub index_to : (q : ℕ) → (numbers : List ℕ) → List ℕ
index_to q xs = numbers (n_of xs) (lines_to q (lines_in xs))
