-- The layout of an index as numbers: entries in order, a directory line for each key, then the positions. Assumes nothing: these are
-- definitions.
use Rattle.std.specs.Prelude.{Bool, ◌&&◌, ◌||◌, not, cond, List, [], ◌∷◌, ◌++◌, ℕ, ltb, eqb, length}
use Rattle.spec.specs.Dictionary.{Lexicon}
use Rattle.spec.specs.Words.{Key, Entry, entries}

-- "the pairs (kind, value) ascend strictly"
unfoldable pub key_before : Key → Key → Bool
key_before a b = ltb a.kind b.kind || (eqb a.kind b.kind && ltb a.value b.value)

-- entries compare by key, then by position
unfoldable pub entry_before : Entry → Entry → Bool
entry_before e f =
    key_before e.key_of f.key_of || (not (key_before f.key_of e.key_of) && ltb e.at f.at)

-- an entry inserted in order
unfoldable pub into : Entry → List Entry → List Entry
into e [] = e ∷ []
into e (f ∷ fs) = cond (entry_before e f) (e ∷ f ∷ fs) (f ∷ into e fs)

-- entries in order, by insertion sort
unfoldable pub sorted : List Entry → List Entry
sorted [] = []
sorted (e ∷ es) = into e (sorted es)

-- A directory line with its positions (the field's term: posting list).
pub record Line : Type 0 where
  pub key_of : Key
  pub positions : List ℕ

unfoldable pub line : Key → List ℕ → Line
line k ps = record { key_of = k; positions = ps }

-- an entry put before lines whose entries all come after it
unfoldable pub with_entry : Entry → List Line → List Line
with_entry e [] = line e.key_of (e.at ∷ []) ∷ []
with_entry e (l ∷ ls) =
    cond (key_before e.key_of l.key_of) (line e.key_of (e.at ∷ []) ∷ l ∷ ls) (line l.key_of (e.at ∷ l.positions) ∷ ls)

-- entries in order, inverted: posting lists by key
unfoldable pub lines_of : List Entry → List Line
lines_of [] = []
lines_of (e ∷ es) = with_entry e (lines_of es)

-- "K directory lines of kind, value, count"
unfoldable pub directory : List Line → List ℕ
directory [] = []
directory (l ∷ ls) = l.key_of.kind ∷ l.key_of.value ∷ length l.positions ∷ directory ls

-- "then all positions, key after key in directory order"
unfoldable pub all_positions : List Line → List ℕ
all_positions [] = []
all_positions (l ∷ ls) = l.positions ++ all_positions ls

-- "n; K, the number of keys"
unfoldable pub header_numbers : (n : ℕ) → List Line → List ℕ
header_numbers n ls = n ∷ length ls ∷ []

-- "An index is a slice of 16-bit numbers: n; K, the number of keys; K directory lines of kind, value, count; then all positions"
unfoldable pub numbers : (n : ℕ) → List Line → List ℕ
numbers n ls = header_numbers n ls ++ (directory ls ++ all_positions ls)

-- "As numbers, a text's index is the one readable slice [..] with the text's n and exactly the entries of its complete maximal
-- word index"
unfoldable pub index_of : Lexicon → (text : List ℕ) → List ℕ
index_of lex ts = numbers (length ts) (lines_of (sorted (entries lex ts)))
