-- Tokens of the scan, their key codes, and the posting lists by key. Assumes nothing.
use Rattle.std.specs.Prelude.{Bool, cond, List, [], ◌++◌, ◌∷◌, suc, zero, ℕ, ◌+◌, ◌*◌, ◌-◌, eqb, ltb, get_or, length}
use Rattle.basics.specs.Steps.{those_from}
use Rattle.spec.specs.Dictionary.{Lexicon}
use Rattle.spec.specs.Numbers.{Line, line, numbers}
use Rattle.spec.specs.Words.{Entry, Key, entry, key}
use Rattle.models.specs.Readability.{most_keys}

-- the entry of a token at p, c being the character there
unfoldable pub token_entry : Lexicon → (p token c : ℕ) → List Entry
token_entry lex p zero c = []
token_entry lex p (suc i) c = cond (eqb i 4096) (entry (key 1 c) p 1) (entry (key 0 i) p (length (get_or lex.words i []))) ∷ []

unfoldable pub entries_of_tokens : Lexicon → (p : ℕ) → (tokens text : List ℕ) → List Entry
entries_of_tokens lex p [] ts = []
entries_of_tokens lex p (m ∷ ms) [] = []
entries_of_tokens lex p (m ∷ ms) (c ∷ cs) = token_entry lex p m c ++ entries_of_tokens lex (suc p) ms cs

-- one more than the key code of a token, c being the character there; 0 if the token is 0
unfoldable pub coded : (token c : ℕ) → ℕ
coded m c = cond (eqb m 0) 0 (cond (eqb m 4097) (4097 + c) m)

-- the code of a key: where it stands among all that there may be, the words first, then the characters
abbrev pub key_code : Key → ℕ
key_code k = k.kind * 4096 + k.value

-- the key of a code
unfoldable pub code_key : (code : ℕ) → Key
code_key k = cond (ltb k 4096) (key 0 k) (key 1 (k - 4096))

unfoldable pub with_positions : (code : ℕ) → (positions : List ℕ) → List Line → List Line
with_positions k [] ls = ls
with_positions k (p ∷ ps) ls = line (code_key k) (p ∷ ps) ∷ ls

-- the lines of the codes k, k + 1, .., whose positions f gives
unfoldable pub lines_from : (left k : ℕ) → (ℕ → List ℕ) → List Line
lines_from zero k f = []
lines_from (suc n) k f = with_positions k (f k) (lines_from n (suc k) f)

-- whether the token at position x has the code k
abbrev pub holds : (tokens text : List ℕ) → (k x : ℕ) → Bool
holds ms ts k x = eqb (coded (get_or ms (x - 1) 0) (get_or ts (x - 1) 0)) (suc k)

-- the posting list of code k: the positions after p of the tokens with that code
unfoldable pub postings : (tokens text : List ℕ) → (p k : ℕ) → List ℕ
postings ms ts p k = those_from (length ms - p) (suc p) (holds ms ts k)

-- the lines of the tokens after p, for codes below `codes`
abbrev pub inverted_after : (codes : ℕ) → (tokens text : List ℕ) → (p : ℕ) → List Line
inverted_after codes ms ts p = lines_from codes 0 (postings ms ts p)

-- 4,096 words and 65,536 characters
unfoldable pub inverted : (tokens text : List ℕ) → List Line
inverted ms ts = inverted_after most_keys ms ts 0

unfoldable pub line_numbers : Line → List ℕ
line_numbers l = l.key_of.kind ∷ l.key_of.value ∷ length l.positions ∷ []

abbrev pub line_positions : Line → List ℕ
line_positions l = l.positions

-- the index that the tokens of a text make, as numbers
unfoldable pub token_numbers : (tokens text : List ℕ) → List ℕ
token_numbers ms ts = numbers (length ts) (inverted ms ts)
