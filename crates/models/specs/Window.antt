-- The search of a window of starts: every reach extended at once, and the starts found. Assumes nothing.
use Rattle.std.specs.Prelude.{Bool, cond, List, [], ◌∷◌, suc, zero, ℕ, ◌*◌, ◌+◌, ◌-◌, leb, drop, get_or, length, take}
use Rattle.basics.specs.Steps.{any_from, those_from}
use Rattle.spec.specs.Dictionary.{Lexicon}
use Rattle.spec.specs.Index.{count_at, counts_from, header, key_at, keys_of}
use Rattle.spec.specs.Numbers.{Line, line}
use Rattle.spec.specs.Search.{agrees}
use Rattle.spec.specs.Words.{spells}
use Rattle.models.specs.Reach.{extend, reach_back, reach_key, reach_leading, reach_offset, reach_offsets, reach_positions}

-- each reach changed as a function of its start and itself
unfoldable pub extended : (step : ℕ → ℕ → ℕ) → (first : ℕ) → (reaches : List ℕ) → List ℕ
extended f q [] = []
extended f q (r ∷ rs) = f q r ∷ extended f (suc q) rs

-- the starts whose reach is at least m
unfoldable pub found_in : (m first : ℕ) → (reaches : List ℕ) → List ℕ
found_in m q [] = []
found_in m q (r ∷ rs) = cond (leb m r) (q ∷ found_in m (suc q) rs) (found_in m (suc q) rs)

unfoldable pub extend_all : (i o len first b : ℕ) → (reaches : List ℕ) → List ℕ
extend_all i o l q b = extended (λ p r. extend i o l p b r) q

unfoldable pub positions_all : (i o len first : ℕ) → (positions reaches : List ℕ) → List ℕ
positions_all i o l q bs = extended (λ p r. reach_positions i o l p bs r) q

unfoldable pub key_all : (i o : ℕ) → (string key : List ℕ) → (first : ℕ) → (positions reaches : List ℕ) → List ℕ
key_all i o s k q bs = extended (λ p r. reach_key i o s k p bs r) q

unfoldable pub back_all : (left i : ℕ) → (string key : List ℕ) → (first : ℕ) → (positions reaches : List ℕ) → List ℕ
back_all n i s k q bs = extended (λ p r. reach_back n i s k p bs r) q

unfoldable pub leading_all : Lexicon → List Line → (string : List ℕ) → (first : ℕ) → (reaches : List ℕ) → List ℕ
leading_all lex ls s q = extended (λ p r. reach_leading lex ls s p r) q

unfoldable pub offset_all : (o : ℕ) → Lexicon → List Line → (string : List ℕ) → (first : ℕ) → (reaches : List ℕ) → List ℕ
offset_all o lex ls s q = extended (λ p r. reach_offset o lex ls s p r) q

unfoldable pub offsets_all : (left o : ℕ) → Lexicon → List Line → (string : List ℕ) → (first : ℕ) → (reaches : List ℕ) → List ℕ
offsets_all n o lex ls s q = extended (λ p r. reach_offsets n o lex ls s p r) q

-- how many reaches are at least m
unfoldable pub count_in : (m : ℕ) → (reaches : List ℕ) → ℕ
count_in m [] = 0
count_in m (r ∷ rs) = cond (leb m r) 1 0 + count_in m rs

-- a field of line i: 0 its kind, 1 its value, 2 its count
abbrev pub field_at : (numbers : List ℕ) → (field i : ℕ) → ℕ
field_at xs f i = get_or xs (header + 3 * i + f) 0

-- the index at which the positions of line i start
abbrev pub list_start : (numbers : List ℕ) → (i : ℕ) → ℕ
list_start xs i = header + 3 * keys_of xs + counts_from i 0 xs

-- the positions of line i
abbrev pub positions_at : (numbers : List ℕ) → (i : ℕ) → List ℕ
positions_at xs i = take (count_at xs i) (drop (list_start xs i) xs)

-- line i, its key with its positions
abbrev pub line_of : (numbers : List ℕ) → (i : ℕ) → Line
line_of xs i = line (key_at xs i) (positions_at xs i)

unfoldable pub run_from : (step : ℕ → List ℕ → List ℕ) → (left i : ℕ) → (reaches : List ℕ) → List ℕ
run_from f zero i rs = rs
run_from f (suc n) i rs = run_from f n (suc i) (f i rs)

-- the steps a to b − 1
abbrev pub run : (step : ℕ → List ℕ → List ℕ) → (a b : ℕ) → (reaches : List ℕ) → List ℕ
run f a b = run_from f (b - a) a

-- the key of line i at the offset o
unfoldable pub offset_at : (o : ℕ) → Lexicon → (numbers string : List ℕ) → (first i : ℕ) → (reaches : List ℕ) → List ℕ
offset_at o lex xs s q i rs = key_all 0 o s (spells lex (key_at xs i)) q (positions_at xs i) rs

-- the key of line i at the offsets of 0 and below
unfoldable pub leading_at : Lexicon → (numbers string : List ℕ) → (first i : ℕ) → (reaches : List ℕ) → List ℕ
leading_at lex xs s q i rs =
    back_all (length (spells lex (key_at xs i))) 0 s (spells lex (key_at xs i)) q (positions_at xs i) rs

-- whether the key of line i agrees with the string at the offset o
abbrev pub agrees_line : (o : ℕ) → Lexicon → (numbers string : List ℕ) → (i : ℕ) → Bool
agrees_line o lex xs s i = agrees s 0 (spells lex (key_at xs i)) o

-- those of the lines a to b − 1 that do, ascending
unfoldable pub agreeing_lines : (o : ℕ) → Lexicon → (numbers string : List ℕ) → (a b : ℕ) → List ℕ
agreeing_lines o lex xs s a b = those_from (b - a) a (agrees_line o lex xs s)

-- whether a key agrees with the string at some offset of −m or below
unfoldable pub agrees_leading : (m : ℕ) → (string key : List ℕ) → Bool
agrees_leading m s k = any_from (length k - m) m (λ i. agrees s i k 0)

-- whether the key of line i does
abbrev pub is_leading : (m : ℕ) → Lexicon → (numbers string : List ℕ) → (i : ℕ) → Bool
is_leading m lex xs s i = agrees_leading m s (spells lex (key_at xs i))

-- those of the first w lines that do, ascending
unfoldable pub leading_lines : (m : ℕ) → Lexicon → (numbers string : List ℕ) → (w : ℕ) → List ℕ
leading_lines m lex xs s w = those_from w 0 (is_leading m lex xs s)

-- the steps of the listed numbers, one after another
unfoldable pub run_list : (step : ℕ → List ℕ → List ℕ) → (numbers reaches : List ℕ) → List ℕ
run_list f [] rs = rs
run_list f (i ∷ is) rs = run_list f is (f i rs)
