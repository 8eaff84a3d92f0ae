-- Reception as it is done: the text reconstructed from the entries, the line map, and the test by the scan. Assumes nothing.
use Rattle.std.specs.Prelude.{Bool, cond, true, false, ◌&&◌, ◌||◌, List, [], ◌∷◌, suc}
use Rattle.std.specs.Prelude.{ℕ, ◌+◌, ◌-◌, eqb, ltb, get_or, length, replicate, set}
use Rattle.std.proofs.lemmas.List.Edits.{sets}
use Rattle.spec.specs.Replaced.{is_full_width}
use Rattle.spec.specs.Dictionary.{Lexicon}
use Rattle.spec.specs.Index.{entries_of, key_at}
use Rattle.spec.specs.Numbers.{Line}
use Rattle.spec.specs.Words.{Entry, Key, key, same_key, spells}
use Rattle.models.specs.Entries.{flat, longest_at}
use Rattle.models.specs.Scan.{make_index, scan}

-- a string written at each position of a list; position p is at index p − 1
unfoldable pub reconstruct_positions : (string positions text : List ℕ) → List ℕ
reconstruct_positions s [] us = us
reconstruct_positions s (p ∷ ps) us = reconstruct_positions s ps (sets us (p - 1) s)

-- each entry's characters written at its position
unfoldable pub reconstruct : Lexicon → List Entry → (text : List ℕ) → List ℕ
reconstruct lex [] us = us
reconstruct lex (e ∷ es) us = reconstruct lex es (sets us (e.at - 1) (spells lex e.key_of))

-- a value stored at each position of a list; position p is at index p − 1
unfoldable pub fill_positions : (value : ℕ) → (positions line_map : List ℕ) → List ℕ
fill_positions m [] ns = ns
fill_positions m (p ∷ ps) ns = fill_positions m ps (set ns (p - 1) m)

-- i + 1 at the positions of line i, from line i on
unfoldable pub fill_line_map : (i : ℕ) → List Line → (line_map : List ℕ) → List ℕ
fill_line_map i [] ns = ns
fill_line_map i (l ∷ ls) ns = fill_line_map (suc i) ls (fill_positions (suc i) l.positions ns)

-- the number mapped to position p, from 1
unfoldable pub mapped_at : (line_map : List ℕ) → (p : ℕ) → ℕ
mapped_at ns p = get_or ns (p - 1) 0

-- the line mapped to an entry's position has the entry's key
unfoldable pub mapped_right : (line_for : ℕ → ℕ) → (numbers : List ℕ) → Entry → Bool
mapped_right line_for xs e = ltb 0 (line_for e.at) && same_key (key_at xs (line_for e.at - 1)) e.key_of

unfoldable pub all_mapped : (line_for : ℕ → ℕ) → (numbers : List ℕ) → List Entry → Bool
all_mapped line_for xs [] = true
all_mapped line_for xs (e ∷ es) = mapped_right line_for xs e && all_mapped line_for xs es

-- the reception test: every entry that the scan of us registers is mapped to its key, and there are M
unfoldable pub verify : Lexicon → (line_for : ℕ → ℕ) → (numbers text : List ℕ) → Bool
verify lex line_for xs us = all_mapped line_for xs (make_index lex us) && eqb (length (make_index lex us)) (entries_of xs)

-- what is left of the test at position p, with the last registered end and the number of entries registered
unfoldable pub verify_from : Lexicon → (line_for : ℕ → ℕ) → (numbers text : List ℕ) → (left p last count : ℕ) → Bool
verify_from lex line_for xs us left p last count =
    all_mapped line_for xs (scan (longest_at lex us) left p last)
    && eqb (count + length (scan (longest_at lex us) left p last)) (entries_of xs)

-- the key of a token, c being the character there
unfoldable pub token_key : (token c : ℕ) → Key
token_key m c = cond (eqb m 4097) (key 1 c) (key 0 (m - 1))

-- the mapped line has the token's key
unfoldable pub token_mapped : (numbers : List ℕ) → (mapped token c : ℕ) → Bool
token_mapped xs n m c = ltb 0 n && same_key (key_at xs (n - 1)) (token_key m c)

-- a lone key that is a full-width form
unfoldable pub form_key : Key → Bool
form_key k = eqb k.kind 1 && is_full_width k.value

-- one of the lines has such a key
unfoldable pub some_form_key : List Line → Bool
some_form_key [] = false
some_form_key (l ∷ ls) = form_key l.key_of || some_form_key ls

-- the text that lines reconstruct over n sentinels
abbrev pub reconstructed_over : Lexicon → List Line → (n sentinel : ℕ) → List ℕ
reconstructed_over lex ls n g = reconstruct lex (flat lex ls) (replicate {A = ℕ} n g)
