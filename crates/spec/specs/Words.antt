-- Keys, entries, the complete index of a text and its complete maximal word index. Assumes nothing: these are definitions.
use Rattle.std.specs.Prelude.{Bool, true, false, ◌&&◌, ◌||◌, not, cond, List, [], ◌∷◌, ◌++◌}
use Rattle.std.specs.Prelude.{ℕ, zero, suc, ◌+◌, ◌-◌, leb, eqb, length, get_or, take, drop}
use Rattle.spec.specs.Dictionary.{Lexicon}

-- KEYS

-- Key, document 01's term (the field's: index term). "A key is a word (kind 0, its word number) or a lone character (kind 1,
-- the character)."
pub record Key : Type 0 where
  pub kind : ℕ
  pub value : ℕ

unfoldable pub key : (kind value : ℕ) → Key
key k v = record { kind = k; value = v }

-- "Two characters are equal exactly if their numbers are."
unfoldable pub same : (a b : List ℕ) → Bool
same [] [] = true
same [] (y ∷ ys) = false
same (x ∷ xs) [] = false
same (x ∷ xs) (y ∷ ys) = eqb x y && same xs ys

-- a string is one of the words
unfoldable pub listed : (string : List ℕ) → (words : List (List ℕ)) → Bool
listed w [] = false
listed w (v ∷ vs) = same w v || listed w vs

-- a string is "itself a word"
unfoldable pub is_word : Lexicon → (string : List ℕ) → Bool
is_word lex w = listed w lex.words

-- Spells, document 01's term (the field's: the string of a term). "Each key spells a string: its word, or the one character."
unfoldable pub spells : Lexicon → Key → List ℕ
spells lex k = cond (eqb k.kind 0) (get_or lex.words k.value []) (k.value ∷ [])

-- ENTRIES

-- Stands, document 01's term (the field's: occurs).
-- "A string of m characters, m at least 1, stands at p in it exactly if 1 ≤ p, p + m − 1 ≤ n, and its characters in order equal
-- those at p to p + m − 1."
unfoldable pub stands : (string text : List ℕ) → (p : ℕ) → Bool
stands s ts p = (leb 1 p && leb (p + length s) (suc (length ts))) && same (take (length s) (drop (p - 1) ts)) s

-- Entry, document 01's term (the field's: posting). "An entry is a key and a position at which the key's string stands in the text."
-- `len` is the length of that string.
pub record Entry : Type 0 where
  pub key_of : Key
  pub at : ℕ
  pub len : ℕ

unfoldable pub entry : Key → (at len : ℕ) → Entry
entry k p l = record { key_of = k; at = p; len = l }

-- "One entry contains another if it starts no later and ends no earlier."
unfoldable pub contains : Entry → Entry → Bool
contains e f = leb e.at f.at && leb (f.at + f.len) (e.at + e.len)

-- equal kind and value
unfoldable pub same_key : Key → Key → Bool
same_key a b = eqb a.kind b.kind && eqb a.value b.value

-- An entry is its key and position: two entries are the same if both are.
unfoldable pub same_entry : Entry → Entry → Bool
same_entry e f = same_key e.key_of f.key_of && eqb e.at f.at

-- THE COMPLETE INDEX: "the set of all entries"

-- the entries of one key at p and the positions after it
unfoldable pub key_entries : (left p : ℕ) → Key → (string text : List ℕ) → List Entry
key_entries zero p k s ts = []
key_entries (suc n) p k s ts = cond (stands s ts p) (entry k p (length s) ∷ key_entries n (suc p) k s ts) (key_entries n (suc p) k s ts)

-- the entries of these words, which are numbered from `number` on
unfoldable pub word_entries : (number : ℕ) → List (List ℕ) → (text : List ℕ) → List Entry
word_entries i [] ts = []
word_entries i (w ∷ ws) ts = key_entries (length ts) 1 (key 0 i) w ts ++ word_entries (suc i) ws ts

-- Lone character, document 01's term (the field's: out-of-vocabulary character).
-- "A character that is itself a word is never a lone key."
unfoldable pub lone_entries : (at : ℕ) → Lexicon → (rest : List ℕ) → List Entry
lone_entries p lex [] = []
lone_entries p lex (c ∷ cs) =
    cond (is_word lex (c ∷ [])) (lone_entries (suc p) lex cs) (entry (key 1 c) p 1 ∷ lone_entries (suc p) lex cs)

-- all entries: those of the words, then those of lone characters
unfoldable pub complete : Lexicon → (text : List ℕ) → List Entry
complete lex ts = word_entries 0 lex.words ts ++ lone_entries 1 lex ts

-- THE COMPLETE MAXIMAL WORD INDEX: "the set of those contained in no other entry"

-- another entry, one of the list, contains this one
unfoldable pub in_another : Entry → List Entry → Bool
in_another e [] = false
in_another e (f ∷ fs) = (not (same_entry e f) && contains f e) || in_another e fs

-- the entries of `rest` that no other entry of `all` contains
unfoldable pub maximal : (all rest : List Entry) → List Entry
maximal es [] = []
maximal es (f ∷ fs) = cond (in_another f es) (maximal es fs) (f ∷ maximal es fs)

-- the complete maximal word index, as a set of entries
unfoldable pub entries : Lexicon → (text : List ℕ) → List Entry
entries lex ts = maximal (complete lex ts) (complete lex ts)
