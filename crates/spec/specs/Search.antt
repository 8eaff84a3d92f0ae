-- Search of an index without its text: which entries agree with a string laid at a position, and which positions are found. Assumes
-- nothing: these are definitions.
use Rattle.std.specs.Prelude.{Bool, true, false, ◌&&◌, ◌||◌, not, cond, List, [], ◌∷◌, ℕ, zero, suc}
use Rattle.std.specs.Prelude.{◌+◌, ◌-◌, min, max, ltb, eqb, length, get_or, ℤ, pos, negsuc, neg_ℤ, ◌-ℤ◌}
use Rattle.std.proofs.Math.IntN.{suc_ℤ, pred_ℤ}
use Rattle.std.specs.Int.Signed.{le_z}
use Rattle.spec.specs.Dictionary.{Lexicon}
use Rattle.spec.specs.Words.{spells}
use Rattle.spec.specs.Numbers.{Line}
use Rattle.spec.specs.Index.{n_of, lines_in}
use Rattle.spec.specs.Reception.{lies_on}

-- AGREEMENT, document 01's term (the field's: a match on the overlap)

-- "overlap in at least one position": a string laid at a and an entry at b
unfoldable pub overlaps : (string : List ℕ) → (a : ℕ) → (entry : List ℕ) → (b : ℕ) → Bool
overlaps s a e b = ltb (max a b) (min (a + length s) (b + length e))

-- "carry equal characters wherever both lie": at p and the positions after it
unfoldable pub equal_from : (left p : ℕ) → (string : List ℕ) → (a : ℕ) → (entry : List ℕ) → (b : ℕ) → Bool
equal_from zero p s a e b = true
equal_from (suc n) p s a e b =
    (not (lies_on a (length s) p && lies_on b (length e) p) || eqb (get_or s (p - a) 0) (get_or e (p - b) 0))
    && equal_from n (suc p) s a e b

-- "An entry agrees with it if the two overlap in at least one position and carry equal characters wherever both lie."
unfoldable pub agrees : (string : List ℕ) → (a : ℕ) → (entry : List ℕ) → (b : ℕ) → Bool
agrees s a e b = overlaps s a e b && equal_from (length s) a s a e b

-- THE OFFSET of a key against the string: the entry's position less the position where the string is laid

unfoldable pub offset : (b a : ℕ) → ℤ
offset b a = pos b -ℤ pos a

-- "runs from minus its length, plus 1, up to m − 1 (at either end they share one place)"
unfoldable pub in_offsets : (key string : List ℕ) → ℤ → Bool
in_offsets k s o = le_z (suc_ℤ (neg_ℤ (pos (length k)))) o && le_z o (pred_ℤ (pos (length s)))

-- "0 means both begin together": where the string and the key begin when the first of them begins at 0
unfoldable pub string_start : ℤ → ℕ
string_start (pos o) = 0
string_start (negsuc o) = suc o

unfoldable pub key_start : ℤ → ℕ
key_start (pos o) = o
key_start (negsuc o) = 0

-- agreement at an offset
unfoldable pub agrees_at : (key string : List ℕ) → ℤ → Bool
agrees_at k s o = agrees s (string_start o) k (key_start o)

-- SEARCH

-- an entry of this string, at one of the positions, agrees and covers p
unfoldable pub covers : (string : List ℕ) → (a p : ℕ) → (entry positions : List ℕ) → Bool
covers s a p e [] = false
covers s a p e (b ∷ bs) = (lies_on b (length e) p && agrees s a e b) || covers s a p e bs

-- p "is covered by an entry that agrees"
unfoldable pub covered : Lexicon → List Line → (string : List ℕ) → (a p : ℕ) → Bool
covered lex [] s a p = false
covered lex (l ∷ ls) s a p = covers s a p (spells lex l.key_of) l.positions || covered lex ls s a p

-- p and the positions after it are covered
unfoldable pub all_covered : (left p : ℕ) → Lexicon → List Line → (string : List ℕ) → (a : ℕ) → Bool
all_covered zero p lex ls s a = true
all_covered (suc n) p lex ls s a = covered lex ls s a p && all_covered n (suc p) lex ls s a

-- "Position p is found exactly if each of p to p + m − 1 is covered by an entry that agrees."
unfoldable pub found_from : (left p : ℕ) → Lexicon → List Line → (string : List ℕ) → List ℕ
found_from zero p lex ls s = []
found_from (suc n) p lex ls s =
    cond (all_covered (length s) p lex ls s p) (p ∷ found_from n (suc p) lex ls s) (found_from n (suc p) lex ls s)

-- "Lay the string of length m at p, with 1 ≤ p and p + m − 1 ≤ n."
unfoldable pub find : Lexicon → (numbers string : List ℕ) → List ℕ
find lex xs s = found_from (suc (n_of xs) - length s) 1 lex (lines_in xs) s
