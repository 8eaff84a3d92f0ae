-- The search for one start, as a function: the reach, extended key by key; and what is claimed of it. Assumes nothing.
use Rattle.std.specs.Prelude.{cond, List, [], ◌∷◌, ◌≡◌, max, suc, zero, ℕ, ◌+◌, ◌-◌, eqb, leb, length}
use Rattle.spec.specs.Dictionary.{Lexicon}
use Rattle.spec.specs.Numbers.{Line}
use Rattle.spec.specs.Search.{agrees, all_covered}
use Rattle.spec.specs.Words.{spells}

-- An offset is two starts, of the string (i) and of the key (o), one of them 0.

-- an entry at b of a key of this length: if it is at this offset and the reach comes to the key's start, it extends the reach to the
-- key's end
unfoldable pub extend : (i o len p b reach : ℕ) → ℕ
extend i o l p b r = cond (eqb (b + i) (p + o)) (cond (leb o r) (max r ((o + l) - i)) r) r

unfoldable pub reach_positions : (i o len p : ℕ) → (positions : List ℕ) → (reach : ℕ) → ℕ
reach_positions i o l p [] r = r
reach_positions i o l p (b ∷ bs) r = reach_positions i o l p bs (extend i o l p b r)

-- one key at one offset
unfoldable pub reach_key : (i o : ℕ) → (string key : List ℕ) → (p : ℕ) → (positions : List ℕ) → (reach : ℕ) → ℕ
reach_key i o s k p bs r = cond (agrees s i k o) (reach_positions i o (length k) p bs r) r

-- one key at the offsets −i, −i − 1, ..
unfoldable pub reach_back : (left i : ℕ) → (string key : List ℕ) → (p : ℕ) → (positions : List ℕ) → (reach : ℕ) → ℕ
reach_back zero i s k p bs r = r
reach_back (suc n) i s k p bs r = reach_back n (suc i) s k p bs (reach_key i 0 s k p bs r)

-- the leading keys: every key at every offset of 0 or below
unfoldable pub reach_leading : Lexicon → List Line → (string : List ℕ) → (p reach : ℕ) → ℕ
reach_leading lex [] s p r = r
reach_leading lex (l ∷ ls) s p r =
    reach_leading lex ls s p (reach_back (length (spells lex l.key_of)) 0 s (spells lex l.key_of) p l.positions r)

-- every key at one offset o above 0
unfoldable pub reach_offset : (o : ℕ) → Lexicon → List Line → (string : List ℕ) → (p reach : ℕ) → ℕ
reach_offset o lex [] s p r = r
reach_offset o lex (l ∷ ls) s p r = reach_offset o lex ls s p (reach_key 0 o s (spells lex l.key_of) p l.positions r)

unfoldable pub reach_offsets : (left o : ℕ) → Lexicon → List Line → (string : List ℕ) → (p reach : ℕ) → ℕ
reach_offsets zero o lex ls s p r = r
reach_offsets (suc n) o lex ls s p r = reach_offsets n (suc o) lex ls s p (reach_offset o lex ls s p r)

unfoldable pub reach : Lexicon → List Line → (string : List ℕ) → (p : ℕ) → ℕ
reach lex ls s p = reach_offsets (length s - 1) 1 lex ls s p (reach_leading lex ls s p 0)

-- For any lines, the reach comes to the string's end exactly if every position under it is covered by an entry that agrees.
unfoldable pub GreedyCover : Type 0
GreedyCover =
    (lex : Lexicon) (ls : List Line) (s : List ℕ) (p : ℕ) →
    leb (length s) (reach lex ls s p) ≡ all_covered (length s) p lex ls s p
