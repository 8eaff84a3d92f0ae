-- The search algorithm for one start p, as a function: the length of the string's covered prefix, extended key by key and offset by
-- offset. `ReachExact` says what it decides. Assumes nothing.
use Rattle.std.specs.Prelude.{◌≡◌, Bool, true, false, cond, eqb, length}
use Rattle.std.proofs.Math.Path.{refl}
use mathlib.Core.List.{List, [], ◌∷◌}
use Prim.Native.Nat.{ℕ, zero, suc, ◌+◌, ◌-◌, ◌<◌, max}
use Rattle.std.proofs.Common.{arith}
use Rattle.std.proofs.lemmas.Bool.{lt-leb}
use Rattle.spec.specs.Dictionary.{Lexicon}
use Rattle.spec.specs.Words.{spells}
use Rattle.spec.specs.Numbers.{Line}
use Rattle.spec.specs.Search.{agrees}
use Rattle.models.specs.Reach.{extend, reach_positions, reach_key, reach_offset, reach_offsets}

-- WHEN THE REACH IS UNCHANGED

-- by a key that does not agree
pub reach_key_apart : (i o : ℕ) (s k : List ℕ) (p : ℕ) (bs : List ℕ) (r : ℕ) → agrees s i k o ≡ false → reach_key i o s k p bs r ≡ r
unfolding reach_key
reach_key_apart i o s k p bs r f = rw f

-- if the reach is below the offset

extend_stop : (i o l p b r : ℕ) → r < o → extend i o l p b r ≡ r
unfolding extend
extend_stop i o l p b r h = by_test (eqb (b + i) (p + o)) _ (lt-leb o _ (omega arith))
  where
    by_test : (t u : Bool) → u ≡ false → cond t (cond u (max r ((o + l) - i)) r) r ≡ r
    by_test true u f = rw f
    by_test false u f = refl

pub reach_positions_stop : (i o l p : ℕ) (bs : List ℕ) (r : ℕ) → r < o → reach_positions i o l p bs r ≡ r
unfolding reach_positions
reach_positions_stop i o l p [] r h = refl
reach_positions_stop i o l p (b ∷ bs) r h = rw (extend_stop i o l p b r h) (reach_positions_stop i o l p bs r h)

pub reach_key_stop : (i o : ℕ) (s k : List ℕ) (p : ℕ) (bs : List ℕ) (r : ℕ) → r < o → reach_key i o s k p bs r ≡ r
unfolding reach_key
reach_key_stop i o s k p bs r h = rw (reach_positions_stop i o (length k) p bs r h) (by_test (agrees s i k o))
  where
    by_test : (t : Bool) → cond t r r ≡ r
    by_test true = refl
    by_test false = refl

module _ (lex : Lexicon) (s : List ℕ) (p : ℕ) where
  pub reach_offset_stop : (ls : List Line) (o r : ℕ) → r < o → reach_offset o lex ls s p r ≡ r
  unfolding reach_offset
  reach_offset_stop [] o r h = refl
  reach_offset_stop (l ∷ ls) o r h =
      rw (reach_key_stop 0 o s (spells lex l.key_of) p l.positions r h) (reach_offset_stop ls o r h)

  pub reach_offsets_stop : (ls : List Line) (n o r : ℕ) → r < o → reach_offsets n o lex ls s p r ≡ r
  unfolding reach_offsets
  reach_offsets_stop ls zero o r h = refl
  reach_offsets_stop ls (suc n) o r h = rw (reach_offset_stop ls o r h) (reach_offsets_stop ls n (suc o) r (omega arith))
