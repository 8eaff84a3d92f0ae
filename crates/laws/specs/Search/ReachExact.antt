-- The reach of the search algorithm comes to the string's end exactly if every position under it is covered. Assumes nothing.
use Rattle.std.specs.Prelude.{◌≡◌, List, leb, length}
use Rattle.std.proofs.Common.{sym, ◌∙◌, arith}
use Prim.Native.Nat.{ℕ, zero, suc, ◌+◌, ◌-◌, ◌≤◌, ◌<◌}
use Rattle.basics.specs.Steps.{those_from, those_from_alike}
use Rattle.spec.specs.Dictionary.{Lexicon}
use Rattle.spec.specs.Numbers.{Line}
use Rattle.spec.specs.Search.{all_covered, found_from}
use Rattle.models.specs.Reach.{reach_leading, reach_offset, reach_offsets, reach}
use Rattle.laws.specs.Search.Cover.{AtOffsets, at_offsets_none, at_offsets_then, at_offsets_reached, Reached, reached_exact}
use Rattle.laws.specs.Search.Search.{found_at, found_from_those}
use Rattle.laws.specs.Search.Reach.{reach_offset_stop, reach_offsets_stop}
use Rattle.laws.specs.Search.ReachExtends.{reach_leading_extends, reach_offset_extends}

module _ (lex : Lexicon) (ls : List Line) (s : List ℕ) (p : ℕ) where
  pub reach_offsets_at_offsets : (n o r : ℕ) → AtOffsets lex ls s p n o r (reach_offsets n o lex ls s p r)
  unfolding reach_offsets
  reach_offsets_at_offsets zero o r = at_offsets_none lex ls s p o r
  reach_offsets_at_offsets (suc n) o r =
      at_offsets_then lex ls s p o (reach_offset_extends ls o r (λ e m. m)) (reach_offsets_at_offsets n (suc o) t) stop
    where
      t : ℕ
      t = reach_offset o lex ls s p r

      stop : r < o → reach_offsets n (suc o) lex ls s p t ≡ r
      stop h = rw (reach_offset_stop lex s p ls o r h) (reach_offsets_stop lex s p ls n (suc o) r (omega arith))

  pub reach_reached : Reached lex ls s p (reach lex ls s p)
  unfolding reach
  reach_reached =
      let t = reach_leading lex ls s p 0 in
      at_offsets_reached lex ls s p (reach_leading_extends ls 0 (λ e m. m)) (reach_offsets_at_offsets (length s - 1) 1 t)

  -- The reach comes to the string's end exactly if every position under it is covered by an entry that agrees.
  pub reach_exact : leb (length s) (reach lex ls s p) ≡ all_covered (length s) p lex ls s p
  reach_exact = reached_exact reach_reached

-- the starts whose reach comes to the string's end are those found, however the reach is computed
pub found_reached :
    (lex : Lexicon) (ls : List Line) (s : List ℕ) (n q : ℕ) (f : ℕ → ℕ) →
    ((p : ℕ) → q ≤ p → p < q + n → Reached lex ls s p (f p)) → found_from n q lex ls s ≡ those_from n q (λ p. leb (length s) (f p))
found_reached lex ls s n q f reached =
    found_from_those lex ls s n q
    ∙ those_from_alike n q (found_at lex ls s) (λ p. leb (length s) (f p)) (λ p lo hi. sym (reached_exact (reached p lo hi)))

pub found_reach :
    (lex : Lexicon) (ls : List Line) (s : List ℕ) (n q : ℕ) →
    found_from n q lex ls s ≡ those_from n q (λ p. leb (length s) (reach lex ls s p))
found_reach lex ls s n q = found_reached lex ls s n q (reach lex ls s) (λ p lo hi. reach_reached lex ls s p)
