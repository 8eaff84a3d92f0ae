-- The first found position: it is the head of the ascending list, the first at which the string stands, and depends on few entries.
-- Assumes nothing.
use Rattle.std.specs.Prelude.{◌≡◌, refl, false, List, [], ◌∷◌, ℕ, suc, ◌+◌, ◌-◌, ◌≤◌, ◌<◌, length}
use Rattle.std.proofs.Common.{sym, ap, inl, inr, ⊎_elim, arith}
use Rattle.basics.specs.Bools.{clash, false_put, le_or_lt}
use Rattle.basics.specs.Member.{In}
use Rattle.spec.specs.Dictionary.{Lexicon}
use Rattle.spec.specs.Words.{stands}
use Rattle.spec.specs.Index.{lines_in}
use Rattle.spec.specs.Search.{find}
use Rattle.spec.specs.First.{first_of, first_position}
use Rattle.spec.specs.FurtherTheorems.{ExactlyPositions, FirstStands}
use Rattle.spec.specs.FirstTheorems.{IsFirst, SameTo}
use Rattle.laws.specs.Text.Facts.{Rise}
use Rattle.laws.specs.Numbers.FlatOrder.{rise_least}
use Rattle.laws.specs.Readable.IndexOf.{under_flat}
use Rattle.laws.specs.Search.Search.{covered_get, covered_put}
use Rattle.laws.specs.Search.Positions.{find_rise, find_get, find_put}

-- THE HEAD

-- the head of ascending positions is the least of them
pub first_of_rising : (ps : List ℕ) → Rise 1 ps → IsFirst ps (first_of ps)
unfolding first_of
first_of_rising [] r =
    record { none = λ e. refl; empty = λ e. refl; among = λ h. absurd (omega arith); least = λ a m. absurd m }
first_of_rising (p ∷ ps) r =
    record {
      none = λ e. absurd (omega arith);
      empty = λ e. let none : suc (length ps) ≡ 0 = ap length e in absurd (omega arith);
      among = λ h. inl refl;
      least = least;
    }
  where
    least : (a : ℕ) → In a (p ∷ ps) → p ≤ a
    least a (inl e) = omega arith
    least a (inr m) = omega (arith, rise_least (suc p) ps a r.1 m)

pub first_heads_find : (lex : Lexicon) (xs s : List ℕ) → IsFirst (find lex xs s) (first_position lex xs s)
unfolding first_position
first_heads_find lex xs s = first_of_rising (find lex xs s) (find_rise lex xs s)

-- there is one least position
pub first_only : {ps : List ℕ} {p : ℕ} (q : ℕ) → IsFirst ps p → In q ps → ((a : ℕ) → In a ps → q ≤ a) → p ≡ q
first_only {ps} {p} q first m least =
    ⊎_elim
    (λ (some : 1 ≤ p). omega (arith, first.least q m, least p (first.among some)))
    (λ (few : p < 1). let none : ps ≡ [] = first.none (omega arith) in absurd (rw none at m))
    (le_or_lt 1 p)

-- of positions that are exactly those of a string in a text, the least is the first at which it stands
pub first_stands : {s ts ps : List ℕ} {p : ℕ} → ExactlyPositions s ts ps → IsFirst ps p → FirstStands s ts p
first_stands {s} {ts} {ps} {p} exactly first =
    record {
      none = λ e a. false_put (stands s ts a) (λ t. let none : ps ≡ [] = first.none e in rw none at (exactly.all a t));
      nowhere = nowhere;
      at_it = λ some. exactly.only p (first.among some);
      least = λ a t. first.least a (exactly.all a t);
    }
  where
    nowhere : ((a : ℕ) → stands s ts a ≡ false) → p ≡ 0
    nowhere never =
        ⊎_elim
        (λ (some : 1 ≤ p). clash (exactly.only p (first.among some)) (never p))
        (λ (few : p < 1). omega arith)
        (le_or_lt 1 p)

-- THE ENTRIES IT DEPENDS ON

-- Only entries that start at or before the string's last character cover a start, so those are enough.
module _ (lex : Lexicon) {xs ys : List ℕ} (s : List ℕ) {q : ℕ} (same : SameTo q xs ys) where
  pub found_there : (a : ℕ) → a + length s ≤ suc q → In a (find lex xs s) → In a (find lex ys s)
  found_there a ends m =
      let h = find_get lex xs s a m in
      find_put lex ys s
      (record {
        from = h.from;
        within = omega arith;
        each =
            λ x lo hi.
            let e = covered_get lex (lines_in xs) s a x (h.each x lo hi) in
            covered_put lex (lines_in ys) s a x
            (record {
              among =
                  under_flat lex xs ys e.0 (same.there e.0.key_of e.0.at (omega arith)) e.1.among;
              from = e.1.from;
              to = e.1.to;
              agree = e.1.agree;
            });
      })

module _ (lex : Lexicon) (xs ys s : List ℕ) (p : ℕ) (some : 1 ≤ p) (same : SameTo (p + length s - 1) xs ys) where
  -- what is found first in one slice is found first in the other
  pub first_there : p ≡ first_position lex xs s → first_position lex ys s ≡ p
  first_there is =
      first_only p (first_heads_find lex ys s) (found_there lex s same p (omega arith) here) least
    where
      back : SameTo (p + length s - 1) ys xs
      back = record { n_is = sym same.n_is; there = same.back; back = same.there }

      here : In p (find lex xs s)
      here = rw (← is) at ((first_heads_find lex xs s).among (omega (arith, is)))

      least : (a : ℕ) → In a (find lex ys s) → p ≤ a
      least a m =
          ⊎_elim (λ (h : p ≤ a). h)
          (λ (h : a < p).
          omega (
            arith,
            is,
            (first_heads_find lex xs s).least a (found_there lex s back a (omega arith) m),
          ))
          (le_or_lt p a)
