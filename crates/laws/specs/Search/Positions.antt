-- The positions at which a string stands, and the positions found: ascending, each once, and which they are. Assumes nothing.
use Rattle.std.specs.Prelude.{◌≡◌, Bool, true, false, cond, List, ◌∷◌, ltb}
use Prim.Native.Nat.{ℕ, zero, suc, ◌+◌, ◌-◌, ◌≤◌, ◌<◌}
use Rattle.std.proofs.Common.{arith}
use Rattle.std.proofs.Math.ListN.{length}
use Rattle.basics.specs.Member.{In}
use Rattle.basics.specs.Order.{Ascend}
use Rattle.basics.specs.Steps.{those_from, those_from_get, those_from_put}
use Rattle.spec.specs.Dictionary.{Lexicon}
use Rattle.spec.specs.Words.{stands}
use Rattle.spec.specs.Numbers.{Line}
use Rattle.spec.specs.Index.{n_of, lines_in}
use Rattle.spec.specs.Search.{covered, find}
use Rattle.spec.specs.Theorems.{positions}
use Rattle.laws.specs.Text.Strings.{Stand, stands_get, stands_put}
use Rattle.laws.specs.Text.Facts.{Rise}
use Rattle.laws.specs.Numbers.FlatOrder.{rise_least, rise_more, rise_ascends}
use Rattle.laws.specs.Search.Search.{found_at_get, found_at_put, found_at, found_from_those, positions_from_those}

-- ASCENDING

pub those_from_rise : (n p : ℕ) (f : ℕ → Bool) → Rise p (those_from n p f)
unfolding those_from
those_from_rise zero p f = tt
those_from_rise (suc n) p f = by_test (f p) (those_from_rise n (suc p) f)
  where
    by_test :
        (b : Bool) → Rise (suc p) (those_from n (suc p) f) → Rise p (cond b (p ∷ those_from n (suc p) f) (those_from n (suc p) f))
    by_test true later = (omega arith, later)
    by_test false later = rise_more (suc p) p (those_from n (suc p) f) later
        (λ q m. omega (arith, rise_least (suc p) (those_from n (suc p) f) q later m))

-- WHERE THE STRING STANDS

module _ (s ts : List ℕ) where
  positions_those : positions s ts ≡ those_from (length ts) 1 (stands s ts)
  unfolding positions
  positions_those = positions_from_those s ts (length ts) 1

  pub positions_rise : Rise 1 (positions s ts)
  positions_rise = rw positions_those (those_from_rise (length ts) 1 (stands s ts))

  pub positions_ascend : Ascend ltb (positions s ts)
  positions_ascend = rise_ascends 1 (positions s ts) positions_rise

  pub positions_get : (p : ℕ) → In p (positions s ts) → Stand s ts p
  positions_get p m = stands_get s ts p (those_from_get (length ts) 1 (stands s ts) p (rw positions_those at m)).2

  pub positions_put : 1 ≤ length s → {p : ℕ} → Stand s ts p → In p (positions s ts)
  positions_put some {p} st =
      rw positions_those
      (those_from_put (length ts) 1 (stands s ts) p st.from (omega arith) (stands_put s ts p st))

-- FOUND

-- p is found: the string fits there, and each position under it is covered by an entry that agrees
pub record IsFound (lex : Lexicon) (ls : List Line) (n : ℕ) (s : List ℕ) (p : ℕ) : Type 0 where
  pub from : 1 ≤ p
  pub within : p + length s ≤ suc n
  pub each : (x : ℕ) → p ≤ x → x < p + length s → covered lex ls s p x ≡ true

module _ (lex : Lexicon) (xs s : List ℕ) where
  pub find_rise : Rise 1 (find lex xs s)
  unfolding find
  find_rise =
      rw (found_from_those lex (lines_in xs) s (suc (n_of xs) - length s) 1)
      (those_from_rise (suc (n_of xs) - length s) 1 (found_at lex (lines_in xs) s))

  pub find_get : (p : ℕ) → In p (find lex xs s) → IsFound lex (lines_in xs) (n_of xs) s p
  unfolding find
  find_get p m =
      let starts = suc (n_of xs) - length s in
      let h = those_from_get starts 1 (found_at lex (lines_in xs) s) p (rw (found_from_those lex (lines_in xs) s starts 1) at m) in
      record {
        from = h.0;
        within = omega arith;
        each = found_at_get lex (lines_in xs) s p h.2;
      }

  pub find_put : {p : ℕ} → IsFound lex (lines_in xs) (n_of xs) s p → In p (find lex xs s)
  unfolding find
  find_put {p} h =
      let starts = suc (n_of xs) - length s in
      rw (found_from_those lex (lines_in xs) s starts 1)
      (those_from_put starts 1 (found_at lex (lines_in xs) s) p h.from (omega arith) (found_at_put lex (lines_in xs) s p h.each))
