-- The first start found: in a window, and in one window after another. Assumes nothing.
use Rattle.std.specs.Prelude.{◌≡◌, Bool, length, get_or, drop, replicate}
use Rattle.std.proofs.Math.Path.{refl, sym, ap}
use Rattle.std.proofs.Common.{◌∙◌, add-zero, drop_of_length-le, le-leb}
use Rattle.std.proofs.Math.Bool.{true, false, cond}
use mathlib.Core.List.{List, [], ◌∷◌, ◌++◌}
use Prim.Native.Nat.{ℕ, zero, suc, ◌+◌, ◌-◌, ◌≤◌, ◌<◌}
use native.Mathlib.Omega.{arith}
use Rattle.std.proofs.lemmas.Bool.{lt-leb}
use Rattle.spec.specs.Dictionary.{Lexicon}
use Rattle.spec.specs.Numbers.{Line}
use Rattle.spec.specs.Index.{n_of, lines_in}
use Rattle.spec.specs.Search.{all_covered, found_from, find}
use Rattle.spec.specs.First.{first_of, first_position}
use Rattle.models.specs.Window.{found_in}
use Rattle.laws.specs.Search.Search.{found_from_append}
use Rattle.laws.specs.Window.Finding.{found_next}
use Rattle.laws.specs.Window.Extending.{WindowDone}
use Rattle.laws.specs.Window.Searching.{in_window, none_in_window}
use Rattle.laws.specs.TextScan.ReconstructedSearch.{Finds}

-- r is the first found of the n starts from q on, 0 if none is
pub record FirstIn (lex : Lexicon) (xs s : List ℕ) (n q r : ℕ) : Type 0 where
  pub is : r ≡ first_of (found_from n q lex (lines_in xs) s)

-- A WINDOW WITHOUT A HIT, SO FAR

-- none of its first i starts has a reach of m or more
pub record NoneBefore (m q : ℕ) (rs : List ℕ) (i : ℕ) : Type 0 where
  pub within : i ≤ length rs
  pub passed : found_in m q rs ≡ found_in m (q + i) (drop i rs)

module _ (m q : ℕ) (rs : List ℕ) where
  pub none_before_start : NoneBefore m q rs 0
  none_before_start = record { within = omega arith; passed = rw (add-zero q) }

  module _ {i : ℕ} (h : NoneBefore m q rs i) where
    module _ (below : i < length rs) where
      pub none_before_step : get_or rs i 0 < m → NoneBefore m q rs (i + 1)
      none_before_step far =
          record { within = omega arith; passed = h.passed ∙ (rw (lt-leb m (get_or rs i 0) far) at (found_next m q rs i below)) }

      pub first_here : m ≤ get_or rs i 0 → q + i ≡ first_of (found_in m q rs)
      unfolding first_of
      first_here near =
          sym (ap first_of (h.passed ∙ (rw (le-leb m (get_or rs i 0) near) at (found_next m q rs i below))))

    pub first_none : length rs ≤ i → 0 ≡ first_of (found_in m q rs)
    unfolding first_of found_in
    first_none past = sym (ap first_of (h.passed ∙ ap (found_in m (q + i)) (drop_of_length-le rs past)))

-- THE STARTS OF A WINDOW

-- by what was done to a cleared window
module _ (n : ℕ) {lex : Lexicon} {xs s : List ℕ} {q : ℕ} {old rs : List ℕ} {max_reach : ℕ} (clear : old ≡ replicate n 0)
    (done : WindowDone lex xs s q old rs max_reach) where
  pub first_in_window : {r : ℕ} → r ≡ first_of (found_in (length s) q rs) → FirstIn lex xs s n q r
  first_in_window e = record { is = e ∙ ap first_of (in_window n clear done) }

  -- no reach comes to the string's end
  pub first_in_none : max_reach < length s → FirstIn lex xs s n q 0
  unfolding first_of
  first_in_none early = record { is = sym (ap first_of (none_in_window n clear done early)) }

-- by a window whose reaches are right for the index
pub first_in_told :
    {lex : Lexicon} {xs s : List ℕ} {n : ℕ} (rs : List ℕ) → Finds lex xs s rs → length rs ≡ n → {r : ℕ} →
    r ≡ first_of (found_in (length s) 1 rs) → FirstIn lex xs s n 1 r
first_in_told {lex} {xs} {s} rs finds len e =
    record { is = e ∙ ap first_of (finds ∙ ap (λ (k : ℕ). found_from k 1 lex (lines_in xs) s) len) }

-- ONE WINDOW AFTER ANOTHER

first_append : (ps qs : List ℕ) (r : ℕ) → r ≡ first_of ps → (r ≡ 0 → ⊥) → r ≡ first_of (ps ++ qs)
unfolding first_of
first_append [] qs r e some = absurd (some e)
first_append (p ∷ ps) qs r e some = e

module _ (lex : Lexicon) (ls : List Line) (s : List ℕ) where
  -- positions are from 1, so nothing is found if the first is 0
  none_first : (n q : ℕ) → 1 ≤ q → first_of (found_from n q lex ls s) ≡ 0 → found_from n q lex ls s ≡ []
  unfolding found_from first_of
  none_first zero q from e = refl
  none_first (suc n) q from e =
      go (all_covered (length s) q lex ls s q) (none_first n (suc q) (omega arith)) e
    where
      go :
          (b : Bool) → (first_of (found_from n (suc q) lex ls s) ≡ 0 → found_from n (suc q) lex ls s ≡ []) →
          first_of (cond b (q ∷ found_from n (suc q) lex ls s) (found_from n (suc q) lex ls s)) ≡ 0 →
          cond b (q ∷ found_from n (suc q) lex ls s) (found_from n (suc q) lex ls s) ≡ []
      go true ih z = absurd (omega arith)
      go false ih z = ih z

  -- the first position is at most the end of the starts
  first_bound : (n q : ℕ) → first_of (found_from n q lex ls s) ≤ q + n
  unfolding found_from first_of
  first_bound zero q = omega arith
  first_bound (suc n) q = go (all_covered (length s) q lex ls s q) (first_bound n (suc q))
    where
      go :
          (b : Bool) → first_of (found_from n (suc q) lex ls s) ≤ suc q + n →
          first_of (cond b (q ∷ found_from n (suc q) lex ls s) (found_from n (suc q) lex ls s)) ≤ q + suc n
      go true ih = omega arith
      go false ih = omega (arith, ih)

module _ {lex : Lexicon} {xs s : List ℕ} {n a : ℕ} (b : ℕ) {q : ℕ} (all : n ≡ a + b) {r : ℕ} (near : FirstIn lex xs s a q r) where
  -- found in the first of two windows
  pub first_in_first : (r ≡ 0 → ⊥) → FirstIn lex xs s n q r
  first_in_first some =
      let first = first_append (found_from a q lex (lines_in xs) s) (found_from b (q + a) lex (lines_in xs) s) r near.is some in
      record { is = rw (all, found_from_append lex (lines_in xs) s a b q) first }

  -- not found in the first
  pub first_in_second : 1 ≤ q → r ≡ 0 → {t : ℕ} → FirstIn lex xs s b (q + a) t → FirstIn lex xs s n q t
  first_in_second from none far =
      let nothing = none_first lex (lines_in xs) s a q from (sym near.is ∙ none) in
      record { is = rw (all, found_from_append lex (lines_in xs) s a b q, nothing) far.is }

-- ALL STARTS at which the string fits

pub first_in_all :
    {lex : Lexicon} {xs s : List ℕ} {starts r : ℕ} → starts ≡ suc (n_of xs) - length s → FirstIn lex xs s starts 1 r →
    r ≡ first_position lex xs s
unfolding first_position find
first_in_all e h = rw e at h.is

-- the answer is at most n + 2, even for an empty string
pub first_position_small : (lex : Lexicon) (xs s : List ℕ) → first_position lex xs s ≤ n_of xs + 2
unfolding first_position find
first_position_small lex xs s = omega (arith, first_bound lex (lines_in xs) s (suc (n_of xs) - length s) 1)
