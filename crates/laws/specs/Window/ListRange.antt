-- The positions of an ascending list that fall into a window of starts: a range of the list, between two lower bounds. Assumes nothing.
use Rattle.std.specs.Prelude.{◌≡◌, List, [], ◌∷◌, ℕ, zero, suc, ◌+◌, ◌-◌, ◌≤◌, ◌<◌, length, get_or}
use Rattle.std.proofs.Common.{arith}
use Rattle.basics.specs.Member.{in_getD}
use Rattle.spec.specs.Numbers.{line}
use Rattle.spec.specs.Index.{keys_of}
use Rattle.models.specs.Window.{positions_at}
use Rattle.laws.specs.Text.Facts.{Rise}
use Rattle.laws.specs.Numbers.FlatOrder.{rise_least}
use Rattle.basics.specs.LowerBound.{Rising, LowerBound}
use Rattle.laws.specs.Directory.Tables.{CanRead, line_is_good}

-- THE LISTS OF AN INDEX ASCEND

-- the list is nondecreasing
abbrev pub Ascending : List ℕ → Type 0
Ascending bs = Rising (λ i. get_or bs i 0) 0 (length bs)

-- r is the lower bound of c: the first index whose position is not below c
abbrev pub ListLowerBound : List ℕ → (c r : ℕ) → Type 0
ListLowerBound bs c r = LowerBound (λ i. get_or bs i 0) 0 (length bs) c r

rise_order : (a : ℕ) (ps : List ℕ) → Rise a ps → (i j : ℕ) → i ≤ j → j < length ps → get_or ps i 0 ≤ get_or ps j 0
rise_order a [] r i j l h = absurd (omega arith)
rise_order a (p ∷ ps) r zero zero l h = omega arith
rise_order a (p ∷ ps) r zero (suc j) l h =
    omega (arith, rise_least (suc p) ps (get_or ps j 0) r.1 (in_getD ps j 0 (omega arith)))
rise_order a (p ∷ ps) r (suc i) zero l h = absurd (omega arith)
rise_order a (p ∷ ps) r (suc i) (suc j) l h = rise_order (suc p) ps r.1 i j (omega arith) (omega arith)

pub rise_ascending : (a : ℕ) (ps : List ℕ) → Rise a ps → Ascending ps
rise_ascending a ps r = record { order = omega arith; rises = λ i j from l h. rise_order a ps r i j l h }

module _ {cs ls xs : List ℕ} (can : CanRead cs ls xs) (i : ℕ) (below : i < keys_of xs) where
  pub positions_rise : Ascending (positions_at xs i)
  unfolding line
  positions_rise = rise_ascending 1 (positions_at xs i) (line_is_good can i below).rise

  pub listed_rise : (bs : List ℕ) → bs ≡ positions_at xs i → Ascending bs
  listed_rise bs e = rw e positions_rise

-- THE RANGE OF A WINDOW

-- at this offset, the positions at indexes a to b − 1 of the list are those that fall into the window of n starts from q on
pub record WindowRange (bs : List ℕ) (i o q n a b : ℕ) : Type 0 where
  pub from : a ≤ length bs
  pub to : b ≤ length bs
  pub below : (k : ℕ) → k < a → get_or bs k 0 + i < q + o
  pub from_first : (k : ℕ) → a ≤ k → k < length bs → q + o ≤ get_or bs k 0 + i
  pub to_last : (k : ℕ) → k < b → get_or bs k 0 + i < n + (q + o)
  pub above : (k : ℕ) → b ≤ k → k < length bs → n + (q + o) ≤ get_or bs k 0 + i

pub window_range :
    {bs : List ℕ} {i o q n a b low high : ℕ} → low ≡ q + o - i → high ≡ q + o + n - i → ListLowerBound bs low a →
    ListLowerBound bs high b → WindowRange bs i o q n a b
window_range l h front back =
    record {
      from = front.to;
      to = back.to;
      below = λ k r. omega (arith, front.below k (omega arith) r);
      from_first = λ k m r. omega (arith, front.above k m r);
      to_last = λ k r. omega (arith, back.below k (omega arith) r);
      above = λ k m r. omega (arith, back.above k m r);
    }

-- the start that a position of the range falls on
module _ {bs : List ℕ} {i o q n a b : ℕ} (r : WindowRange bs i o q n a b) (k : ℕ) (from : a ≤ k) (to : k < b) where
  pub range_own : get_or bs k 0 + i - (q + o) + (q + o) ≡ get_or bs k 0 + i
  range_own = omega (arith, r.from_first k from (omega arith))

  pub range_inside : get_or bs k 0 + i - (q + o) < n
  range_inside = omega (arith, r.to_last k to, range_own)
