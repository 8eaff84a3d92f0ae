-- Lower bound by bisection: the first index at which a nondecreasing function is at least c. Assumes nothing.
use Rattle.std.specs.Prelude.{ℕ, ◌+◌, ◌-◌, ◌≤◌, ◌<◌}
use Rattle.std.proofs.Common.{arith}

-- f is nondecreasing from lo to hi − 1
pub record Rising (f : ℕ → ℕ) (lo hi : ℕ) : Type 0 where
  pub order : lo ≤ hi
  pub rises : (i j : ℕ) → lo ≤ i → i ≤ j → j < hi → f i ≤ f j

-- r is the lower bound: the first index at which f is at least c, or hi
pub record LowerBound (f : ℕ → ℕ) (lo hi c r : ℕ) : Type 0 where
  pub from : lo ≤ r
  pub to : r ≤ hi
  pub below : (i : ℕ) → lo ≤ i → i < r → f i < c
  pub above : (i : ℕ) → r ≤ i → i < hi → c ≤ f i

-- the lower bound is not before a and not after b
pub record Bisected (f : ℕ → ℕ) (lo hi c a b : ℕ) : Type 0 where
  pub from : lo ≤ a
  pub order : a ≤ b
  pub to : b ≤ hi
  pub below : (i : ℕ) → lo ≤ i → i < a → f i < c
  pub above : (i : ℕ) → b ≤ i → i < hi → c ≤ f i

-- there is no index
pub bound_none : {f : ℕ → ℕ} (hi c : ℕ) → LowerBound f hi hi c hi
bound_none hi c =
    record { from = omega arith; to = omega arith; below = λ i a b. absurd (omega arith); above = λ i a b. absurd (omega arith) }

module _ {f : ℕ → ℕ} {lo hi : ℕ} (h : Rising f lo hi) where
  pub rising_part : {a : ℕ} → lo ≤ a → a ≤ hi → Rising f a hi
  rising_part l r = record { order = r; rises = λ i j p q s. h.rises i j (omega arith) q s }

  module _ (c : ℕ) where
    -- f is at least c at the first index already
    pub bound_first : lo < hi → c ≤ f lo → LowerBound f lo hi c lo
    bound_first some l =
        record {
          from = omega arith;
          to = h.order;
          below = λ i a b. absurd (omega arith);
          above = λ i a b. omega (arith, h.rises lo i (omega arith) a b);
        }

    -- f is below c at the last index
    pub bound_last : lo < hi → f (hi - 1) < c → LowerBound f lo hi c hi
    bound_last some l =
        record {
          from = h.order;
          to = omega arith;
          below = λ i a b. omega (arith, h.rises i (hi - 1) a (omega arith) (omega arith));
          above = λ i a b. absurd (omega arith);
        }

    pub bisected_start : Bisected f lo hi c lo hi
    bisected_start =
        record {
          from = omega arith;
          order = h.order;
          to = omega arith;
          below = λ i l r. absurd (omega arith);
          above = λ i l r. absurd (omega arith);
        }

    module _ {a b : ℕ} (s : Bisected f lo hi c a b) where
      pub bisected_end : b ≤ a → LowerBound f lo hi c a
      bisected_end done =
          record {
            from = s.from;
            to = omega arith;
            below = s.below;
            above = λ i l r. s.above i (omega arith) r;
          }

      module _ (m : ℕ) (l : a ≤ m) (r : m < b) where
        pub bisected_up : f m < c → Bisected f lo hi c (m + 1) b
        bisected_up q =
            record {
              from = omega arith;
              order = omega arith;
              to = s.to;
              below = λ i x y. omega (arith, h.rises i m x (omega arith) (omega arith));
              above = s.above;
            }

        pub bisected_down : c ≤ f m → Bisected f lo hi c a m
        bisected_down q =
            record {
              from = s.from;
              order = l;
              to = omega arith;
              below = s.below;
              above = λ i x y. omega (arith, h.rises m i (omega arith) x y);
            }
