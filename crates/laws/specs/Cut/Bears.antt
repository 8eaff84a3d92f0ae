-- A key bears on a string exactly if it agrees with it at some offset. Assumes nothing.
use Rattle.std.specs.Prelude.{◌≡◌, true, ◌||◌, List, ℕ, ◌+◌, ◌≤◌, ◌<◌}
use Rattle.std.proofs.Math.Logic.{⊎_elim}
use Rattle.std.proofs.Common.{arith}
use Rattle.std.proofs.Math.ListN.{length}
use Rattle.basics.specs.Bools.{or_left, or_right, or_get, le_or_lt}
use Rattle.spec.specs.Cut.{lies_in, joins, bears}
use Rattle.laws.specs.Search.Agree.{Agree, agree_sym}
use Rattle.laws.specs.Search.Parts.{lies_in_get, lies_in_put, joins_get, joins_put, stand_agree, agree_stand, join_agree, agree_join}

module _ (k s : List ℕ) where
  pub bears_get : 1 ≤ length k → 1 ≤ length s → bears k s ≡ true → (a : ℕ) × (b : ℕ) × Agree s a k b
  unfolding bears
  bears_get k_some s_some t =
      ⊎_elim
      (λ (u : (lies_in s k || lies_in k s) ≡ true).
      ⊎_elim (λ (v : lies_in s k ≡ true). let h = lies_in_get s k v in (h.0, 1, stand_agree s_some h.1))
      (λ (v : lies_in k s ≡ true).
      let h = lies_in_get k s v in (1, h.0, agree_sym k h.0 s 1 (stand_agree k_some h.1)))
      (or_get (lies_in s k) (lies_in k s) u))
      (λ (u : (joins k s || joins s k) ≡ true).
      ⊎_elim (λ (v : joins k s ≡ true). let h = joins_get k s v in (h.0, 0, agree_sym k 0 s h.0 (join_agree h.1)))
      (λ (v : joins s k ≡ true). let h = joins_get s k v in (0, h.0, join_agree h.1))
      (or_get (joins k s) (joins s k) u))
      (or_get (lies_in s k || lies_in k s) (joins k s || joins s k) t)

  -- four cases: which of the two starts first, and which ends first
  pub bears_put : {a b : ℕ} → Agree s a k b → bears k s ≡ true
  unfolding bears
  bears_put {a} {b} h =
      ⊎_elim
      (λ (start : a ≤ b).
      ⊎_elim
      (λ (end : b + length k ≤ a + length s).
      or_left (joins k s || joins s k)
      (or_right (lies_in s k) (lies_in_put k s (agree_stand (agree_sym s a k b h) start end))))
      (λ (end : a + length s < b + length k).
      or_right (lies_in s k || lies_in k s)
      (or_right (joins k s) (joins_put s k (agree_join h start (omega arith)))))
      (le_or_lt (b + length k) (a + length s)))
      (λ (start : b < a).
      ⊎_elim
      (λ (end : a + length s ≤ b + length k).
      or_left (joins k s || joins s k)
      (or_left (lies_in k s) (lies_in_put s k (agree_stand h (omega arith) end))))
      (λ (end : b + length k < a + length s).
      or_right (lies_in s k || lies_in k s)
      (or_left (joins s k) (joins_put k s (agree_join (agree_sym s a k b h) (omega arith) (omega arith)))))
      (le_or_lt (a + length s) (b + length k)))
      (le_or_lt a b)
