-- Hash chains in a table of links: a head is 0 or one more than a number, and each number's link is the head of what comes after it.
-- Adding a number to a chain, the numbers of one bucket, and a walk along a chain. Assumes nothing.
use Rattle.std.specs.Prelude.{◌≡◌, refl, Bool, cond, ◌⊎◌, List, [], ◌∷◌, length, get_or, set}
use Rattle.std.proofs.Common.{sym, ◌∙◌, inl, inr, length-set, get_or-set_same, get_or-set_other}
use Rattle.std.proofs.Math.Bool.{true, false}
use Rattle.std.proofs.Math.Logic.{⊎_elim}
use Prim.Native.Nat.{ℕ, zero, suc, ◌-◌, ◌≤◌, ◌<◌}
use native.Mathlib.Omega.{arith}
use Rattle.std.proofs.Math.Dec.{eqb}
use borrow.Author.Tests.{eqb-true, eqb-false, eq-eqb}
use Rattle.basics.specs.Bools.{true_or_false}
use Rattle.basics.specs.Member.{In, in_cond_get, in_cond_here, in_cond_there}
use Rattle.models.specs.MatchTable.{chained}

-- CHAINS

-- the links lead from `head` through exactly these numbers, in this order
abbrev pub Chain : (links : List ℕ) (head : ℕ) → List ℕ → Type 0
Chain links h [] = h ≡ 0
Chain links h (x ∷ xs) = (h ≡ suc x) × (x < length links) × Chain links (get_or links x 0) xs

-- a link that the chain does not use may change
pub chain_set :
    (links : List ℕ) (i v h : ℕ) (xs : List ℕ) → (In i xs → ⊥) → Chain links h xs → Chain (set links i v) h xs
chain_set links i v h [] out c = c
chain_set links i v h (x ∷ xs) out c = (
  c.0,
  rw (length-set links i v) c.1,
  rw (get_or-set_other links i x v 0 (λ (e : x ≡ i). out (inl (sym e))))
      (chain_set links i v (get_or links x 0) xs (λ (m : In i xs). out (inr m)) c.2),
)

-- a number that is not in the chain becomes its first
pub chain_chain :
    (links : List ℕ) (i h : ℕ) (xs : List ℕ) → i < length links → (In i xs → ⊥) → Chain links h xs →
    Chain (set links i h) (suc i) (i ∷ xs)
chain_chain links i h xs b out c = (
  refl,
  rw (length-set links i h) b,
  rw (get_or-set_same links i h 0 b) (chain_set links i h h xs out c),
)

-- THE NUMBERS OF ONE BUCKET, chained in ascending order, so the chain is descending

-- strictly descending numbers below k
abbrev pub Descending : (k : ℕ) → List ℕ → Type 0
Descending k [] = Unit
Descending k (x ∷ xs) = (x < k) × Descending x xs

pub fall_below : (k : ℕ) (xs : List ℕ) (j : ℕ) → Descending k xs → In j xs → j < k
fall_below k [] j f m = absurd m
fall_below k (x ∷ xs) j f (inl e) = omega arith
fall_below k (x ∷ xs) j f (inr m) = omega (arith, fall_below x xs j f.1 m)

pub fall_more : (k l : ℕ) (xs : List ℕ) → k ≤ l → Descending k xs → Descending l xs
fall_more k l [] h f = tt
fall_more k l (x ∷ xs) h f = (omega arith, f.1)

module _ (f : ℕ → ℕ) (b : ℕ) where
  pub chained_falls : (n : ℕ) → Descending n (chained f b n)
  unfolding chained
  chained_falls zero = tt
  chained_falls (suc n) = cases (eqb (f n) b) (chained_falls n)
    where
      cases : (t : Bool) → Descending n (chained f b n) → Descending (suc n) (cond t (n ∷ chained f b n) (chained f b n))
      cases true more = (omega arith, more)
      cases false more = fall_more n (suc n) (chained f b n) (omega arith) more

  pub chained_get : (n j : ℕ) → In j (chained f b n) → f j ≡ b
  unfolding chained
  chained_get zero j m = absurd m
  chained_get (suc n) j m =
      ⊎_elim (λ (h : (eqb (f n) b ≡ true) × (j ≡ n)). rw h.1 (eqb-true (f n) b h.0)) (λ (h : In j (chained f b n)). chained_get n j h)
      (in_cond_get j n (chained f b n) (eqb (f n) b) m)

  pub chained_put : (n j : ℕ) → j < n → f j ≡ b → In j (chained f b n)
  unfolding chained
  chained_put zero j h e = absurd (omega arith)
  chained_put (suc n) j h e =
      ⊎_elim
      (λ (t : eqb j n ≡ true).
      let same : j ≡ n = eqb-true j n t in
      rw same (in_cond_here n (chained f b n) (eqb (f n) b) (eq-eqb (f n) b (rw same at e))))
      (λ (t : eqb j n ≡ false).
      let other : j ≡ n → ⊥ = eqb-false j n t in
      in_cond_there j n (chained f b n) (eqb (f n) b) (chained_put n j (omega (arith, other)) e))
      (true_or_false (eqb j n))

  -- the next number joins the chain of its bucket: its link is the old head, and it is the new one
  module _ (links : List ℕ) (n h : ℕ) (c : Chain links h (chained f b n)) where
    new : In n (chained f b n) → ⊥
    new m = omega (arith, fall_below n (chained f b n) n (chained_falls n) m)

    pub chained_here : n < length links → f n ≡ b → Chain (set links n h) (suc n) (chained f b (suc n))
    unfolding chained
    chained_here room e = rw (eq-eqb (f n) b e) (chain_chain links n h (chained f b n) room new c)

    pub chained_elsewhere : (v : ℕ) → (f n ≡ b → ⊥) → Chain (set links n v) h (chained f b (suc n))
    unfolding chained
    chained_elsewhere v ne =
        ⊎_elim (λ (t : eqb (f n) b ≡ true). absurd (ne (eqb-true (f n) b t)))
        (λ (t : eqb (f n) b ≡ false). rw t (chain_set links n v h (chained f b n) new c)) (true_or_false (eqb (f n) b))

-- A WALK ALONG THE CHAIN OF A BUCKET

-- `next` leads to numbers of bucket b; for every other number of the bucket below n, already visited, Q holds
pub record Walk (links : List ℕ) (f : ℕ → ℕ) (b n : ℕ) (Q : ℕ → Type 0) (next : ℕ) : Type 0 where
  pub ahead : List ℕ
  pub chain : Chain links next ahead
  pub falls : Descending n ahead
  pub mine : (j : ℕ) → In j ahead → f j ≡ b
  pub rest : (j : ℕ) → j < n → f j ≡ b → In j ahead ⊎ Q j

-- what holds at a number of the bucket
pub record Stop (links : List ℕ) (f : ℕ → ℕ) (b n : ℕ) (Q : ℕ → Type 0) (next : ℕ) : Type 0 where
  pub below : next ≤ n
  pub linked : next - 1 < length links
  pub mine : f (next - 1) ≡ b
  pub falls : get_or links (next - 1) 0 < next
  -- a number not visited yet is before it or is it
  pub left : (j : ℕ) → j < n → f j ≡ b → (j < next) ⊎ Q j
  pub onward : Q (next - 1) → Walk links f b n Q (get_or links (next - 1) 0)

module _ {links : List ℕ} {f : ℕ → ℕ} {b n : ℕ} {Q : ℕ → Type 0} where
  pub walk_start : {next : ℕ} → Chain links next (chained f b n) → Walk links f b n Q next
  walk_start c =
      record {
        ahead = chained f b n;
        chain = c;
        falls = chained_falls f b n;
        mine = chained_get f b n;
        rest = λ j l e. inl (chained_put f b n j l e);
      }

  stop_at :
      (next : ℕ) (xs : List ℕ) → (next ≡ 0 → ⊥) → Chain links next xs → Descending n xs → ((j : ℕ) → In j xs → f j ≡ b) →
      ((j : ℕ) → j < n → f j ≡ b → In j xs ⊎ Q j) → Stop links f b n Q next
  stop_at next [] some c fall mine rest = absurd (some c)
  stop_at next (x ∷ xs) some c fall mine rest =
      record {
        below = omega arith;
        linked = rw at c.1;
        mine = rw at (mine x (inl refl));
        falls = rw at (lower xs c.2 fall.1);
        left = λ j l e. ⊎_elim (λ (m : In j (x ∷ xs)). inl (omega (arith, fall_below (suc x) (x ∷ xs) j (omega arith, fall.1) m)))
            (λ (q : Q j). inr q) (rest j l e);
        onward = onward;
      }
    where
      at : next - 1 ≡ x
      at = omega arith

      lower : (ys : List ℕ) → Chain links (get_or links x 0) ys → Descending x ys → get_or links x 0 < next
      lower [] d g = omega (arith, d)
      lower (y ∷ ys) d g = omega arith

      onward : Q (next - 1) → Walk links f b n Q (get_or links (next - 1) 0)
      onward q =
          record {
            ahead = xs;
            chain = rw at c.2;
            falls = fall_more x n xs (omega arith) fall.1;
            mine = λ j m. mine j (inr m);
            rest = λ j l e. passed j (rest j l e);
          }
        where
          passed : (j : ℕ) → In j (x ∷ xs) ⊎ Q j → In j xs ⊎ Q j
          passed j (inl (inl e)) = inr (rw (e ∙ sym at) q)
          passed j (inl (inr m)) = inl m
          passed j (inr p) = inr p

  pub walk_stop : {next : ℕ} → Walk links f b n Q next → (next ≡ 0 → ⊥) → Stop links f b n Q next
  walk_stop {next} w some = stop_at next w.ahead some w.chain w.falls w.mine w.rest

  pub walk_end : Walk links f b n Q 0 → (j : ℕ) → j < n → f j ≡ b → Q j
  walk_end w j l e = ⊎_elim (λ (m : In j w.ahead). absurd (none w.ahead w.chain m)) (λ (q : Q j). q) (w.rest j l e)
    where
      none : (xs : List ℕ) → Chain links 0 xs → In j xs → ⊥
      none [] c m = m
      none (x ∷ xs) c m = omega arith
