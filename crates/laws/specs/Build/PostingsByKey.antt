-- The positions that tokens have under each key code, and how many lines and entries they make. Assumes nothing.
use Rattle.std.specs.Prelude.{◌≡◌, Bool, true, false, cond, List, [], ◌∷◌, get_or}
use Rattle.std.proofs.Common.{sym, ap}
use Prim.Native.Nat.{ℕ, zero, suc, ◌+◌, ◌-◌, ◌≤◌, ◌<◌}
use native.Mathlib.Omega.{arith}
use Rattle.std.proofs.Math.ListN.{length}
use borrow.Author.Tests.{eq-eqb, ne_eqb}
use Rattle.basics.specs.Member.{In}
use Rattle.basics.specs.Steps.{those_from, those_from_get}
use Rattle.spec.specs.Numbers.{Line, all_positions}
use Rattle.models.specs.Inversion.{coded, holds, postings, inverted_after}
use Rattle.laws.specs.Build.PostingLists.{lines_empty, lines_alike, Grown, OneMore, lines_grow}

-- THE POSITIONS OF A CODE

pub those_short : (n p : ℕ) (f : ℕ → Bool) → length (those_from n p f) ≤ n
unfolding those_from
those_short zero p f = omega arith
those_short (suc n) p f = go (f p) (those_short n (suc p) f)
  where
    go : (b : Bool) → length (those_from n (suc p) f) ≤ n → length (cond b (p ∷ those_from n (suc p) f) (those_from n (suc p) f)) ≤ suc n
    go true h = omega arith
    go false h = omega arith

module _ (ms ts : List ℕ) where
  pub postings_end : (p k : ℕ) → length ms ≤ p → postings ms ts p k ≡ []
  unfolding postings those_from
  postings_end p k h =
      let none : length ms - p ≡ 0 = omega arith in
      rw none

  -- position p + 1, at index p
  module _ (p k : ℕ) (below : p < length ms) where
    pub postings_here : coded (get_or ms p 0) (get_or ts p 0) ≡ suc k → postings ms ts p k ≡ suc p ∷ postings ms ts (suc p) k
    unfolding postings those_from
    postings_here e =
        let left : length ms - p ≡ suc (length ms - suc p) = omega arith in
        let position : suc p - 1 ≡ p = omega arith in
        rw (left, position, eq-eqb (coded (get_or ms p 0) (get_or ts p 0)) (suc k) e)

    pub postings_not_here : (coded (get_or ms p 0) (get_or ts p 0) ≡ suc k → ⊥) → postings ms ts p k ≡ postings ms ts (suc p) k
    unfolding postings those_from
    postings_not_here e =
        let left : length ms - p ≡ suc (length ms - suc p) = omega arith in
        let position : suc p - 1 ≡ p = omega arith in
        rw (left, position, ne_eqb (coded (get_or ms p 0) (get_or ts p 0)) (suc k) e)

  pub postings_range : (p k x : ℕ) → In x (postings ms ts p k) → (p < x) × (x ≤ p + (length ms - p))
  unfolding postings
  postings_range p k x m =
      let r = those_from_get (length ms - p) (suc p) (holds ms ts k) x m in
      (r.0, omega arith)

-- THE COUNTS

-- the lines of the tokens after p, each of which has at least one position
pub record Counted (codes : ℕ) (ms ts : List ℕ) (p keys entries : ℕ) : Type 0 where
  pub keys_are : keys ≡ length (inverted_after codes ms ts p)
  pub entries_are : entries ≡ length (all_positions (inverted_after codes ms ts p))
  pub few_keys : keys ≤ entries
  pub few_entries : entries + p ≤ length ms

pub counted_start : (codes : ℕ) (ms ts : List ℕ) → Counted codes ms ts (length ms) 0 0
unfolding all_positions
counted_start codes ms ts =
    record {
      keys_are = ap length (sym none);
      entries_are = ap (λ (l : List Line). length (all_positions l)) (sym none);
      few_keys = omega arith;
      few_entries = omega arith;
    }
  where
    none : inverted_after codes ms ts (length ms) ≡ []
    none = lines_empty codes 0 (postings ms ts (length ms)) (λ x lo hi. postings_end ms ts (length ms) x (omega arith))

module _ {codes : ℕ} {ms ts : List ℕ} {q : ℕ} (p : ℕ) (s : q ≡ suc p) (below : p < length ms) {keys entries : ℕ}
    (c : Counted codes ms ts q keys entries) where
  pub counted_passed : coded (get_or ms p 0) (get_or ts p 0) ≡ 0 → Counted codes ms ts p keys entries
  counted_passed none =
      record {
        keys_are = rw alike c.keys_are;
        entries_are = rw alike c.entries_are;
        few_keys = c.few_keys;
        few_entries = omega arith;
      }
    where
      alike : inverted_after codes ms ts p ≡ inverted_after codes ms ts q
      alike =
          lines_alike codes 0 (postings ms ts p) (postings ms ts q)
          (λ x lo hi.
          rw s (postings_not_here ms ts p x below (λ (e : coded (get_or ms p 0) (get_or ts p 0) ≡ suc x). omega arith)))

  module _ (code : ℕ) (here : coded (get_or ms p 0) (get_or ts p 0) ≡ suc code) (fits : code < codes) where
    grown : Grown (postings ms ts q code) (inverted_after codes ms ts q) (inverted_after codes ms ts p)
    grown =
        let one : OneMore (postings ms ts q) (postings ms ts p) code (suc p) =
        record {
          more = rw s (postings_here ms ts p code below here);
          same =
              λ x other.
              rw s (postings_not_here ms ts p x below (λ (e : coded (get_or ms p 0) (get_or ts p 0) ≡ suc x). other (omega arith)));
        } in
        lines_grow one codes 0 (omega arith) (omega arith)

    -- the code had no position yet
    pub counted_new : postings ms ts q code ≡ [] → Counted codes ms ts p (keys + 1) (entries + 1)
    counted_new none =
        record {
          keys_are = omega (arith, c.keys_are, grown.new_line none);
          entries_are = omega (arith, c.entries_are, grown.one_more);
          few_keys = omega (arith, c.few_keys);
          few_entries = omega (arith, c.few_entries);
        }

    pub counted_more : 1 ≤ length (postings ms ts q code) → Counted codes ms ts p keys (entries + 1)
    counted_more some =
        record {
          keys_are = omega (arith, c.keys_are, grown.same_lines some);
          entries_are = omega (arith, c.entries_are, grown.one_more);
          few_keys = omega (arith, c.few_keys);
          few_entries = omega (arith, c.few_entries);
        }
