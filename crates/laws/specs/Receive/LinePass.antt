-- A pass over the directory lines that changes a list line by line, given where each line's positions are: its start, a step, its end.
-- Assumes nothing.
use Rattle.std.specs.Prelude.{◌≡◌, List, [], ◌∷◌, ℕ, ◌+◌, ◌*◌, ◌-◌, ◌≤◌, length, take, drop}
use Rattle.std.proofs.Math.Path.{refl}
use Rattle.std.proofs.Common.{sym, ap, ◌∙◌, arith}
use Rattle.spec.specs.Numbers.{Line, line}
use Rattle.spec.specs.Index.{header, keys_of, count_at, counts_from, lines_in}
use Rattle.models.specs.Window.{list_start, line_of}
use Rattle.laws.specs.Numbers.DirectoryWalk.{lines_next, lines_none, counts_next, IsLine}

-- ONE LINE

-- the part of the index that is lent
pub line_positions :
    {xs : List ℕ} {i kind value from to : ℕ} → IsLine xs i kind value from to →
    take (to - from) (drop from xs) ≡ (line_of xs i).positions
unfolding line
line_positions {xs} {i} {from} {to} h =
    let z : to - from ≡ count_at xs i = omega arith in
    rw (z, h.line.from_is)

-- LINE AFTER LINE

-- Before line i, whose positions start at `at`: applying the lines from i on to `now` gives what applying all lines to `old` gives.
pub record Passing (make : ℕ → List Line → List ℕ → List ℕ) (xs old now : List ℕ) (at i : ℕ) : Type 0 where
  pub within : i ≤ keys_of xs
  pub at_is : at ≡ list_start xs i
  pub left : make i (drop i (lines_in xs)) now ≡ make 0 (lines_in xs) old
  pub len : length now ≡ length old

module _ {make : ℕ → List Line → List ℕ → List ℕ} {xs old : List ℕ} where
  pub passing_start : {at : ℕ} → at ≡ header + 3 * keys_of xs → Passing make xs old old at 0
  unfolding counts_from
  passing_start e = record { within = omega arith; at_is = omega arith; left = refl; len = refl }

  module _ {now : List ℕ} {at i : ℕ} (h : Passing make xs old now at i) where
    pub passing_step :
        {kind value from to : ℕ} → IsLine xs i kind value from to → (next : List ℕ) → length next ≡ length now →
        make i (line_of xs i ∷ drop (i + 1) (lines_in xs)) now ≡ make (i + 1) (drop (i + 1) (lines_in xs)) next →
        Passing make xs old next to (i + 1)
    passing_step is next kept e =
        record {
          within = omega arith;
          at_is = omega (arith, counts_next i xs);
          left = sym e ∙ sym (ap (λ (ls : List Line). make i ls now) (lines_next xs i is.below)) ∙ h.left;
          len = kept ∙ h.len;
        }

    pub passing_end : keys_of xs ≤ i → make i [] now ≡ now → now ≡ make 0 (lines_in xs) old
    passing_end past done = sym done ∙ sym (ap (λ (ls : List Line). make i ls now) (lines_none xs i past)) ∙ h.left
