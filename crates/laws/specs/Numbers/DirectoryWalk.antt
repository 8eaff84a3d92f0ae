-- Walks over the directory: the next line, where its positions start, and a line by value. Assumes nothing.
use Rattle.std.specs.Prelude.{◌≡◌, List, [], ◌∷◌, ℕ, zero, suc, ◌+◌, ◌*◌, ◌-◌, ◌≤◌, ◌<◌, length, drop}
use Rattle.std.proofs.Common.{add-one, drop_of_length-le, drop-cons}
use native.Mathlib.Omega.{arith}
use Rattle.spec.specs.Index.{header, greatest_number, keys_of, kind_at, value_at, count_at, counts_from, entries_of, lines_in}
use Rattle.models.specs.Entries.{no_line}
use Rattle.models.specs.Window.{list_start, line_of}
use Rattle.laws.specs.Numbers.Slices.{Fits}
use Rattle.laws.specs.Numbers.LineNumbers.{length_lines_in, getD_lines_in}

-- LINES

counts_snoc : (k i : ℕ) (xs : List ℕ) → counts_from (suc k) i xs ≡ counts_from k i xs + count_at xs (i + k)
unfolding counts_from
counts_snoc zero i xs = let z : i + 0 ≡ i = omega arith in rw z (omega arith)
counts_snoc (suc k) i xs =
    let z : i + suc k ≡ suc i + k = omega arith in
    rw z (omega (arith, counts_snoc k (suc i) xs))

pub counts_next : (i : ℕ) (xs : List ℕ) → counts_from (i + 1) 0 xs ≡ counts_from i 0 xs + count_at xs i
counts_next i xs = let z : 0 + i ≡ i = omega arith in rw (add-one i) (rw z at (counts_snoc i 0 xs))

counts_split : (a b i : ℕ) (xs : List ℕ) → counts_from (a + b) i xs ≡ counts_from a i xs + counts_from b (i + a) xs
unfolding counts_from
counts_split zero b i xs =
    let z : 0 + b ≡ b = omega arith in
    let y : i + 0 ≡ i = omega arith in
    rw (z, y) (omega arith)
counts_split (suc a) b i xs =
    let z : suc a + b ≡ suc (a + b) = omega arith in
    let y : i + suc a ≡ suc i + a = omega arith in
    rw (z, y) (omega (arith, counts_split a b (suc i) xs))

module _ (xs : List ℕ) (i : ℕ) (below : i < keys_of xs) where
  -- the lines from i on start with line i
  pub lines_next : drop i (lines_in xs) ≡ line_of xs i ∷ drop (i + 1) (lines_in xs)
  lines_next =
      rw (add-one i, ← getD_lines_in xs i below) (drop-cons (lines_in xs) i no_line (omega (arith, length_lines_in xs)))

  -- and its positions lie within the slice
  pub list_room : Fits xs → list_start xs i + count_at xs i ≤ length xs
  unfolding entries_of
  list_room fits =
      let z : i + 1 + (keys_of xs - (i + 1)) ≡ keys_of xs = omega arith in
      omega (arith, rw z at (counts_split (i + 1) (keys_of xs - (i + 1)) 0 xs), counts_next i xs)

pub lines_none : (xs : List ℕ) (i : ℕ) → keys_of xs ≤ i → drop i (lines_in xs) ≡ []
lines_none xs i past =
    let h : length (lines_in xs) ≤ i = omega (arith, length_lines_in xs) in drop_of_length-le (lines_in xs) h

-- line i by value: its key, and to where its positions go that start at `start`, counted from wherever a walk counts
pub record LineAt (xs : List ℕ) (i start kind value from to : ℕ) : Type 0 where
  pub kind_is : kind ≡ kind_at xs i
  pub kind_small : kind ≤ greatest_number
  pub value_is : value ≡ value_at xs i
  pub value_small : value ≤ greatest_number
  pub from_is : from ≡ start
  pub to_is : to ≡ start + count_at xs i
  pub count_small : count_at xs i ≤ greatest_number

-- line i by value: its key, and from where to where its positions lie in the index
pub record IsLine (xs : List ℕ) (i kind value from to : ℕ) : Type 0 where
  pub below : i < keys_of xs
  pub line : LineAt xs i (list_start xs i) kind value from to
  pub room : to ≤ length xs

-- in a walk that counts from the start of the index, line i and where its positions start lie within the slice
module _ {xs : List ℕ} {i start : ℕ} (fits : Fits xs) (below : i < keys_of xs) (e : start ≡ list_start xs i) where
  pub line_within : (header + 3 * i + 2 < length xs) × (start ≤ length xs)
  line_within = (omega arith, omega (arith, list_room xs i below fits))

  -- and so do its positions
  pub is_line : {kind value from to : ℕ} → LineAt xs i start kind value from to → IsLine xs i kind value from to
  is_line l = record { below = below; line = rw e at l; room = omega (arith, list_room xs i below fits) }
