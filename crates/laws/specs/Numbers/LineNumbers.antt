-- The lines of a slice by number. Assumes nothing.
use Rattle.std.specs.Prelude.{◌≡◌, true, List, [], ◌∷◌, ℕ, zero, suc, ◌+◌, ◌*◌, ◌<◌, length, get_or, take, drop}
use Rattle.std.proofs.Common.{sym, ◌∙◌}
use native.Mathlib.Omega.{arith}
use Rattle.std.proofs.Math.Seq.{drop-drop}
use Rattle.basics.specs.Member.{In, in_getD, member_index}
use Rattle.spec.specs.Numbers.{Line, line, key_before}
use Rattle.spec.specs.Index.{header, keys_of, key_at, count_at, counts_from, lines_from, lines_in}
use Rattle.models.specs.Entries.{no_line}
use Rattle.models.specs.Window.{line_of}
use Rattle.laws.specs.Text.Facts.{KeysRise}
use Rattle.laws.specs.Numbers.KeyOrder.{KeyBefore, key_before_get}
use Rattle.laws.specs.Numbers.Slices.{length_lines_from}

-- the key of line i and its positions, read from the slice
line_from :
    (k i : ℕ) (xs ps : List ℕ) (j : ℕ) → j < k →
    get_or (lines_from k i xs ps) j no_line ≡ line (key_at xs (i + j)) (take (count_at xs (i + j)) (drop (counts_from j i xs) ps))
unfolding lines_from counts_from
line_from zero i xs ps j h = absurd (omega arith)
line_from (suc k) i xs ps zero h = let z : i + 0 ≡ i = omega arith in rw z
line_from (suc k) i xs ps (suc j) h =
    let z : i + suc j ≡ suc i + j = omega arith in
    rw (z, line_from k (suc i) xs (drop (count_at xs i) ps) j (omega arith), drop-drop (counts_from j (suc i) xs) (count_at xs i) ps)

pub length_lines_in : (xs : List ℕ) → length (lines_in xs) ≡ keys_of xs
unfolding lines_in
length_lines_in xs = length_lines_from (keys_of xs) 0 xs (drop (header + 3 * keys_of xs) xs)

module _ (xs : List ℕ) (i : ℕ) (below : i < keys_of xs) where
  pub getD_lines_in : get_or (lines_in xs) i no_line ≡ line_of xs i
  unfolding lines_in
  getD_lines_in =
      let z : 0 + i ≡ i = omega arith in
      rw (
        line_from (keys_of xs) 0 xs (drop (header + 3 * keys_of xs) xs) i below,
        z,
        drop-drop (counts_from i 0 xs) (header + 3 * keys_of xs) xs,
      )

  pub line_of_in : In (line_of xs i) (lines_in xs)
  line_of_in = rw getD_lines_in at (in_getD (lines_in xs) i no_line (omega (arith, length_lines_in xs)))

-- every line has a number
pub line_number : (xs : List ℕ) (l : Line) → In l (lines_in xs) → (i : ℕ) × (i < keys_of xs) × (line_of xs i ≡ l)
line_number xs l m =
    let (i, b, e) = member_index l (lines_in xs) no_line m in
    let below : i < keys_of xs = omega (arith, length_lines_in xs) in
    (i, below, sym (getD_lines_in xs i below) ∙ e)

-- of two lines the earlier one has the lesser key
lines_rise :
    (ls : List Line) → KeysRise ls → (i j : ℕ) → i < j → j < length ls →
    key_before (get_or ls i no_line).key_of (get_or ls j no_line).key_of ≡ true
lines_rise [] order i j h b = absurd (omega arith)
lines_rise (l ∷ ls) order i zero h b = absurd (omega arith)
lines_rise (l ∷ ls) order zero (suc j) h b = order.0 (get_or ls j no_line) (in_getD ls j no_line (omega arith))
lines_rise (l ∷ ls) order (suc i) (suc j) h b = lines_rise ls order.1 i j (omega arith) (omega arith)

pub keys_before :
    (xs : List ℕ) → KeysRise (lines_in xs) → (i j : ℕ) → i < j → j < keys_of xs → KeyBefore (key_at xs i) (key_at xs j)
unfolding line
keys_before xs order i j h b =
    key_before_get (key_at xs i) (key_at xs j)
    (rw (getD_lines_in xs i (omega arith), getD_lines_in xs j b) at
    (lines_rise (lines_in xs) order i j h (omega (arith, length_lines_in xs))))
