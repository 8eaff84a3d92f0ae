-- The lines whose keys bear on a string, by exact flags, and the walk that sizes the cut-down index. Assumes nothing.
use Rattle.std.specs.Prelude.{◌≡◌, refl, Bool, true, false, cond, ℕ, ◌+◌, ◌*◌, ◌≤◌, ◌<◌, get_or, drop}
use Rattle.std.proofs.Math.Path.{ap}
use Rattle.std.proofs.Common.{◌∙◌, length-drop, length-take-le}
use mathlib.Core.List.{List, [], ◌∷◌, ◌++◌}
use native.Mathlib.Omega.{arith}
use Rattle.std.proofs.Math.ListN.{length, length-append}
use Rattle.spec.specs.Dictionary.{Lexicon}
use Rattle.spec.specs.Words.{spells}
use Rattle.spec.specs.Numbers.{Line, line, all_positions}
use Rattle.spec.specs.Index.{header, greatest_number, n_of, keys_of, count_at, key_at, lines_in}
use Rattle.spec.specs.Cut.{bears, bearing}
use Rattle.models.specs.Window.{list_start, line_of, positions_at}
use Rattle.laws.specs.Numbers.Header.{SizeOf}
use Rattle.laws.specs.Numbers.Slices.{Fits, length_numbers, numbers_lines_in}
use Rattle.laws.specs.Numbers.LineNumbers.{length_lines_in}
use Rattle.laws.specs.Numbers.DirectoryWalk.{lines_next, lines_none, list_room}

module _ (lex : Lexicon) (xs s : List ℕ) where
  -- the bearing lines from line i on
  abbrev pub bearing_from : (i : ℕ) → List Line
  bearing_from i = bearing lex s (drop i (lines_in xs))

  -- whether line i bears on the string
  abbrev pub bears_at : (i : ℕ) → Bool
  bears_at i = bears (spells lex (key_at xs i)) s

  pub bearing_done : (i : ℕ) → keys_of xs ≤ i → bearing_from i ≡ []
  unfolding bearing
  bearing_done i past = rw (lines_none xs i past)

  bearing_cut :
      (i : ℕ) → i < keys_of xs → bearing_from i ≡ cond (bears_at i) (line_of xs i ∷ bearing_from (i + 1)) (bearing_from (i + 1))
  unfolding bearing line
  bearing_cut i below = rw (lines_next xs i below)

  -- EXACT FLAGS

  -- the first n flags are exact: 1 if the line bears, else 0
  pub record ExactFlags (n : ℕ) (fs : List ℕ) : Type 0 where
    pub room : keys_of xs ≤ length fs
    pub at : (i : ℕ) → i < n → get_or fs i 0 ≡ cond (bears_at i) 1 0

-- the slice is long enough for its lines, and each line's flag is exact
pub record FlaggedLines (lex : Lexicon) (xs s fs : List ℕ) : Type 0 where
  pub fits : Fits xs
  pub exact : ExactFlags lex xs s (keys_of xs) fs

module _ {lex : Lexicon} {xs s fs : List ℕ} (lines : FlaggedLines lex xs s fs) (i : ℕ) (below : i < keys_of xs) where
  -- a flagged line is the next of the bearing ones
  pub flagged_next : (get_or fs i 0 ≡ 0 → ⊥) → bearing_from lex xs s i ≡ line_of xs i ∷ bearing_from lex xs s (i + 1)
  flagged_next some = by_test (bears_at lex xs s i) refl
    where
      by_test : (t : Bool) → bears_at lex xs s i ≡ t → bearing_from lex xs s i ≡ line_of xs i ∷ bearing_from lex xs s (i + 1)
      by_test true e = rw e at (bearing_cut lex xs s i below)
      by_test false e = absurd (some (lines.exact.at i below ∙ rw e))

  -- any other is none of them
  pub unflagged_next : get_or fs i 0 ≡ 0 → bearing_from lex xs s i ≡ bearing_from lex xs s (i + 1)
  unflagged_next none = by_test (bears_at lex xs s i) refl
    where
      by_test : (t : Bool) → bears_at lex xs s i ≡ t → bearing_from lex xs s i ≡ bearing_from lex xs s (i + 1)
      by_test true e = let one : get_or fs i 0 ≡ 1 = lines.exact.at i below ∙ rw e in absurd (omega arith)
      by_test false e = rw e at (bearing_cut lex xs s i below)

  pub positions_length : length (positions_at xs i) ≡ count_at xs i
  positions_length =
      length-take-le (count_at xs i) (drop (list_start xs i) xs)
      (omega (arith, length-drop (list_start xs i) xs, list_room xs i below lines.fits))

-- THE SIZE

-- the bearing lines have no more positions than all lines
bearing_positions : (lex : Lexicon) (s : List ℕ) (ls : List Line) → length (all_positions (bearing lex s ls)) ≤ length (all_positions ls)
unfolding bearing all_positions
bearing_positions lex s [] = omega arith
bearing_positions lex s (l ∷ ls) = by_test (bears (spells lex l.key_of) s) (bearing_positions lex s ls)
  where
    by_test :
        (t : Bool) → length (all_positions (bearing lex s ls)) ≤ length (all_positions ls) →
        length (all_positions (cond t (l ∷ bearing lex s ls) (bearing lex s ls))) ≤ length (l.positions ++ all_positions ls)
    by_test true h =
        omega (arith, length-append l.positions (all_positions (bearing lex s ls)), length-append l.positions (all_positions ls))
    by_test false h = omega (arith, length-append l.positions (all_positions ls))

-- so the slice holds them after the directory
bearing_within :
    (lex : Lexicon) (xs s : List ℕ) → Fits xs →
    header + 3 * keys_of xs + length (all_positions (bearing_from lex xs s 0)) ≤ length xs
bearing_within lex xs s fits =
    omega (
      arith,
      bearing_positions lex s (lines_in xs),
      length_lines_in xs,
      length_numbers (n_of xs) (lines_in xs),
      ap length (numbers_lines_in xs fits),
    )

-- `keys` of the first i lines bear, with `entries` entries
pub record Counting (lex : Lexicon) (xs s fs : List ℕ) (keys entries i : ℕ) : Type 0 where
  pub lines : FlaggedLines lex xs s fs
  pub within : i ≤ keys_of xs
  pub keys_left : keys + length (bearing_from lex xs s i) ≡ length (bearing_from lex xs s 0)
  pub entries_left : entries + length (all_positions (bearing_from lex xs s i)) ≡ length (all_positions (bearing_from lex xs s 0))
  pub keys_few : keys ≤ i
  pub entries_few : header + 3 * keys_of xs + entries ≤ length xs

pub counting_start : {lex : Lexicon} {xs s fs : List ℕ} → FlaggedLines lex xs s fs → Counting lex xs s fs 0 0 0
counting_start lines =
    record {
      lines = lines;
      within = omega arith;
      keys_left = omega arith;
      entries_left = omega arith;
      keys_few = omega arith;
      entries_few = omega (arith, lines.fits.has_directory);
    }

-- the number of bearing keys and of their positions, which with the header take no more numbers than the index
pub record IsSize (lex : Lexicon) (xs s : List ℕ) (keys entries : ℕ) : Type 0 where
  pub counts : SizeOf (bearing lex s (lines_in xs)) keys entries
  pub within : header + 3 * keys + entries ≤ length xs

module _ {lex : Lexicon} {xs s fs : List ℕ} {keys entries i : ℕ} (h : Counting lex xs s fs keys entries i) where
  pub counting_step :
      i < keys_of xs → (get_or fs i 0 ≡ 0 → ⊥) → {count : ℕ} → count ≡ count_at xs i →
      Counting lex xs s fs (keys + 1) (entries + count) (i + 1)
  unfolding all_positions line
  counting_step below some {count} is =
      let kept = flagged_next h.lines i below some in
      let left :
      entries + count + length (all_positions (bearing_from lex xs s (i + 1))) ≡ length (all_positions (bearing_from lex xs s 0)) =
      omega (
        arith,
        ap (λ (l : List Line). length (all_positions l)) kept,
        length-append (positions_at xs i) (all_positions (bearing_from lex xs s (i + 1))),
        positions_length h.lines i below,
      ) in
      record {
        lines = h.lines;
        within = omega arith;
        keys_left = omega (arith, ap length kept);
        entries_left = left;
        keys_few = omega arith;
        entries_few = omega (arith, left, bearing_within lex xs s h.lines.fits);
      }

  pub counting_pass : i < keys_of xs → get_or fs i 0 ≡ 0 → Counting lex xs s fs keys entries (i + 1)
  counting_pass below none =
      let left = unflagged_next h.lines i below none in
      record {
        lines = h.lines;
        within = omega arith;
        keys_left = rw left at h.keys_left;
        entries_left = rw left at h.entries_left;
        keys_few = omega arith;
        entries_few = omega arith;
      }

  pub counting_end : keys_of xs ≤ i → keys_of xs ≤ greatest_number → IsSize lex xs s keys entries
  unfolding all_positions
  counting_end past few =
      let none : bearing_from lex xs s i ≡ [] = bearing_done lex xs s i past in
      record {
        counts =
            record {
              keys_are = omega (arith, ap length none);
              entries_are = omega (arith, ap (λ (l : List Line). length (all_positions l)) none);
              keys_small = omega arith;
            };
        within = omega arith;
      }
