-- Filling the line map one line after the other, as a loop does it. Assumes nothing.
use Rattle.std.specs.Prelude.{◌≡◌, true, List, ℕ, ◌+◌, ◌*◌, ◌-◌, ◌≤◌, ◌<◌, drop}
use Rattle.std.proofs.Math.Path.{refl}
use Rattle.std.proofs.Common.{ap, ◌∙◌, arith}
use Rattle.std.proofs.Math.Numerals.{add-one}
use Rattle.std.proofs.Math.ListN.{length, take}
use Rattle.spec.specs.Dictionary.{Lexicon}
use Rattle.spec.specs.Numbers.{line}
use Rattle.spec.specs.Index.{header, n_of, keys_of, key_at, lines_in, readable}
use Rattle.models.specs.Reception.{fill_positions, fill_line_map}
use Rattle.models.specs.Window.{line_of}
use Rattle.laws.specs.Text.Facts.{GoodLexicon, GoodLine}
use Rattle.laws.specs.Dictionary.Keys.{spells_some}
use Rattle.laws.specs.Numbers.Slices.{Fits}
use Rattle.laws.specs.Readable.Readable.{readable_get}
use Rattle.laws.specs.Readable.LineWalk.{readable_fits}
use Rattle.laws.specs.Numbers.LineNumbers.{line_of_in}
use Rattle.laws.specs.Numbers.DirectoryWalk.{IsLine}
use Rattle.laws.specs.Receive.LineMapFill.{length_fill_positions}
use Rattle.laws.specs.Receive.PositionWalk.{LieWithin}
use Rattle.laws.specs.Receive.ReconstructionWalk.{good_lie}
use Rattle.laws.specs.Receive.LinePass.{line_positions, Passing, passing_start, passing_step, passing_end}

-- WHAT CAN BE MAPPED

-- numbers whose positions all lie from 1 to m
pub record CanMap (xs : List ℕ) (m : ℕ) : Type 0 where
  pub fits : Fits xs
  pub each : (i : ℕ) → i < keys_of xs → LieWithin 1 m (line_of xs i).positions

pub readable_line_map :
    {lex : Lexicon} → GoodLexicon lex → (g : ℕ) (xs : List ℕ) → readable g lex xs ≡ true → (m : ℕ) → n_of xs ≤ m → CanMap xs m
unfolding line
readable_line_map {lex} good g xs can m room =
    record { fits = readable_fits g lex xs can; each = λ i b. each i b }
  where
    good_line : (i : ℕ) → i < keys_of xs → GoodLine lex (n_of xs) (line_of xs i)
    good_line i b = (readable_get g lex xs can).lines.each (line_of xs i) (line_of_in xs i b)

    each : (i : ℕ) → i < keys_of xs → LieWithin 1 m (line_of xs i).positions
    each i b =
        let lie = good_lie lex (n_of xs) (line_of xs i) (good_line i b) in
        record {
          from = lie.from;
          to = λ j h. omega (arith, lie.to j h, spells_some good (key_at xs i) (good_line i b).is_key);
        }

-- THE LINES

-- the lines before line i are mapped; the positions of line i start at `at`
abbrev pub FillingLines : (xs old now : List ℕ) (at i : ℕ) → Type 0
FillingLines xs old now at i = Passing fill_line_map xs old now at i

module _ {xs old : List ℕ} where
  pub mapping_start : {at : ℕ} → at ≡ header + 3 * keys_of xs → FillingLines xs old old at 0
  mapping_start e = passing_start e

  module _ {now : List ℕ} {at i : ℕ} (h : FillingLines xs old now at i) where
    module _ {kind value from to : ℕ} (is : IsLine xs i kind value from to) where
      pub mapping_room : CanMap xs (length old) → LieWithin 1 (length now) (take (to - from) (drop from xs))
      mapping_room can = rw (h.len, line_positions is) (can.each i is.below)

      pub mapping_step :
          {next : List ℕ} → next ≡ fill_positions (i + 1) (take (to - from) (drop from xs)) now → FillingLines xs old next to (i + 1)
      unfolding fill_line_map line
      mapping_step {next} e =
          let positions : take (to - from) (drop from xs) ≡ (line_of xs i).positions = line_positions is in
          passing_step h is next
          (ap length e ∙ length_fill_positions (i + 1) (take (to - from) (drop from xs)) now)
          (rw (e, positions, add-one i))

    pub mapping_end : keys_of xs ≤ i → now ≡ fill_line_map 0 (lines_in xs) old
    unfolding fill_line_map
    mapping_end past = passing_end h past refl
