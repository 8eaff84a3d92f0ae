-- The walks that write the cut-down index: header, directory, positions. Assumes nothing.
use Rattle.std.specs.Prelude.{◌≡◌, List, [], ◌∷◌, ◌++◌, ℕ, ◌+◌, ◌*◌, ◌-◌, ◌≤◌, ◌<◌, length, get_or, take, drop}
use Rattle.std.proofs.Math.Path.{ap}
use Rattle.std.proofs.Common.{◌∙◌, length-drop, length-take-le}
use native.Mathlib.Omega.{arith}
use Rattle.spec.specs.Dictionary.{Lexicon}
use Rattle.spec.specs.Words.{key}
use Rattle.spec.specs.Numbers.{line, directory, all_positions, header_numbers}
use Rattle.spec.specs.Index.{header, n_of, keys_of, kind_at, value_at, count_at, counts_from, lines_in}
use Rattle.spec.specs.Cut.{bearing, cut_down}
use Rattle.spec.specs.Calls.{in_front}
use Rattle.models.specs.Window.{list_start}
use Rattle.laws.specs.Numbers.Slices.{length_numbers}
use Rattle.laws.specs.Numbers.DirectoryWalk.{counts_next, IsLine}
use Rattle.laws.specs.Build.IndexWriting.{directory_room, directory_written}
use Rattle.basics.specs.Placed.{placed, Writing, writing_start, writing_room, writing_step, writing_end}
use Rattle.basics.specs.Writing.{over, written, lent_tail, tail_back, tail_written}
use Rattle.laws.specs.Cut.ExactFlags.{bearing_from, bearing_done, FlaggedLines, flagged_next, unflagged_next, positions_length}
use Rattle.laws.specs.Cut.ExactFlags.{IsSize}

-- THE DIRECTORY

-- `keys` of the first i lines bear, and are in the directory
pub record Listing (lex : Lexicon) (xs s fs old out : List ℕ) (keys i : ℕ) : Type 0 where
  pub lines : FlaggedLines lex xs s fs
  pub within : i ≤ keys_of xs
  pub few : keys ≤ i
  pub way : Writing (directory (bearing_from lex xs s 0)) header old (directory (bearing_from lex xs s i)) (header + 3 * keys) out

pub listing_start :
    {lex : Lexicon} {xs s fs : List ℕ} → FlaggedLines lex xs s fs → (out : List ℕ) →
    header + length (directory (bearing_from lex xs s 0)) ≤ length out → Listing lex xs s fs out out 0 0
listing_start {lex} {xs} {s} lines out room =
    let way = writing_start (directory (bearing_from lex xs s 0)) header out room in
    record { lines = lines; within = omega arith; few = omega arith; way = way }

module _ {lex : Lexicon} {xs s fs old out : List ℕ} {keys i : ℕ} (h : Listing lex xs s fs old out keys i) where
  pub listing_end : keys_of xs ≤ i → out ≡ placed (directory (bearing_from lex xs s 0)) header old
  unfolding directory
  listing_end past = (writing_end (rw (bearing_done lex xs s i past) at h.way)).content

  module _ (below : i < keys_of xs) where
    module _ (some : get_or fs i 0 ≡ 0 → ⊥) where
      three :
          directory (bearing_from lex xs s i)
          ≡ kind_at xs i ∷ value_at xs i ∷ count_at xs i ∷ directory (bearing_from lex xs s (i + 1))
      unfolding directory line key
      three =
          ap directory (flagged_next h.lines i below some)
          ∙ ap
          (λ (c : ℕ). kind_at xs i ∷ value_at xs i ∷ c ∷ directory (bearing_from lex xs s (i + 1)))
          (positions_length h.lines i below)

      pub listing_room : header + 3 * keys + 3 ≤ length out
      listing_room = omega (arith, ap length three)

      pub listing_step :
          {kind value count : ℕ} → kind ≡ kind_at xs i → value ≡ value_at xs i → count ≡ count_at xs i → {now : List ℕ} →
          now ≡ placed (kind ∷ value ∷ count ∷ []) (header + 3 * keys) out → Listing lex xs s fs old now (keys + 1) (i + 1)
      listing_step {kind} {value} {count} k v n e =
          record {
            lines = h.lines;
            within = omega arith;
            few = omega arith;
            way =
                writing_step (kind ∷ value ∷ count ∷ []) (directory (bearing_from lex xs s (i + 1)))
                (rw (k, v, n) (rw three at h.way)) (record { ends = omega arith; content = e });
          }

    pub listing_pass : get_or fs i 0 ≡ 0 → Listing lex xs s fs old out keys (i + 1)
    listing_pass none =
        record {
          lines = h.lines;
          within = omega arith;
          few = omega arith;
          way = rw (unflagged_next h.lines i below none) at h.way;
        }

-- THE POSITIONS

-- the positions of the bearing lines before line i are written; those of line i start at `from` in the index
pub record Placing (lex : Lexicon) (xs s fs old out : List ℕ) (from at i : ℕ) : Type 0 where
  pub lines : FlaggedLines lex xs s fs
  pub from_is : from ≡ list_start xs i
  pub way : Writing (all_positions (bearing_from lex xs s 0)) 0 old (all_positions (bearing_from lex xs s i)) at out

pub placing_start :
    {lex : Lexicon} {xs s fs : List ℕ} → FlaggedLines lex xs s fs → (out : List ℕ) →
    length (all_positions (bearing_from lex xs s 0)) ≤ length out → {from : ℕ} → from ≡ header + 3 * keys_of xs →
    Placing lex xs s fs out out from 0 0
unfolding counts_from
placing_start {lex} {xs} {s} lines out room is =
    record {
      lines = lines;
      from_is = omega arith;
      way = writing_start (all_positions (bearing_from lex xs s 0)) 0 out (omega (arith, room));
    }

module _ {lex : Lexicon} {xs s fs old out : List ℕ} {from at i : ℕ} (h : Placing lex xs s fs old out from at i) where
  pub placing_end : keys_of xs ≤ i → out ≡ over (all_positions (bearing_from lex xs s 0)) old
  unfolding all_positions
  placing_end past = written (rw (bearing_done lex xs s i past) at h.way)

  -- line i, as the walk has it
  module _ {kind value begin end : ℕ} (here : IsLine xs i kind value begin end) where
    next_from : end ≡ list_start xs (i + 1)
    next_from = omega (arith, counts_next i xs)

    part_len : length (take (end - begin) (drop begin xs)) ≡ end - begin
    part_len = length-take-le (end - begin) (drop begin xs) (omega (arith, length-drop begin xs))

    module _ (some : get_or fs i 0 ≡ 0 → ⊥) where
      way_here :
          Writing (all_positions (bearing_from lex xs s 0)) 0 old
          (take (end - begin) (drop begin xs) ++ all_positions (bearing_from lex xs s (i + 1))) at out
      unfolding all_positions line
      way_here =
          let size : end - begin ≡ count_at xs i = omega arith in
          rw (size, here.line.from_is) (rw (flagged_next h.lines i here.below some) at h.way)

      pub placing_room : at + length (take (end - begin) (drop begin xs)) ≤ length out
      placing_room = writing_room (take (end - begin) (drop begin xs)) (all_positions (bearing_from lex xs s (i + 1))) way_here

      pub placing_step :
          {now : List ℕ} → now ≡ placed (take (end - begin) (drop begin xs)) at out →
          Placing lex xs s fs old now end (at + (end - begin)) (i + 1)
      placing_step e =
          record {
            lines = h.lines;
            from_is = next_from;
            way =
                writing_step (take (end - begin) (drop begin xs)) (all_positions (bearing_from lex xs s (i + 1))) way_here
                (record { ends = omega (arith, part_len); content = e });
          }

    pub placing_pass : get_or fs i 0 ≡ 0 → Placing lex xs s fs old out end at (i + 1)
    placing_pass none =
        record { lines = h.lines; from_is = next_from; way = rw (unflagged_next h.lines i here.below none) at h.way }

-- THE WHOLE

-- the length of the cut-down index
pub cut_len :
    {lex : Lexicon} {xs s : List ℕ} {keys entries : ℕ} → IsSize lex xs s keys entries →
    header + 3 * keys + entries ≡ length (cut_down lex xs s)
unfolding cut_down
cut_len {lex} {xs} {s} size =
    omega (arith, length_numbers (n_of xs) (bearing lex s (lines_in xs)))

-- the header and the directory are written; the positions follow from `at` on
abbrev pub CutListed : (lex : Lexicon) → (xs s old now : List ℕ) → (at : ℕ) → Type 0
CutListed lex xs s old now at = Writing (cut_down lex xs s) 0 old (all_positions (bearing lex s (lines_in xs))) at now

-- the bearing lines are flagged, how many keys and entries they have is known, and the slice has room for them
pub record Cuts (lex : Lexicon) (xs s fs : List ℕ) (keys entries : ℕ) (out : List ℕ) : Type 0 where
  pub lines : FlaggedLines lex xs s fs
  pub size : IsSize lex xs s keys entries
  pub room : length (cut_down lex xs s) ≤ length out

module _ {lex : Lexicon} {xs s fs : List ℕ} {keys entries : ℕ} {old : List ℕ} (cuts : Cuts lex xs s fs keys entries old) {n : ℕ}
    (is : n ≡ n_of xs) {head : List ℕ} (e : head ≡ over (header_numbers n (bearing lex s (lines_in xs))) old) where
  headed : head ≡ over (header_numbers (n_of xs) (bearing lex s (lines_in xs))) old
  headed = rw is at e

  pub cut_directory_room : header + length (directory (bearing lex s (lines_in xs))) ≤ length head
  unfolding cut_down
  cut_directory_room =
      directory_room (n_of xs) cuts.size.counts old cuts.room headed

  pub cut_listed :
      {now : List ℕ} → now ≡ placed (directory (bearing lex s (lines_in xs))) header head → {at : ℕ} → at ≡ header + 3 * keys →
      CutListed lex xs s old now at
  unfolding cut_down
  cut_listed d a =
      rw a (directory_written (n_of xs) cuts.size.counts old cuts.room headed d)

-- the positions, written through the part of the slice from `at` on
pub cut_written :
    {all old now todo : List ℕ} {at : ℕ} → Writing all 0 old todo at now → {part : List ℕ} → part ≡ over todo (lent_tail at now) →
    tail_back at now part ≡ in_front all old
unfolding in_front
cut_written w e = tail_written w e
