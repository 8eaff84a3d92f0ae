-- Header, directory and positions written one after the other are the numbers of an index. Assumes nothing.
use Rattle.std.specs.Prelude.{◌≡◌, List, ◌++◌, ℕ, ◌+◌, ◌*◌, ◌≤◌, length}
use Rattle.std.proofs.Math.Path.{sym}
use Rattle.std.proofs.Common.{◌∙◌, arith}
use Rattle.basics.specs.Placed.{placed, Writing, writing_start, writing_room, writing_step}
use Rattle.basics.specs.Writing.{over, placed_over}
use Rattle.spec.specs.Numbers.{Line, directory, all_positions, header_numbers, numbers}
use Rattle.spec.specs.Index.{header}
use Rattle.laws.specs.Numbers.Header.{SizeOf, header_law}
use Rattle.laws.specs.Numbers.Slices.{length_directory, length_numbers}

module _ (n : ℕ) {ls : List Line} {keys entries : ℕ} (size : SizeOf ls keys entries) (old : List ℕ)
    (room : length (numbers n ls) ≤ length old) where
  pub room_is : header + 3 * keys + entries ≤ length old
  room_is = omega (arith, length_numbers n ls)

  -- the slice once the header is written
  module _ {headed : List ℕ} (h : headed ≡ over (header_numbers n ls) old) where
    pub header_written : Writing (numbers n ls) 0 old (directory ls ++ all_positions ls) header headed
    unfolding numbers
    header_written =
        writing_step (header_numbers n ls) (directory ls ++ all_positions ls) (writing_start (numbers n ls) 0 old (omega (arith, room)))
        (record { ends = omega (arith, (header_law n ls).len); content = h ∙ sym (placed_over (header_numbers n ls) old) })

    pub directory_room : header + length (directory ls) ≤ length headed
    directory_room = writing_room (directory ls) (all_positions ls) header_written

    pub directory_written :
        {now : List ℕ} → now ≡ placed (directory ls) header headed → Writing (numbers n ls) 0 old (all_positions ls) (header + 3 * keys) now
    directory_written e =
        writing_step (directory ls) (all_positions ls) header_written (record { ends = omega (arith, length_directory ls); content = e })
