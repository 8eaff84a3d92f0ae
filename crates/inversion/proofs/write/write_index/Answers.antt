-- `write_index` meets its contract: header, directory and positions, one after the other.
use Rattle.std.proofs.Common.{◌≡◌, ℕ, ◌+◌, ◌*◌, ◌≤◌, length, List}
use Rattle.spec.specs.Index.{header}
use Rattle.spec.specs.Numbers.{Line, directory, all_positions, header_numbers, numbers}
use Rattle.laws.specs.Build.PostingChains.{lines_at}
use native.Mathlib.Omega.{arith}
use Rattle.basics.specs.Placed.{placed, Writing}
use Rattle.basics.specs.Writing.{over, lent_room, tail_written}
use Rattle.laws.specs.Numbers.Header.{SizeOf}
use Rattle.laws.specs.Build.IndexWriting.{room_is, directory_room, directory_written}
use Rattle.inversion.proofs.write.write_index.Goals as goal

-- after header and directory, the positions are to be written from the index after them on
after_directory :
    (n : ℕ) {ls : List Line} {keys entries : ℕ} → SizeOf ls keys entries → (old : List ℕ) → length (numbers n ls) ≤ length old →
    {headed now : List ℕ} {after : ℕ} → headed ≡ over (header_numbers n ls) old → now ≡ placed (directory ls) header headed →
    after ≡ header + 3 * keys → Writing (numbers n ls) 0 old (all_positions ls) after now
after_directory n size old room headed now at = rw at (directory_written n size old room headed now)

pub write_header-requires : goal.write_header-requires
write_header-requires c =
    let a = c.args in (
      omega (arith, room_is (length a.links.now) c.requires.size_of a.output.now c.requires.links_in_bounds),
      c.requires.listable.short,
      c.requires.size_of.keys_small,
    )

pub write_directory-requires-clause-links_in_bounds : goal.write_directory-requires-clause-links_in_bounds
write_directory-requires-clause-links_in_bounds c =
    let a = c.args in
    directory_room (length a.links.now) c.requires.size_of a.output.now c.requires.links_in_bounds
    (c.write_header.ensures (lines_at a.heads.now a.links.now 0) c.requires.size_of)

pub slice_bounds-write_positions-count : goal.slice_bounds-write_positions-count
slice_bounds-write_positions-count c =
    let a = c.args in
    let written =
    after_directory (length a.links.now) c.requires.size_of a.output.now c.requires.links_in_bounds
    (c.write_header.ensures (lines_at a.heads.now a.links.now 0) c.requires.size_of) c.write_directory.ensures c.line_start-after.ensures in
    omega arith

pub slice_bounds-write_positions-start : goal.slice_bounds-write_positions-start
slice_bounds-write_positions-start c =
    let a = c.args in
    let written =
    after_directory (length a.links.now) c.requires.size_of a.output.now c.requires.links_in_bounds
    (c.write_header.ensures (lines_at a.heads.now a.links.now 0) c.requires.size_of) c.write_directory.ensures c.line_start-after.ensures in
    omega arith

pub write_positions-requires-clause-links_in_bounds : goal.write_positions-requires-clause-links_in_bounds
write_positions-requires-clause-links_in_bounds c =
    let a = c.args in
    let written =
    after_directory (length a.links.now) c.requires.size_of a.output.now c.requires.links_in_bounds
    (c.write_header.ensures (lines_at a.heads.now a.links.now 0) c.requires.size_of) c.write_directory.ensures c.line_start-after.ensures in
    lent_room written

pub returns : goal.returns
returns c =
    let a = c.args in
    let written =
    after_directory (length a.links.now) c.requires.size_of a.output.now c.requires.links_in_bounds
    (c.write_header.ensures (lines_at a.heads.now a.links.now 0) c.requires.size_of) c.write_directory.ensures c.line_start-after.ensures in
    tail_written written c.write_positions.ensures
