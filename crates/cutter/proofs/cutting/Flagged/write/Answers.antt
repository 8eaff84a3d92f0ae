-- `write` meets its contract: header, directory and positions, one after the other.
use Rattle.std.proofs.Common.{◌≤◌, List, ℕ, length}
use native.Mathlib.Omega.{arith}
use Rattle.basics.specs.Writing.{lent_room}
use Rattle.spec.specs.Cut.{cut_down}
use Rattle.laws.specs.Cut.ExactFlags.{IsSize}
use Rattle.laws.specs.Cut.Cutting.{Cuts, cut_len, cut_directory_room, cut_listed, cut_written}
use Rattle.dictionary.specs.Words.{lexicon_of}
use Rattle.cutter.specs.declared.cutting.Flagged.{Flagged}
use Rattle.cutter.specs.Flags.{flagged_lines}
use Rattle.cutter.proofs.cutting.Flagged.write.Goals as goal

-- there is room for all that is written
cuts :
    (f : Flagged) {keys entries : ℕ} {out : List ℕ} →
    IsSize (lexicon_of f.directory.words) f.directory.index.now f.string.now keys entries →
    length (cut_down (lexicon_of f.directory.words) f.directory.index.now f.string.now) ≤ length out →
    Cuts (lexicon_of f.directory.words) f.directory.index.now f.string.now f.flags.now keys entries out
cuts f size room = record { lines = flagged_lines f; size = size; room = room }

pub text_len-requires : goal.text_len-requires
text_len-requires c = omega (arith, (flagged_lines c.args.self.now).fits)

pub write_header-requires : goal.write_header-requires
write_header-requires c =
    let len = cut_len c.requires.size in (omega arith, omega arith, omega arith)

pub write_directory-requires : goal.write_directory-requires
write_directory-requires c =
    cut_directory_room (cuts c.args.self.now c.requires.size c.requires.room) c.text_len.ensures.0
    (c.write_header.ensures _ c.requires.size.counts)

pub slice_bounds-write_positions-count : goal.slice_bounds-write_positions-count
slice_bounds-write_positions-count c =
    let listed =
    cut_listed (cuts c.args.self.now c.requires.size c.requires.room) c.text_len.ensures.0
    (c.write_header.ensures _ c.requires.size.counts) c.write_directory.ensures c.line_start-after.ensures in
    omega arith

pub slice_bounds-write_positions-start : goal.slice_bounds-write_positions-start
slice_bounds-write_positions-start c =
    let listed =
    cut_listed (cuts c.args.self.now c.requires.size c.requires.room) c.text_len.ensures.0
    (c.write_header.ensures _ c.requires.size.counts) c.write_directory.ensures c.line_start-after.ensures in
    omega arith

pub write_positions-requires : goal.write_positions-requires
write_positions-requires c =
    lent_room
    (cut_listed (cuts c.args.self.now c.requires.size c.requires.room) c.text_len.ensures.0
    (c.write_header.ensures _ c.requires.size.counts) c.write_directory.ensures c.line_start-after.ensures)

pub returns : goal.returns
returns c =
    cut_written
    (cut_listed (cuts c.args.self.now c.requires.size c.requires.room) c.text_len.ensures.0
    (c.write_header.ensures _ c.requires.size.counts) c.write_directory.ensures c.line_start-after.ensures)
    c.write_positions.ensures
