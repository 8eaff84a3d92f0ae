-- `positions_of` meets its contract: the table's start and the line's count bound the line's list in the index.
use Rattle.std.proofs.Common.{◌+◌, ◌*◌, ◌≤◌, length}
use Rattle.spec.specs.Index.{keys_of}
use native.Mathlib.Omega.{arith}
use lib.ListN.{get_or}
use Rattle.spec.specs.Index.{header, count_at}
use Rattle.laws.specs.Directory.Tables.{positions_room}
use Rattle.directory.proofs.lines.positions_of.Goals as goal

pub slice_bounds-result-end : goal.slice_bounds-result-end
slice_bounds-result-end c =
    let room : let a = c.args in
    header + 3 * keys_of a.index.now + get_or a.list_starts.now a.line 0 + count_at a.index.now a.line ≤ length a.index.now =
    positions_room c.requires.0 c.args.line c.requires.2 c.requires.1 in
    omega (arith, room)
