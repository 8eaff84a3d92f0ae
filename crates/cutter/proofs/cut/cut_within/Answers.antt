-- `cut_within` meets its contract: the size is known before anything is written.
use mathlib.Core.Path.{refl}
use native.Mathlib.Omega.{arith}
use Rattle.laws.specs.Search.Sizing.{sized_short, sized_written}
use Rattle.laws.specs.Cut.Cutting.{cut_len}
use Rattle.cutter.proofs.cut.cut_within.Goals as goal

pub returns-then-output-count : goal.returns-then-output-count
returns-then-output-count g c = sized_short (omega (arith, cut_len c.size-size.ensures)) refl refl

pub write-requires-clause-room : goal.write-requires-clause-room
write-requires-clause-room g c = omega (arith, cut_len c.size-size.ensures)

pub returns : goal.returns
returns g c =
    let len = cut_len c.size-size.ensures in
    sized_written (omega arith) refl (omega arith) c.write.ensures
