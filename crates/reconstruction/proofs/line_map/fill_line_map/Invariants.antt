-- `fill_line_map` meets its contract. The invariant: the map has the lines that the iterator gave.
use Rattle.std.proofs.Common.{◌≡◌}
use Rattle.models.specs.Window.{list_start}
use Rattle.laws.specs.Receive.LineMapWalk.{FillingLines}
use Rattle.reconstruction.proofs.line_map.fill_line_map.Given as goal

abbrev pub invariant-loop-line : goal.invariant-loop-line
invariant-loop-line l =
    (l.line-iterator.index.now ≡ l.index)
    × FillingLines l.index l.initial.line_map l.line_map (list_start l.index l.line-iterator.number) l.line-iterator.number
