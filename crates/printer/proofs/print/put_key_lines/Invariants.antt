-- `put_key_lines` meets its contract. The invariant: the lines that the iterator gave are printed.
use Rattle.std.proofs.Common.{◌≡◌}
use Rattle.models.specs.Window.{list_start}
use Rattle.laws.specs.JobSheet.IndexPrinting.{KeysPrinted}
use Rattle.printer.proofs.print.put_key_lines.Given as goal

abbrev pub invariant-loop-list : goal.invariant-loop-list
invariant-loop-list l =
    (l.list-iterator.index.now ≡ l.numbers)
    × KeysPrinted l.numbers l.initial.end l.initial.out (list_start l.numbers l.list-iterator.number) l.end l.list-iterator.number l.out
