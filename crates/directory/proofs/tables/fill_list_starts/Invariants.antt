-- `fill_list_starts` meets its contract. The invariant: the starts of the first i lines are in the table, and `at` is the next one.
use Rattle.std.proofs.Common.{◌≡◌, ◌≤◌, length, ◌*◌}
use Rattle.spec.specs.Index.{greatest_number, keys_of}
use Rattle.laws.specs.Numbers.Slices.{Fits}
use Rattle.laws.specs.Directory.Tables.{ListStarts}
use Rattle.spec.specs.Index.{counts_from}
use Rattle.directory.proofs.tables.fill_list_starts.Given as goal

abbrev pub invariant-loop-i : goal.invariant-loop-i
invariant-loop-i l =
    ListStarts l.index l.i l.list_starts × (length l.list_starts ≡ length l.initial.list_starts) ×
    (l.at ≡ counts_from l.i 0 l.index) × (l.at ≤ greatest_number * l.i) × (l.keys ≡ keys_of l.index) ×
    (l.keys ≤ greatest_number) × Fits l.index
