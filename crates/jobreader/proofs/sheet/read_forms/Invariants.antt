-- `read_forms` meets its contract. The invariant: the forms before `at` are read, whichever `end` the next one has. The measure is what is
-- left of the sheet.
use Rattle.std.proofs.Common.{length, ◌-◌, ◌≡◌, ◌≤◌, ℕ}
use Rattle.laws.specs.JobSheet.LineReading.{FormEnd}
use Rattle.laws.specs.JobSheet.SheetReading.{FormsRead}
use Rattle.jobreader.proofs.sheet.read_forms.Given as goal

abbrev pub invariant-loop-end : goal.invariant-loop-end
invariant-loop-end l = (length l.sheet ≤ 32768) × (length l.head ≡ 5) × (l.at ≤ length l.sheet) ×
    ((end : ℕ) → FormEnd l.head l.sheet l.at end →
    FormsRead l.head l.sheet l.initial.at l.initial.used l.initial.count l.initial.chars l.initial.lengths
    l.at l.used l.count end l.chars l.lengths)

abbrev pub decreases-loop-end : goal.decreases-loop-end
decreases-loop-end l = length l.sheet - l.at
