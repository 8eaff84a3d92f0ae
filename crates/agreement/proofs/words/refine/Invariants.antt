-- `refine` meets its contract. The invariant: the lines `low` to `high` - 1 are left, and their words share `depth` characters with the
-- string from the offset on. The measure is how many lines and characters are left.
use Rattle.std.proofs.Common.{◌-◌, ◌+◌, length, ◌≡◌}
use Rattle.laws.specs.Window.AgreeingWords.{Refining}
use Rattle.agreement.proofs.words.refine.Given as goal

abbrev pub invariant-loop-low : goal.invariant-loop-low
invariant-loop-low l =
    Refining l.directory.words.chars.now l.directory.words.starts.now l.directory.index.now
    l.string l.key_start l.word_lines l.lines l.count l.low l.high l.depth ×
    (l.left ≡ length l.string - l.key_start) × (length l.lines ≡ length l.initial.lines)

abbrev pub decreases-loop-low : goal.decreases-loop-low
decreases-loop-low l = (l.high - l.low) + (32 - l.depth)
