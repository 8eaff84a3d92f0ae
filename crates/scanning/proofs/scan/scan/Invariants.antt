-- `scan` meets its contract. The invariant: the tokens of the positions passed are written, and `end` fixes what the scan registers from
-- there on.
use Rattle.std.proofs.Common.{take, drop}
use Rattle.dictionary.specs.Words.{lexicon_of}
use Rattle.laws.specs.Build.ScanTokens.{Scanning}
use Rattle.scanning.proofs.scan.scan.Given as goal

abbrev pub invariant-loop-at : goal.invariant-loop-at
invariant-loop-at l = Scanning (lexicon_of l.table.words) (take l.n (drop l.n l.initial.work)) l.initial.work l.work l.at l.end
