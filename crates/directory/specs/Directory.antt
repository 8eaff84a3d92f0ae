-- What the laws of the directory ask for, which holds for every `Directory` and `Postings`. Assumes nothing.
use Rattle.std.specs.Prelude.{◌≤◌}
use Rattle.std.proofs.Common.{arith}
use Rattle.spec.specs.Dictionary.{longest_text}
use Rattle.spec.specs.Index.{n_of}
use Rattle.models.specs.WordStarts.{lexicon_at}
use Rattle.laws.specs.Directory.Tables.{Reads, Opened}
use Rattle.laws.specs.Readable.Readable.{readable_get}
use Rattle.laws.specs.Receive.ReconstructionWalk.{started_reads}
use Rattle.directory.specs.declared.lines.Directory.{Directory}
use Rattle.directory.specs.declared.lines.Postings.{Postings}

-- its lines can be read
pub directory_reads : (d : Directory) → Reads d.words.chars.now d.words.starts.now d.index.now
directory_reads d = started_reads d.words.started longest_text (omega arith) d.index.now d.is_readable

-- its text is not longer than the longest
pub directory_short : (d : Directory) → n_of d.index.now ≤ longest_text
directory_short d =
    (readable_get longest_text (lexicon_at d.words.chars.now d.words.starts.now) d.index.now d.is_readable).length_allowed

-- the same with the positions of its lines
pub postings_opened :
    (p : Postings) → Opened p.directory.words.chars.now p.directory.words.starts.now p.directory.index.now p.list_starts.now
postings_opened p = record { reads = directory_reads p.directory; list_starts = p.filled }
