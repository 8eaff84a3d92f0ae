-- What the laws of lines and of searches ask for, which holds for every `Directory`. Assumes nothing.
use Rattle.std.specs.Prelude.{◌≡◌, ◌<◌, ℕ, List}
use Rattle.spec.specs.Index.{keys_of, kind_at}
use Rattle.laws.specs.Search.Sizing.{IsString}
use Rattle.laws.specs.Directory.Tables.{WordLine}
use Rattle.laws.specs.Window.LineRanges.{Split, SearchLines}
use Rattle.directory.specs.declared.lines.Directory.{Directory}
use Rattle.directory.specs.Directory.{directory_reads}

-- a line of kind 0 is that of a word
pub word_line :
    (d : Directory) {i : ℕ} → i < keys_of d.index.now → kind_at d.index.now i ≡ 0 →
    WordLine d.words.chars.now d.words.starts.now d.index.now i
word_line d below kind = record { reads = directory_reads d; below = below; kind = kind }

-- its first w lines, those of words, are searched for a string
pub search_lines :
    (d : Directory) {s : List ℕ} {w : ℕ} → Split d.index.now w → IsString s →
    SearchLines d.words.chars.now d.words.starts.now d.index.now s w
search_lines d split string = record { reads = directory_reads d; split = split; string = string }
