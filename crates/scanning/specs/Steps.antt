-- The scan may step at each index of a text of characters, with the match table of an admitted dictionary. Assumes nothing.
use Rattle.std.specs.Prelude.{List, ℕ, ◌<◌, length}
use Rattle.models.specs.WordStarts.{lengths_of}
use Rattle.dictionary.specs.Words.{lexicon_of}
use Rattle.laws.specs.Dictionary.Lexicon.{admitted_lexicon}
use Rattle.laws.specs.Text.Facts.{Chars}
use Rattle.laws.specs.Build.ScanTokens.{Scannable}
use Rattle.matching.specs.declared.table.MatchTable.{MatchTable}

pub scannable : (t : MatchTable) {ts : List ℕ} {at : ℕ} → Chars ts → at < length ts → Scannable (lexicon_of t.words) ts at
scannable t chars below =
    record {
      good = admitted_lexicon t.words.chars.now (lengths_of t.words.starts.now) t.words.started.dictionary;
      chars = chars;
      below = below;
    }
