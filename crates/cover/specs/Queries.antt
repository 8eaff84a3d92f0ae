-- What the laws of a search in a window of starts ask for, which holds for every `Query`. Assumes nothing.
use Rattle.std.specs.Prelude.{ℕ, ◌^◌, ◌≤◌, List}
use Rattle.models.specs.Window.{offset_at, leading_at}
use Rattle.laws.specs.Window.Searches.{Searches}
use Rattle.dictionary.specs.Words.{lexicon_of}
use Rattle.directory.specs.Directory.{postings_opened}
use Rattle.cover.specs.declared.window.Query.{Query}

-- the reaches of a window from the start `first` on, extended by one line at the offset o
abbrev pub line_step : Query → (o first line : ℕ) → List ℕ → List ℕ
line_step q o first = offset_at o (lexicon_of q.postings.directory.words) q.postings.directory.index.now q.string.now first

-- or by one line at each of its offsets of 0 and below
abbrev pub leading_step : Query → (first line : ℕ) → List ℕ → List ℕ
leading_step q first = leading_at (lexicon_of q.postings.directory.words) q.postings.directory.index.now q.string.now first

-- it may be searched for in each window whose first start is small
pub query_searches : (q : Query) {first : ℕ} → first ≤ 2 ^ 32 →
    Searches q.postings.directory.words.chars.now q.postings.directory.words.starts.now q.postings.directory.index.now
    q.postings.list_starts.now q.string.now q.word_lines first
query_searches q small =
    record { opened = postings_opened q.postings; split = q.split; string = q.is_string; first_small = small }
