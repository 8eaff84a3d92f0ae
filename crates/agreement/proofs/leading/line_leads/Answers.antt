-- `line_leads` meets its contract: a word that lacks the string's first character from an index on starts no earlier.
use Rattle.std.proofs.Common.{◌≡◌, ◌≤◌, ◌<◌, length, ℕ, ◌+◌, List}
use Rattle.spec.specs.Index.{keys_of, kind_at, value_at, key_at}
use Rattle.spec.specs.Words.{spells}
use mathlib.Core.Path.{ap}
use native.Mathlib.Omega.{arith}
use lib.ListN.{get_or}
use Rattle.laws.specs.Dictionary.WordStarts.{starts_len}
use Rattle.laws.specs.Directory.Tables.{line_room, line_word, line_end, key_some, spelt_short}
use Rattle.laws.specs.Window.LeadingLines.{line_lacks}
use Rattle.dictionary.specs.Words.{lexicon_of}
use Rattle.directory.specs.declared.lines.Directory.{Directory}
use Rattle.directory.specs.Directory.{directory_reads}
use Rattle.agreement.specs.Lines.{word_line}
use Rattle.agreement.proofs.leading.line_leads.Goals as goal

-- the word has a character, and ends within the dictionary's
word_ends : (d : Directory) {i v : ℕ} {k : List ℕ} → i < keys_of d.index.now → kind_at d.index.now i ≡ 0 → v ≡ value_at d.index.now i →
    k ≡ spells (lexicon_of d.words) (key_at d.index.now i) →
    (1 ≤ length k) × (get_or d.words.starts.now v 0 + length k ≤ length d.words.chars.now)
word_ends d {i} below kind value spelt =
    let line = word_line d below kind in (
      omega (arith, ap length spelt, key_some line.reads.can i line.below),
      omega (arith, ap length spelt, line_end line, ap (λ (w : ℕ). get_or d.words.starts.now w 0) value),
    )

pub value_at-requires : goal.value_at-requires
value_at-requires c =
    line_room (directory_reads c.args.directory.now).can c.args.line c.requires.0

pub bounds-words-value_at : goal.bounds-words-value_at
bounds-words-value_at c =
    let line = word_line c.args.directory.now c.requires.0 c.requires.1 in
    omega (arith, line_word line, starts_len line.reads.words)

pub overflow_sub-word : goal.overflow_sub-word
overflow_sub-word c =
    omega (arith, word_ends c.args.directory.now c.requires.0 c.requires.1 c.value_at.ensures.0 c.word-word.ensures)

pub seen_to_lack-requires : goal.seen_to_lack-requires
seen_to_lack-requires c =
    omega (arith, word_ends c.args.directory.now c.requires.0 c.requires.1 c.value_at.ensures.0 c.word-word.ensures)

pub returns-then-seen_to_lack : goal.returns-then-seen_to_lack
returns-then-seen_to_lack c =
    line_lacks (word_line c.args.directory.now c.requires.0 c.requires.1) c.args.string.now c.args.least c.value_at.ensures.0
    c.word-word.ensures (c.seen_to_lack.ensures c.if-seen_to_lack.true)

pub agrees_leading-requires : goal.agrees_leading-requires
agrees_leading-requires c =
    let can = (directory_reads c.args.directory.now).can in
    (spelt_short can c.args.line c.requires.0 c.word-word.result.now c.word-word.ensures, c.requires.2)
