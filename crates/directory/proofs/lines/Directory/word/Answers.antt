-- `word` meets its contract: a line of kind 0 has a word's number as value.
use Rattle.std.proofs.Common.{◌∙◌, ap, ℕ, [], get_or, arith}
use Rattle.models.specs.WordStarts.{lexicon_at}
use Rattle.laws.specs.Directory.Tables.{WordLine, line_word, line_spells}
use Rattle.directory.specs.Directory.{directory_reads}
use Rattle.directory.proofs.lines.Directory.word.Goals as goal
use Rattle.directory.proofs.lines.Directory.word.Goals.{After-value_at}

here : (c : After-value_at) → let d = c.args.self.now in WordLine d.words.chars.now d.words.starts.now d.index.now c.args.line
here c = record { reads = directory_reads c.args.self.now; below = c.requires.below; kind = c.requires.of_word }

pub value_at-requires : goal.value_at-requires
value_at-requires c = omega (arith, c.requires.below, (directory_reads c.args.self.now).can.fits)

pub word-requires : goal.word-requires
word-requires c = omega (arith, line_word (here c))

pub returns : goal.returns
returns c =
    let d = c.args.self.now in
    c.word.ensures
    ∙ ap (λ (w : ℕ). get_or (lexicon_at d.words.chars.now d.words.starts.now).words w []) c.value_at.ensures.0
    ∙ line_spells (here (goal.at.returns c).After-value_at)
