-- `list_leading` meets its contract: there is room for every line of a word, and the list is the first numbers
-- of the slice.
use Rattle.dictionary.specs.Words.{lexicon_of}
use native.Mathlib.Omega.{arith}
use Rattle.basics.specs.Placed.{wrote_taken}
use Rattle.laws.specs.Window.LineRanges.{kinds_rise, split_found}
use Rattle.laws.specs.Window.LeadingLines.{leading_short}
use Rattle.directory.specs.Directory.{directory_reads}
use Rattle.agreement.proofs.leading.list_leading.Goals as goal

pub count_word_lines-words-requires : goal.count_word_lines-words-requires
count_word_lines-words-requires c = let can = (directory_reads c.args.directory.now).can in (can.fits, kinds_rise can)

pub fill_leading-count-requires : goal.fill_leading-count-requires
fill_leading-count-requires c =
    let lines = split_found (directory_reads c.args.directory.now).can c.count_word_lines-words.ensures in
    (lines, c.requires.0, omega (arith, lines.few), c.requires.2)

pub returns : goal.returns
returns c =
    let split = split_found (directory_reads c.args.directory.now).can c.count_word_lines-words.ensures in
    let a = c.args in
    let lexicon = lexicon_of a.directory.now.words in
    let words = c.count_word_lines-words.result in (
      split,
      omega (arith, leading_short a.least lexicon a.directory.now.index.now a.string.now words, split.few),
      wrote_taken c.fill_leading-count.ensures,
    )
