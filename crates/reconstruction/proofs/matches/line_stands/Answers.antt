-- `line_stands` meets its contract: a lone character is one comparison a position, a word is compared by its part of the characters.
use Rattle.std.proofs.Common.{refl}
use Rattle.laws.specs.Receive.ReconstructionWalk.{word_there, positions_some, positions_rise, word_reconstructs, word_stood}
use Rattle.laws.specs.Receive.ReconstructionWalk.{lone_reconstructs, lone_stood}
use Rattle.directory.specs.Directory.{directory_reads}
use Rattle.layout.specs.Lists.{list_part, word_list, lone_list}
use Rattle.reconstruction.proofs.matches.line_stands.Goals as goal

pub word-requires : goal.word-requires
word-requires c = word_there (directory_reads c.args.directory.now) (word_list c.requires.line_is c.in-Word.is) refl

pub stands_at_each-requires : goal.stands_at_each-requires
stands_at_each-requires c =
    let line = c.requires.line_is in
    let word = word_list line c.in-Word.is in
    let reads = directory_reads c.args.directory.now in (
      rw (list_part line) (word_reconstructs reads word refl c.word.ensures c.requires.len),
      rw (list_part line) (positions_some reads word),
      rw (list_part line) (positions_rise reads word),
    )

pub holds_at_each-requires : goal.holds_at_each-requires
holds_at_each-requires c =
    let line = c.requires.line_is in
    let lone = lone_list line c.in-Lone.is in
    let reads = directory_reads c.args.directory.now in
    rw (list_part line) (lone_reconstructs reads lone.0 lone.1 c.requires.len)

pub returns-in-Word : goal.returns-in-Word
returns-in-Word c =
    let line = c.requires.line_is in
    let reads = directory_reads c.args.directory.now in
    rw (list_part line)
    (word_stood reads (word_list line c.in-Word.is) refl c.word.ensures (rw (list_part line) at c.stands_at_each.ensures))

pub returns-in-Lone : goal.returns-in-Lone
returns-in-Lone c =
    let line = c.requires.line_is in
    let lone = lone_list line c.in-Lone.is in
    let reads = directory_reads c.args.directory.now in
    rw (list_part line) (lone_stood reads lone.0 lone.1 (rw (list_part line) at c.holds_at_each.ensures))
