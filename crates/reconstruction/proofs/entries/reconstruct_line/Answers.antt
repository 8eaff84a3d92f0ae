-- `reconstruct_line` meets its contract: a lone character is written by `fill_at`, a word from its part of the characters.
use Rattle.std.proofs.Common.{refl}
use Rattle.laws.specs.Receive.ReconstructionWalk.{word_there, word_reconstructs, word_reconstructed, lone_reconstructs, lone_reconstructed}
use Rattle.directory.specs.Directory.{directory_reads}
use Rattle.layout.specs.Lists.{list_part, word_list, lone_list}
use Rattle.reconstruction.proofs.entries.reconstruct_line.Goals as goal

pub word-requires : goal.word-requires
word-requires c = word_there (directory_reads c.args.directory.now) (word_list c.requires.line_is c.in-Word.is) refl

pub reconstruct_positions-requires : goal.reconstruct_positions-requires
reconstruct_positions-requires c =
    let line = c.requires.line_is in
    let reads = directory_reads c.args.directory.now in
    rw (list_part line) (word_reconstructs reads (word_list line c.in-Word.is) refl c.word.ensures c.requires.len)

pub fill_at-requires : goal.fill_at-requires
fill_at-requires c =
    let line = c.requires.line_is in
    let lone = lone_list line c.in-Lone.is in
    let reads = directory_reads c.args.directory.now in
    (rw (list_part line) (lone_reconstructs reads lone.0 lone.1 c.requires.len), lone.0.line.value_small)

pub returns-in-Word : goal.returns-in-Word
returns-in-Word c =
    let line = c.requires.line_is in
    let reads = directory_reads c.args.directory.now in
    rw (list_part line)
    (word_reconstructed reads (word_list line c.in-Word.is) refl c.word.ensures c.args.text.now
    (rw (list_part line) at c.reconstruct_positions.ensures))

pub returns-in-Lone : goal.returns-in-Lone
returns-in-Lone c =
    let line = c.requires.line_is in
    let lone = lone_list line c.in-Lone.is in
    let reads = directory_reads c.args.directory.now in
    rw (list_part line)
    (lone_reconstructed reads lone.0 lone.1 c.args.text.now (rw (list_part line) at c.fill_at.ensures))
