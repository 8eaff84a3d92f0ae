-- `word_of` meets its contract: a word's characters lie between its start and the next one.
use native.Mathlib.Omega.{arith}
use Rattle.laws.specs.Dictionary.WordStarts.{starts_len, end_is, end_room, word_lies}
use Rattle.dictionary.proofs.words.word_of.Goals as goal

pub offset_bounds-word_starts-word : goal.offset_bounds-word_starts-word
offset_bounds-word_starts-word c = omega (arith, starts_len c.requires.0)

pub bounds-word_starts-word : goal.bounds-word_starts-word
bounds-word_starts-word c = omega (arith, starts_len c.requires.0)

pub overflow_add-word : goal.overflow_add-word
overflow_add-word c = omega (arith, starts_len c.requires.0)

pub offset_bounds-word_starts-word-2 : goal.offset_bounds-word_starts-word-2
offset_bounds-word_starts-word-2 c = omega (arith, starts_len c.requires.0)

pub bounds-word_starts-word-2 : goal.bounds-word_starts-word-2
bounds-word_starts-word-2 c = omega (arith, starts_len c.requires.0)

pub slice_bounds-result-count : goal.slice_bounds-result-count
slice_bounds-result-count c =
    omega (arith, c.from-start.ensures, c.from-end.ensures, end_is c.requires.0 c.args.word c.requires.1)

pub slice_bounds-result-start : goal.slice_bounds-result-start
slice_bounds-result-start c =
    omega (arith, c.from-start.ensures, c.from-end.ensures, end_is c.requires.0 c.args.word c.requires.1)

pub slice_bounds-result-end : goal.slice_bounds-result-end
slice_bounds-result-end c = rw c.from-end.ensures (end_room c.requires.0 c.args.word c.requires.1)

pub returns : goal.returns
returns c =
    rw (c.from-start.ensures, c.from-end.ensures) (word_lies c.requires.0 c.args.word c.requires.1)
