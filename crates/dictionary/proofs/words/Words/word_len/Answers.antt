-- `word_len` meets its contract: a word's length is from its start to the next one.
use native.Mathlib.Omega.{arith}
use Rattle.laws.specs.Dictionary.WordStarts.{starts_len, end_is}
use Rattle.dictionary.proofs.words.Words.word_len.Goals as goal

pub overflow_add-number : goal.overflow_add-number
overflow_add-number c = omega (arith, starts_len c.args.self.now.started.words)

pub offset_bounds-self-number : goal.offset_bounds-self-number
offset_bounds-self-number c = omega (arith, starts_len c.args.self.now.started.words)

pub bounds-self-number : goal.bounds-self-number
bounds-self-number c = omega (arith, starts_len c.args.self.now.started.words)

pub offset_bounds-self-number-2 : goal.offset_bounds-self-number-2
offset_bounds-self-number-2 c = omega (arith, starts_len c.args.self.now.started.words)

pub bounds-self-number-2 : goal.bounds-self-number-2
bounds-self-number-2 c = omega (arith, starts_len c.args.self.now.started.words)

pub overflow_sub-result : goal.overflow_sub-result
overflow_sub-result c = omega (arith, end_is c.args.self.now.started.words c.args.number c.requires)
