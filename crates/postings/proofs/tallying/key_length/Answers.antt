-- `key_length` meets its contract: a lone character has length 1, a word the length lent for it.
use Rattle.std.proofs.Common.{length, refl, ◌∙◌, ◌<◌}
use native.Mathlib.Omega.{arith}
use Rattle.laws.specs.Readable.KeyLengths.{key_sizes, lone_length, word_below, word_length}
use Rattle.postings.proofs.tallying.key_length.Goals as goal
use Rattle.postings.proofs.tallying.key_length.Goals.{In-Word}

below : (c : In-Word) → c.in-Word.number < length c.args.dictionary.now.lengths.now
below c = word_below c.args.dictionary.now.admitted 0 c.in-Word.number (rw c.in-Word.is at c.requires) refl

pub offset_bounds-dictionary-number : goal.offset_bounds-dictionary-number
offset_bounds-dictionary-number c = omega (arith, below c)

pub bounds-dictionary-number : goal.bounds-dictionary-number
bounds-dictionary-number c = below c

pub returns-in-Word : goal.returns-in-Word
returns-in-Word c =
    let a = c.args in
    let size = rw c.in-Word.is at (key_sizes a.dictionary.now.admitted c.requires) in
    let len = word_length a.dictionary.now.admitted 0 c.in-Word.number (rw c.in-Word.is at c.requires) refl in
    (rw c.in-Word.is (c.from.ensures ∙ len), omega (arith, c.from.ensures, len, size), omega (arith, c.from.ensures, len, size))

pub returns-in-Lone : goal.returns-in-Lone
returns-in-Lone c =
    let a = c.args in
    let len = lone_length a.dictionary.now.admitted 1 c.in-Lone.field-0 (rw c.in-Lone.is at c.requires) (λ n. omega (arith, n)) in
    (rw c.in-Lone.is len, omega arith, omega arith)
