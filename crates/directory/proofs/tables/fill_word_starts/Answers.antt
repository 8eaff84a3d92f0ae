use Rattle.std.proofs.Common.{◌≡◌, length}
use native.Mathlib.Omega.{arith}
use Rattle.laws.specs.Dictionary.WordStarts.{filling_start, filling_step, filling_end, filling_at}
use Rattle.directory.proofs.tables.fill_word_starts.Goals as goal

pub loop-i-init : goal.loop-i-init
loop-i-init c = filling_start c.args.lengths.now c.args.word_starts.now c.requires.1

pub overflow_cast-word_starts : goal.overflow_cast-word_starts
overflow_cast-word_starts c =
    let a = c.args in
    omega (arith, filling_at a.lengths.now a.word_starts.now c.loop-i.invariant)

pub overflow_add-at : goal.overflow_add-at
overflow_add-at c =
    let a = c.args in
    omega (
      arith,
      filling_at a.lengths.now a.word_starts.now c.loop-i.invariant,
      c.type_inv.lengths c.loop-i.i,
    )

pub loop-i-preserved : goal.loop-i-preserved
loop-i-preserved c =
    let a = c.args in
    filling_step a.lengths.now a.word_starts.now c.loop-i.invariant c.loop-i-test.true

pub returns : goal.returns
returns c =
    let a = c.args in
    let all : length a.lengths.now ≡ c.loop-i.i = omega (arith, c.loop-i.invariant.within, c.loop-i-test.false) in
    rw all (filling_end a.lengths.now a.word_starts.now c.loop-i.invariant c.loop-i-test.false)
