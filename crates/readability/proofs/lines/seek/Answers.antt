use Rattle.std.proofs.Common.{◌≡◌, length}
use native.Mathlib.Omega.{arith}
use Rattle.laws.specs.Readable.LoneWords.{passed_step, passed_other, passed_same, passed_none, word_some}
use Rattle.readability.proofs.lines.seek.Goals as goal

pub bounds-chars-at : goal.bounds-chars-at
bounds-chars-at c = word_some c.loop-word.invariant c.loop-word-test.true

pub returns-then-value-first : goal.returns-then-value-first
returns-then-value-first c =
    (c.loop-word.invariant, passed_other c.loop-word.invariant c.loop-word-test.true c.if-value-first.true)

pub returns-then-value-first-2 : goal.returns-then-value-first-2
returns-then-value-first-2 c =
    (c.loop-word.invariant, passed_same c.loop-word.invariant c.loop-word-test.true c.if-value-first-2.true)

pub loop-word-preserved : goal.loop-word-preserved
loop-word-preserved c =
    passed_step c.loop-word.invariant c.loop-word-test.true (omega arith)

pub returns : goal.returns
returns c =
    let walk = c.loop-word in
    let all : walk.word ≡ length c.args.dictionary.now.lengths.now = let w = walk.invariant.within in omega arith in
    (rw all at walk.invariant, passed_none walk.invariant (omega arith))
