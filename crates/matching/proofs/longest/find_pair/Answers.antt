-- `find_pair` meets its contract: the text ends, or the walk finds none, or one that ends too early, or the longest.
use Rattle.std.proofs.Common.{◌≡◌, ◌+◌, ◌-◌}
use native.Mathlib.Omega.{arith}
use Rattle.laws.specs.Match.LongestWord.{pair_in, pair_early, pair_longest}
use Rattle.matching.proofs.longest.find_pair.Goals as goal

pub word_len-len-requires : goal.word_len-len-requires
word_len-len-requires c =
    let same : c.in_ok-number.number + 1 - 1 ≡ c.in_ok-number.number = omega arith in
    rw same at (pair_in c.args.table.now.words.started c.args.text.now c.args.at c.args.end c.in_ok-number.ensures (omega arith))

pub returns-then-at-len : goal.returns-then-at-len
returns-then-at-len c =
    let same : c.in_ok-number.number + 1 - 1 ≡ c.in_ok-number.number = omega arith in
    pair_early c.args.table.now.words.started c.args.text.now c.args.at c.args.end c.in_ok-number.ensures (omega arith)
    (rw same c.word_len-len.ensures.0) c.if-at-len.true

pub returns : goal.returns
returns c =
    let same : c.in_ok-number.number + 1 - 1 ≡ c.in_ok-number.number = omega arith in
    pair_longest c.args.table.now.words.started c.args.text.now c.args.at c.args.end c.in_ok-number.ensures (omega arith)
    (rw same c.word_len-len.ensures.0) c.if-at-len.false
