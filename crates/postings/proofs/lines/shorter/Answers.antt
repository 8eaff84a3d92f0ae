-- `shorter` meets its contract, for the reference and for its content.
use Rattle.std.proofs.Common.{length}
use Rattle.laws.specs.Tally.Shorter.{shorter_second, shorter_first}
use Rattle.postings.proofs.lines.shorter.Goals as goal

pub returns-then-b-a-clause-itself : goal.returns-then-b-a-clause-itself
returns-then-b-a-clause-itself c =
    let a = c.args in
    shorter_second (length a.a.now) (length a.b.now) a.a a.b c.if-b-a.true

pub returns-then-b-a-clause-content : goal.returns-then-b-a-clause-content
returns-then-b-a-clause-content c =
    let a = c.args in
    shorter_second (length a.a.now) (length a.b.now) a.a.now a.b.now c.if-b-a.true

pub returns-else-b-a-clause-itself : goal.returns-else-b-a-clause-itself
returns-else-b-a-clause-itself c =
    let a = c.args in
    shorter_first (length a.a.now) (length a.b.now) a.a a.b c.if-b-a.false

pub returns-else-b-a-clause-content : goal.returns-else-b-a-clause-content
returns-else-b-a-clause-content c =
    let a = c.args in
    shorter_first (length a.a.now) (length a.b.now) a.a.now a.b.now c.if-b-a.false
