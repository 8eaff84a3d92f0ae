-- `next` meets its contract: what is left of a chain begins with its head, which links to the rest.
use Rattle.std.proofs.Common.{length, ap, arith, rules}
use Rattle.basics.specs.Chain.{chain_none}
use Rattle.inversion.proofs.ChainHead.{headed}
use Rattle.inversion.proofs.chains.ChainIterator.next.Goals as goal

pub returns-then-self-eq0-clause-steps : goal.returns-then-self-eq0-clause-steps
returns-then-self-eq0-clause-steps c =
    let links = c.args.self.now.links.now in
    (rw c.if-self-eq0.true (chain_none links), rw c.if-self-eq0.true (chain_none links))

pub bounds-self-position : goal.bounds-self-position
bounds-self-position c =
    let self = c.args.self.now in
    (headed self.links.now self.at (record { chained = self.chained; within = self.within }) c.if-self-eq0.false).linked

pub invariant_of-self : goal.invariant_of-self
invariant_of-self c =
    let self = c.args.self.now in
    let after = (headed self.links.now self.at (record { chained = self.chained; within = self.within }) c.if-self-eq0.false).after in
    record { chained = after.chained; within = after.within }

pub returns-clause-steps : goal.returns-clause-steps
returns-clause-steps c =
    let self = c.args.self.now in
    (headed self.links.now self.at (record { chained = self.chained; within = self.within }) c.if-self-eq0.false).whole

pub returns-clause-goes : goal.returns-clause-goes
returns-clause-goes c =
    let self = c.args.self.now in
    let whole = (headed self.links.now self.at (record { chained = self.chained; within = self.within }) c.if-self-eq0.false).whole in
    let shorter = ap length whole in
    search (rules, arith)
