-- `chain_positions` meets its contract. The invariant: the positions above p are in the chains of their codes, and are counted.
use Rattle.spec.specs.Replaced.{replaced}
use Rattle.laws.specs.Build.PostingChains.{Links}
use Rattle.inversion.proofs.chains.chain_positions.Given as goal

abbrev pub invariant-loop-p : goal.invariant-loop-p
invariant-loop-p l = Links (replaced l.text) l.initial.tokens l.tokens l.heads l.pages l.keys l.entries l.p
