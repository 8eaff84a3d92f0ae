-- `write_chain` meets its contract. The invariant: of the chain, what the iterator has left is still to be written, from `here` on.
use Rattle.basics.specs.Chain.{chain}
use Rattle.basics.specs.Placed.{Writing}
use Rattle.inversion.proofs.write.write_chain.Given as goal

abbrev pub invariant-loop-position : goal.invariant-loop-position
invariant-loop-position l =
    Writing (chain l.links l.head) l.at l.initial.part (chain l.position-iterator.links.now l.position-iterator.at) l.here l.part
