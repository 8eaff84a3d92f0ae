-- `chain_length` meets its contract: a chain has no more positions than there are links.
use Rattle.std.proofs.Common.{length, inl, arith}
use Rattle.basics.specs.Chain.{chain_short}
use Rattle.inversion.proofs.chains.chain_length.Goals as goal

pub count-requires-clause-fits : goal.count-requires-clause-fits
count-requires-clause-fits c =
    let links = c.args.links.now in inl (omega (arith, chain_short (length links) links c.args.head))
