use Rattle.basics.specs.Chain.{chain}
use Rattle.basics.specs.Placed.{writing_as, writing_one, writing_end}
use Rattle.inversion.proofs.write.write_chain.Goals as goal

pub loop-position-preserved : goal.loop-position-preserved
loop-position-preserved c =
    let left = c.next.new.self in
    writing_one c.in-Some.position (chain left.links.now left.at) (writing_as c.in-Some.ensures.steps c.loop-position.invariant)

pub returns : goal.returns
returns c = writing_end (writing_as c.in-None.ensures.steps.0 c.loop-position.invariant)
