-- `write_header` meets its contract: the stores, one after the other.
use Rattle.laws.specs.Numbers.Header.{header_law}
use Rattle.layout.proofs.write.write_header.Goals as goal

pub returns : goal.returns
returns c = λ ls size.
    (header_law c.args.n ls).stored size c.args.output.now c.requires.0
