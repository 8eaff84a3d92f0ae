-- `put_byte` meets its contract: one store.
use Rattle.basics.specs.Placed.{wrote_one}
use Rattle.printer.proofs.print.put_byte.Goals as goal

pub returns : goal.returns
returns c = wrote_one c.args.byte c.args.at c.args.out.now c.requires
