-- `write_line` meets its contract: three stores, one after the other.
use Rattle.std.proofs.Common.{◌+◌, ◌*◌}
use Rattle.spec.specs.Index.{header}
use Rattle.basics.specs.Writing.{three_written}
use Rattle.layout.proofs.write.write_line.Goals as goal

pub returns : goal.returns
returns c =
    let a = c.args in
    three_written a.output.now (header + 3 * a.line) a.kind a.value a.count c.requires.0
