-- `put_bytes` meets its contract: the slice has the bytes in the place of as many of its own.
use Rattle.std.proofs.Common.{refl, arith}
use Rattle.laws.specs.Numbers.Copied.{copied}
use Rattle.printer.proofs.print.put_bytes.Goals as goal

pub returns : goal.returns
returns c =
    let a = c.args in
    record { ends = refl; content = copied a.at _ a.out.now a.bytes.now _ c.copy_from_slice.ensures.after (omega arith) }
