-- `put_hexadecimal` meets its contract: its four digits are written together.
use Rattle.laws.specs.JobSheet.Printing.{four_digits}
use Rattle.printer.proofs.print.put_hexadecimal.Goals as goal

pub returns : goal.returns
returns c =
    rw (← four_digits c.args.character c.digit_byte.ensures
    c.digit_byte-2.ensures c.digit_byte-3.ensures c.digit_byte-4.ensures)
    c.put_bytes.ensures
