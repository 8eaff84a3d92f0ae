-- `put_decimal` meets its contract, by recursion. The measure is the number, which falls to its tenth part.
use Rattle.printer.proofs.print.+put_decimal.Given as goal

abbrev pub decreases-put_decimal : goal.decreases-put_decimal
decreases-put_decimal l = l.n
