use Rattle.std.proofs.Common.{List, [], ◌∷◌, ◌++◌, ℕ, ◌+◌, ◌/◌, ◌%◌, ◌≤◌, length, ap, arith}
use Rattle.basics.specs.Placed.{Writing, writing_start, writing_as, writing_room, writing_step, writing_last}
use Rattle.spec.specs.JobAnswer.{decimal}
use Rattle.laws.specs.JobSheet.Printing.{decimal_small, decimal_large}
use Rattle.printer.proofs.print.+put_decimal.Goals as goal

-- the digits of the tenth part are to be written, then the last
tenth :
    (n at : ℕ) (old : List ℕ) → 10 ≤ n → at + length (decimal n) ≤ length old →
    Writing (decimal n) at old (decimal (n / 10) ++ ((48 + n % 10) ∷ [])) at old
tenth n at old large room = writing_as (decimal_large n large) (writing_start (decimal n) at old room)

pub put_byte-requires : goal.put_byte-requires
put_byte-requires t c = omega (arith, ap length (decimal_small c.args.n c.if-n-lt10.true))

pub returns-then-n-lt10 : goal.returns-then-n-lt10
returns-then-n-lt10 t c = rw (decimal_small c.args.n c.if-n-lt10.true) c.put_byte.ensures

pub put_decimal-end-requires : goal.put_decimal-end-requires
put_decimal-end-requires t c = (
  omega arith,
  writing_room (decimal (c.args.n / 10)) ((48 + c.args.n % 10) ∷ [])
      (tenth c.args.n c.args.at c.args.out.now c.if-n-lt10.false c.requires),
)

pub put_byte-requires-2 : goal.put_byte-requires-2
put_byte-requires-2 t c =
    let at_tenth = tenth c.args.n c.args.at c.args.out.now c.if-n-lt10.false c.requires in
    let at_last = writing_step (decimal (c.args.n / 10)) ((48 + c.args.n % 10) ∷ []) at_tenth c.put_decimal-end.ensures in
    omega (arith, at_last.room)

pub returns : goal.returns
returns t c =
    let at_tenth = tenth c.args.n c.args.at c.args.out.now c.if-n-lt10.false c.requires in
    let at_last = writing_step (decimal (c.args.n / 10)) ((48 + c.args.n % 10) ∷ []) at_tenth c.put_decimal-end.ensures in
    writing_last _ at_last c.put_byte-2.ensures
