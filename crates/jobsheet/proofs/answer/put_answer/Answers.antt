-- `put_answer` meets its contract: a refused sheet has one line printed, any other the lines of its parts.
use Rattle.std.proofs.Common.{sym, arith}
use Rattle.laws.specs.Dictionary.Refused.{refused_some}
use Rattle.laws.specs.JobSheet.JobAnswering.{refused_answer, refused_fits}
use Rattle.laws.specs.JobSheet.JobParts.{parts_there, parts_answer}
use Rattle.jobsheet.proofs.answer.put_answer.Goals as goal

pub put_parts-requires : goal.put_parts-requires
put_parts-requires c =
    let read = c.in-Ok.ensures in
    (parts_there (sym read.refusal) read.parts, c.requires)

pub returns-in-Ok : goal.returns-in-Ok
returns-in-Ok c =
    let read = c.in-Ok.ensures in
    let is = parts_answer (sym read.refusal) read.parts in
    rw is at c.put_parts.ensures

pub put_refused_line-requires : goal.put_refused_line-requires
put_refused_line-requires c =
    let e = c.in-Err.refusal in
    let fits = refused_fits c.args.sheet.now _ c.in-Err.ensures.refusal (refused_some e) in
    rw c.number.ensures (omega (arith, fits))

pub returns-in-Err : goal.returns-in-Err
returns-in-Err c =
    let e = c.in-Err.refusal in
    let is = refused_answer c.args.sheet.now _ c.in-Err.ensures.refusal (refused_some e) in
    rw (c.number.ensures, is) at c.put_refused_line.ensures
