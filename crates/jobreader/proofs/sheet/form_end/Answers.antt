-- `form_end` meets its contract: the sheet ends without LF, or the line is the form, or it is another line.
use Rattle.std.proofs.Common.{◌≡◌, ℕ, ◌≤◌, ◌<◌, List, Bool, true, false, length, unwrap_or, sym, arith}
use Rattle.std.specs.Bool.{then_some}
use Rattle.spec.specs.JobSheet.{is_form}
use Rattle.laws.specs.Dictionary.WordCode.{part}
use Rattle.laws.specs.JobSheet.LineReading.{LineEnd, FormEnd, form_missing, form_there, form_other_line}
use Rattle.jobreader.proofs.sheet.form_end.Goals as goal

pub returns-in_err-end-clause-ended : goal.returns-in_err-end-clause-ended
returns-in_err-end-clause-ended c =
    rw c.from_residual.ensures (form_missing c.args.head.now c.in_err-end.ensures.ended (omega arith))

told :
    (h s : List ℕ) (at end : ℕ) → at ≤ length s → end < length s → LineEnd s at end →
    (b : Bool) → b ≡ is_form h (part s at end) → FormEnd h s at (unwrap_or (then_some b end) (length s))
told h s at end inside below line true e = form_there h line below (sym e)
told h s at end inside below line false e = form_other_line h line below (sym e) inside

pub returns-clause-ended : goal.returns-clause-ended
returns-clause-ended c =
    let line = c.in_ok-end in
    rw c.then_some.ensures
    (told c.args.head.now c.args.sheet.now c.args.at line.end c.requires.0 line.ensures.within line.ensures.ended _ c.is_form.ensures)
