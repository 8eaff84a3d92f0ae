use Rattle.std.proofs.Common.{ℕ, arith}
use Rattle.laws.specs.JobSheet.LineReading.{FormEnd}
use Rattle.laws.specs.JobSheet.SheetReading.{forms_start, forms_end, forms_step, line_len, line_good, string_short}
use Rattle.laws.specs.JobSheet.SheetReading.{string_fits, length_fits}
use Rattle.jobreader.proofs.sheet.read_forms.Goals as goal

pub loop-end-init : goal.loop-end-init
loop-end-init c =
    let room = c.requires.0 in
    let starts = λ (end : ℕ) (here : FormEnd c.args.head.now c.args.sheet.now c.args.from.at end). forms_start room here in
    (room.short, c.requires.1, room.within, starts)

pub put_string-next-requires : goal.put_string-next-requires
put_string-next-requires c =
    let read = c.loop-end.invariant.3 c.in-Some.end c.in-Some.ensures.ended in
    let below = c.in-Some.ensures.within in
    (omega (arith, line_len read below), line_good read below, string_fits read below)

pub overflow_cast-lengths : goal.overflow_cast-lengths
overflow_cast-lengths c =
    let read = c.loop-end.invariant.3 c.in-Some.end c.in-Some.ensures.ended in
    omega (arith, string_short read c.in-Some.ensures.within c.loop-end.invariant.0)

pub bounds-lengths-count : goal.bounds-lengths-count
bounds-lengths-count c =
    let read = c.loop-end.invariant.3 c.in-Some.end c.in-Some.ensures.ended in
    length_fits read c.in-Some.ensures.within

pub loop-end-preserved : goal.loop-end-preserved
loop-end-preserved c =
    let read = c.loop-end.invariant.3 c.in-Some.end c.in-Some.ensures.ended in
    let below = c.in-Some.ensures.within in (
      c.loop-end.invariant.0,
      c.loop-end.invariant.1,
      omega arith,
      λ (end : ℕ) (here : FormEnd c.args.head.now c.args.sheet.now _ end). forms_step read below c.put_string-next.ensures here,
    )

pub returns : goal.returns
returns c = forms_end (c.loop-end.invariant.3 _ c.in_default.ensures.ended) (omega arith)
