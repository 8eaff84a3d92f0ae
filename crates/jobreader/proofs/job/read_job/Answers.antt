-- `read_job` meets its contract: the sheet is too long, or broken, or read and its parts tested.
use Rattle.std.proofs.Common.{refl, ap, ◌∙◌, sym, arith}
use Rattle.spec.specs.Refusals.{number_of}
use Rattle.laws.specs.JobSheet.JobReading.{job_parts, parts_tested, sheet_long, sheet_broken, sheet_whole}
use Rattle.jobreader.specs.declared.sheet.Parts.{Parts}
use Rattle.dictionary.specs.Passing.{passed_on}
use Rattle.jobreader.proofs.job.read_job.Goals as goal

pub returns-then-sheet-gt32768-clause-refusal : goal.returns-then-sheet-gt32768-clause-refusal
returns-then-sheet-gt32768-clause-refusal c = sym (sheet_long c.args.sheet.now c.if-sheet-gt32768.true)

pub returns-in_err-parts-clause-refusal : goal.returns-in_err-parts-clause-refusal
returns-in_err-parts-clause-refusal c =
    let none = c.in_err-parts.ensures.ok_part in
    let eleven = ap (number_of {A = Parts}) (rw none at c.in_err-parts.ensures.value) in
    rw (passed_on _ _ c.from_residual.ensures.1)
    (eleven ∙ sym (sheet_broken c.args.sheet.now c.if-sheet-gt32768.false (rw none at c.read_sheet.ensures)))

pub test_job-requires : goal.test_job-requires
test_job-requires c =
    let parts = job_parts (rw c.in_ok-parts.ensures.ok_part at c.read_sheet.ensures) refl in
    (omega arith, parts.lengths_fit)

pub returns-in_err-test_job-clause-refusal : goal.returns-in_err-test_job-clause-refusal
returns-in_err-test_job-clause-refusal c =
    let read = rw c.in_ok-parts.ensures.ok_part at c.read_sheet.ensures in
    rw (passed_on _ _ c.from_residual-in_err-test_job.ensures.1)
    (c.in_err-test_job.ensures ∙ parts_tested (job_parts read refl)
    ∙ sym (sheet_whole c.args.sheet.now c.if-sheet-gt32768.false (sym read.tested)))

pub returns-clause-refusal : goal.returns-clause-refusal
returns-clause-refusal c =
    let read = rw c.in_ok-parts.ensures.ok_part at c.read_sheet.ensures in
    c.in_ok-test_job.ensures ∙ parts_tested (job_parts read refl)
    ∙ sym (sheet_whole c.args.sheet.now c.if-sheet-gt32768.false (sym read.tested))

pub returns-clause-parts : goal.returns-clause-parts
returns-clause-parts c = job_parts (rw c.in_ok-parts.ensures.ok_part at c.read_sheet.ensures) refl
