-- `line_end` meets its contract: there is no LF before the first.
use Rattle.std.proofs.Common.{◌-◌, length, drop, ◌∙◌, arith, rules, tests, eqb, length-drop}
use Rattle.std.proofs.Math.Seq.{take_all}
use Rattle.std.proofs.lemmas.Iterator.{YieldsList-from_slice}
use Rattle.std.proofs.lemmas.Iterator.Search.{position_from_yields_List}
use Rattle.spec.specs.JobSheet.{line_feed}
use Rattle.jobreader.proofs.Lines.{line_told}
use Rattle.jobreader.proofs.sheet.line_end.Goals as goal

pub returns-in_err-len-clause-ended : goal.returns-in_err-len-clause-ended
returns-in_err-len-clause-ended c =
    let s = c.args.sheet.now in
    let whole = take_all (length s - c.args.at) (drop c.args.at s) (omega (arith, length-drop c.args.at s)) in
    let told = position_from_yields_List (λ b. eqb b line_feed) _ _ c.position.result c.position.ensures.ran
    (YieldsList-from_slice (drop c.args.at s) (c.iter.ensures.rest ∙ whole)) (λ x b q k. search (rules, tests)) in
    rw c.from_residual.ensures (rw c.in_err-len.was at (line_told s c.args.at c.requires c.position.result told))

pub returns-clause-ended : goal.returns-clause-ended
returns-clause-ended c =
    let s = c.args.sheet.now in
    let whole = take_all (length s - c.args.at) (drop c.args.at s) (omega (arith, length-drop c.args.at s)) in
    let told = position_from_yields_List (λ b. eqb b line_feed) _ _ c.position.result c.position.ensures.ran
    (YieldsList-from_slice (drop c.args.at s) (c.iter.ensures.rest ∙ whole)) (λ x b q k. search (rules, tests)) in
    rw c.in_ok-len.was at (line_told s c.args.at c.requires c.position.result told)
