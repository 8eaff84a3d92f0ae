use mathlib.Core.Path.{refl, ◌∙◌}
use native.Mathlib.Omega.{arith}
use Rattle.laws.specs.JobSheet.FindWalk.{finds_start, finds_end, string_fits, string_is, find_fits, finds_step}
use Rattle.jobsheet.proofs.finds.put_finds.Goals as goal

pub slice_bounds-put_find-end : goal.slice_bounds-put_find-end
slice_bounds-put_find-end c = omega (arith, string_fits c.loop-count.invariant.1 c.loop-count-test.true)

pub put_find-end-requires-clause-is_string : goal.put_find-end-requires-clause-is_string
put_find-end-requires-clause-is_string c = string_is c.loop-count.invariant.1 c.loop-count-test.true

pub put_find-end-requires-clause-line_fits : goal.put_find-end-requires-clause-line_fits
put_find-end-requires-clause-line_fits c = find_fits c.loop-count.invariant.1 c.loop-count-test.true

pub loop-count-init : goal.loop-count-init
loop-count-init c =
    let strings = c.requires.strings_good in
    (refl, finds_start strings.tested strings.fits c.requires.lines_fit)

pub loop-count-preserved : goal.loop-count-preserved
loop-count-preserved c = (
  c.put_find-end.auto.found ∙ c.loop-count.invariant.0,
  finds_step c.loop-count.invariant.1 c.loop-count-test.true c.put_find-end.ensures,
)

pub returns : goal.returns
returns c = finds_end c.loop-count.invariant.1 c.loop-count-test.false
