-- `put_printed` meets its contract: building is accepted, and the lines of the index that it wrote are printed.
use Rattle.std.proofs.Common.{sym, arith, length-take-le}
use Rattle.laws.specs.JobSheet.AcceptedCalls.{index_usable}
use Rattle.laws.specs.JobSheet.JobAnswering.{index_shown}
use Rattle.jobsheet.specs.Accepted.{build_ok, build_taken}
use Rattle.jobsheet.proofs.lines.put_printed.Goals as goal

pub unwrap-count-requires : goal.unwrap-count-requires
unwrap-count-requires c = build_ok c.args.job.buildable _ _ _ _ (omega arith) (omega arith) _ c.build.ensures

pub slice_bounds-index-end : goal.slice_bounds-index-end
slice_bounds-index-end c =
    (build_taken c.args.job.buildable _ _ _ _ (omega arith) (omega arith) c.unwrap-count.ensures c.build.ensures).room

pub slice_bounds-put_lines-end : goal.slice_bounds-put_lines-end
slice_bounds-put_lines-end c =
    let index = build_taken c.args.job.buildable _ _ _ _ (omega arith) (omega arith) c.unwrap-count.ensures c.build.ensures in
    sym (length-take-le _ _ index.room)

pub put_lines-requires : goal.put_lines-requires
put_lines-requires c =
    let index = build_taken c.args.job.buildable _ _ _ _ (omega arith) (omega arith) c.unwrap-count.ensures c.build.ensures in
    (rw index.is (index_usable c.args.job.buildable), c.requires)

pub returns : goal.returns
returns c =
    let j = c.args.job in
    let index = build_taken j.buildable _ _ _ _ (omega arith) (omega arith) c.unwrap-count.ensures c.build.ensures in
    let is = index_shown j.chars.now j.lengths.now j.text.now j.strings.now j.counts.now _ index.is in
    rw is at c.put_lines.ensures
