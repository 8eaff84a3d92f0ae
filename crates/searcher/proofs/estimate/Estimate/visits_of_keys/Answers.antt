-- `visits_of_keys` meets its contract: the words that agree, and the lone character if it has a line.
use native.Mathlib.Omega.{arith}
use Rattle.laws.specs.Window.LineRanges.{lone_rise}
use Rattle.directory.specs.Directory.{directory_reads}
use Rattle.searcher.proofs.estimate.Estimate.visits_of_keys.Goals as goal

pub lone_line-requires : goal.lone_line-requires
lone_line-requires c =
    let e = c.args.self.now in
    let can = (directory_reads e.directory).can in
    (can.fits, lone_rise can e.split)

pub count_at-requires : goal.count_at-requires
count_at-requires c =
    omega (arith, c.in-Some.ensures.below, (directory_reads c.args.self.now.directory).can.fits)
