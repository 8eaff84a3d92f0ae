-- `postings_of` meets its contract: a readable index has as many lines as its header says.
use Rattle.std.proofs.Common.{arith}
use Rattle.directory.specs.Directory.{directory_reads}
use Rattle.directory.proofs.opened.postings_of.Goals as goal

pub key_count-requires : goal.key_count-requires
key_count-requires c = omega (arith, (directory_reads c.args.directory).can.fits)

pub fill_list_starts-requires : goal.fill_list_starts-requires
fill_list_starts-requires c =
    let can = (directory_reads c.args.directory).can in
    (can.fits, c.key_count.ensures.0, c.key_count.ensures.1, omega arith)
