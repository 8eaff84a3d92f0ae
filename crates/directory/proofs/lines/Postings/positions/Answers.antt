-- `positions` meets its contract: the index of a directory fits, and the table is that of its list starts.
use Rattle.directory.specs.Directory.{directory_reads}
use Rattle.directory.proofs.lines.Postings.positions.Goals as goal

pub positions_of-requires : goal.positions_of-requires
positions_of-requires c =
    let p = c.args.self.now in
    ((directory_reads p.directory).can.fits, p.filled, c.requires)
