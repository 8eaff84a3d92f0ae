-- `first_lines` is safe: the largest table is long enough for a readable index.
use Rattle.std.proofs.Common.{arith}
use Rattle.directory.specs.Directory.{directory_reads}
use Rattle.searcher.proofs.first.first_lines.Goals as goal

pub key_count-keys-requires : goal.key_count-keys-requires
key_count-keys-requires c = omega (arith, (directory_reads c.args.directory.now).can.fits)
