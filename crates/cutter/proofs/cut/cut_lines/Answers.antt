-- `cut_lines` meets its contract: the array of flags is long enough in each case.
use native.Mathlib.Omega.{arith}
use Rattle.directory.specs.Directory.{directory_reads}
use Rattle.cutter.proofs.cut.cut_lines.Goals as goal

pub key_count-keys-requires : goal.key_count-keys-requires
key_count-keys-requires c = omega (arith, (directory_reads c.args.directory.now).can.fits)
