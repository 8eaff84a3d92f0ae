-- `reach_by_text` is safe: the text is not longer than the local array.
use native.Mathlib.Omega.{arith}
use Rattle.directory.specs.Directory.{directory_reads}
use Rattle.searcher.proofs.window.reach_by_text.Goals as goal

pub text_len-n-requires : goal.text_len-n-requires
text_len-n-requires c = omega (arith, (directory_reads c.args.starts.now.postings.directory).can.fits)
