-- `new` meets its contract: no more starts than the text has characters.
use native.Mathlib.Omega.{arith}
use Rattle.directory.specs.Directory.{directory_reads, directory_short}
use Rattle.searcher.proofs.starts.Starts.new.Goals as goal

pub text_len-n-requires : goal.text_len-n-requires
text_len-n-requires c = omega (arith, (directory_reads c.args.postings.directory).can.fits)

pub invariant_of-result : goal.invariant_of-result
invariant_of-result c = record {
  is_string = c.requires;
  counted = omega arith;
  short = omega (arith, c.requires, directory_short c.args.postings.directory);
}
