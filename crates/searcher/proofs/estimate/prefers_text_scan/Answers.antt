-- `prefers_text_scan` meets its contract: it answers true only where the string fits.
use native.Mathlib.Omega.{arith}
use Rattle.laws.specs.Window.LineRanges.{kinds_rise, split_found}
use Rattle.directory.specs.Directory.{directory_reads, directory_short}
use Rattle.searcher.proofs.estimate.prefers_text_scan.Goals as goal

pub count_word_lines-requires : goal.count_word_lines-requires
count_word_lines-requires c =
    let can = (directory_reads c.args.starts.now.postings.directory).can in
    (can.fits, kinds_rise can)

pub invariant_of-estimate : goal.invariant_of-estimate
invariant_of-estimate c =
    let s = c.args.starts.now in
    record { is_string = s.is_string; split = split_found (directory_reads s.postings.directory).can c.count_word_lines.ensures }

pub text_len-requires : goal.text_len-requires
text_len-requires c = omega (arith, (directory_reads c.args.starts.now.postings.directory).can.fits)

pub exceeds-requires : goal.exceeds-requires
exceeds-requires c = omega (arith, directory_short c.args.starts.now.postings.directory)
