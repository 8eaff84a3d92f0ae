-- `new` meets its contract: the positions of line 0 start where the directory ends.
use Rattle.std.proofs.Common.{arith}
use Rattle.spec.specs.Index.{counts_from}
use Rattle.layout.proofs.lines.Lines.new.Goals as goal

pub invariant_of-result : goal.invariant_of-result
unfolding counts_from
invariant_of-result c =
    record {
      fits = c.requires;
      keys_is = c.key_count-keys.ensures.0;
      keys_small = c.key_count-keys.ensures.1;
      within = omega arith;
      at_is = omega (arith, c.line_start.ensures, c.key_count-keys.ensures.0);
    }
