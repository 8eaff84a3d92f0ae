use Rattle.std.proofs.Common.{arith, refl}
use Rattle.laws.specs.Cut.ExactFlags.{counting_start, counting_step, counting_pass, counting_end}
use Rattle.cutter.specs.Flags.{flagged_lines}
use Rattle.cutter.proofs.cutting.Flagged.size.Goals as goal
use Rattle.cutter.proofs.cutting.Flagged.size.Goals.{then-self-line-ne0, else-self-line-ne0}

pub key_count-line-end-requires : goal.key_count-line-end-requires
key_count-line-end-requires c = omega (arith, (flagged_lines c.args.self.now).fits)

pub loop-line-init : goal.loop-line-init
loop-line-init c = counting_start (flagged_lines c.args.self.now)

pub loop-line-preserved : goal.loop-line-preserved
loop-line-preserved c =
    elim c.if-self-line-ne0.branch [
      | then-self-line-ne0 w ↦ rw (w.keys-is, w.entries-is, w.next_line-entries.ensures.to_is)
          (counting_step c.loop-line.invariant (omega arith) w.if-self-line-ne0.true refl)
      | else-self-line-ne0 w ↦ rw (w.keys-is, w.entries-is)
          (counting_pass c.loop-line.invariant (omega arith) w.if-self-line-ne0.false)
    ]

pub returns : goal.returns
returns c = counting_end c.loop-line.invariant (omega arith) (omega arith)
