use Rattle.std.proofs.Common.{arith}
use Rattle.laws.specs.Cut.Cutting.{listing_start, listing_room, listing_step, listing_pass, listing_end}
use Rattle.cutter.specs.Flags.{flagged_lines}
use Rattle.cutter.proofs.cutting.Flagged.write_directory.Goals as goal
use Rattle.cutter.proofs.cutting.Flagged.write_directory.Goals.{then-self-line-ne0, else-self-line-ne0}

pub key_count-line-end-requires : goal.key_count-line-end-requires
key_count-line-end-requires c = omega (arith, (flagged_lines c.args.self.now).fits)

pub loop-line-init : goal.loop-line-init
loop-line-init c = listing_start (flagged_lines c.args.self.now) c.args.output.now c.requires

pub write_line-requires : goal.write_line-requires
write_line-requires c =
    (listing_room c.loop-line.invariant (omega arith) c.if-self-line-ne0.true, omega arith, omega arith, omega arith)

pub loop-line-preserved : goal.loop-line-preserved
loop-line-preserved c =
    elim c.if-self-line-ne0.branch [
      | then-self-line-ne0 w ↦ rw (w.output-is, w.keys-is)
          (listing_step c.loop-line.invariant (omega arith) w.if-self-line-ne0.true w.next_line-kind.ensures.kind_is
          w.next_line-kind.ensures.value_is (omega arith) w.write_line.ensures)
      | else-self-line-ne0 w ↦ rw (w.output-is, w.keys-is)
          (listing_pass c.loop-line.invariant (omega arith) w.if-self-line-ne0.false)
    ]

pub returns : goal.returns
returns c = listing_end c.loop-line.invariant (omega arith)
