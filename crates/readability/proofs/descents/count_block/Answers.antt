use Rattle.std.proofs.Common.{◌≡◌, ◌+◌, ◌-◌, ◌∙◌, ℕ, length, arith}
use Rattle.std.specs.Slice.Iter.{windows_rest}
use Rattle.std.proofs.lemmas.Iterator.{window_more}
use Rattle.laws.specs.Readable.Descents.{counted_step, counted_end}
use Rattle.readability.proofs.descents.count_block.Goals as goal

pub loop-pair-preserved : goal.loop-pair-preserved
loop-pair-preserved g c =
    let run = c.args.run.now in
    let h = c.loop-pair.invariant in
    let i : ℕ = length run - length (windows_rest c.loop-pair.pair-iterator) in
    let w = window_more run c.loop-pair.pair-iterator c.next.new.self _ _ c.in-Some.is c.next.ensures.steps (omega arith) h.within h.left in
    let next : length run - length (windows_rest c.next.new.self) ≡ i + 1 = omega arith in
    let zero : i + 0 ≡ i = omega arith in
    record {
      pairs = c.next.ensures.steps.0 ∙ h.pairs;
      within = omega arith;
      left = w.1;
      counted =
          rw (next, c.descent-count.ensures, w.3 0 0 (omega arith), w.3 1 0 (omega arith), zero)
          (counted_step h.counted (omega arith));
    }

pub returns : goal.returns
returns g c = counted_end c.loop-pair.invariant.counted (omega (arith, c.in-None.ensures))
