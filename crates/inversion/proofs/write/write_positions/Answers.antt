use Rattle.std.proofs.Common.{length, get_or, ap, ◌∙◌, arith}
use Rattle.basics.specs.Chain.{chain}
use Rattle.basics.specs.Writing.{placed_over}
use Rattle.laws.specs.Build.CodeWalk.{line_positions_are, positions_by_line, listing_room}
use Rattle.inversion.proofs.CodeWalk.{listed_next, listed_step, listed_end}
use Rattle.inversion.proofs.write.write_positions.Goals as goal

pub write_chain-here-requires-clause-head_in_bounds :
    goal.write_chain-here-requires-clause-head_in_bounds
write_chain-here-requires-clause-head_in_bounds c =
    let code = c.in-Some.code in
    let step = rw c.loop-code.invariant.0 at c.in-Some.ensures.steps in
    omega (
      arith,
      listing_room positions_by_line (listed_next c.loop-code.invariant.1 step.0) c.requires.listable.threads step.1,
      ap length (line_positions_are code (chain c.args.links.now (get_or c.args.heads.now code 0))),
    )

pub loop-code-preserved : goal.loop-code-preserved
loop-code-preserved c =
    let code = c.in-Some.code in
    let step = rw c.loop-code.invariant.0 at c.in-Some.ensures.steps in (
      step.2,
      rw step.3
          (listed_step c.loop-code.invariant.1 step.0 positions_by_line c.requires.listable.threads step.1
          (line_positions_are code (chain c.args.links.now (get_or c.args.heads.now code 0))) c.write_chain-here.ensures),
    )

pub returns : goal.returns
returns c =
    let none = rw c.loop-code.invariant.0 at c.in-None.ensures.steps in
    (listed_end c.loop-code.invariant.1 none positions_by_line (omega arith)).content ∙ placed_over _ _
