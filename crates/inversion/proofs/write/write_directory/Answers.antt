use Rattle.std.proofs.Common.{length, get_or, arith}
use Rattle.basics.specs.Chain.{chain, chain_short}
use Rattle.spec.specs.Numbers.{line}
use Rattle.models.specs.Inversion.{code_key}
use Rattle.laws.specs.Build.CodeWalk.{line_numbers_three, line_numbers_are, directory_by_line, listing_room}
use Rattle.inversion.proofs.CodeWalk.{listed_next, listed_step, listed_end}
use Rattle.inversion.proofs.write.write_directory.Goals as goal

pub write_key-requires : goal.write_key-requires
write_key-requires c =
    let code = c.in-Some.code in
    let links = c.args.links.now in
    let head = get_or c.args.heads.now code 0 in
    let step = rw c.loop-code.invariant.0 at c.in-Some.ensures.steps in (
      omega (
        arith,
        listing_room directory_by_line (listed_next c.loop-code.invariant.1 step.0) c.requires.listable.threads step.1,
        line_numbers_three (line (code_key code) (chain links head)),
      ),
      c.key_of_code.ensures.1,
      omega (arith, chain_short (length links) links head),
    )

pub loop-code-preserved : goal.loop-code-preserved
loop-code-preserved c =
    let code = c.in-Some.code in
    let count = c.chain_length-count in
    let step = rw c.loop-code.invariant.0 at c.in-Some.ensures.steps in (
      step.2,
      rw step.3
          (listed_step c.loop-code.invariant.1 step.0 directory_by_line c.requires.listable.threads step.1
          (line_numbers_are code count.result (chain c.args.links.now (get_or c.args.heads.now code 0)) count.ensures)
          (record { ends = omega arith; content = rw c.key_of_code.ensures.0 at c.write_key.ensures })),
    )

pub returns : goal.returns
returns c =
    let none = rw c.loop-code.invariant.0 at c.in-None.ensures.steps in
    (listed_end c.loop-code.invariant.1 none directory_by_line (omega arith)).content
