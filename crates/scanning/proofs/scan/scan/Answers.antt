use Rattle.laws.specs.Build.TextBehind.{behind_start, behind_chars, behind_below, behind_end_within, behind_step}
use Rattle.laws.specs.Build.TextBehind.{behind_tokens}
use Rattle.scanning.proofs.scan.scan.Goals as goal

pub loop-at-init : goal.loop-at-init
loop-at-init c = behind_start c.args.n

pub step-next-requires : goal.step-next-requires
step-next-requires c =
    let n = c.args.n in (
      behind_chars n c.requires.1 c.loop-at.invariant c.requires.0,
      behind_below n c.requires.1 c.loop-at.invariant c.loop-at-test.true,
      behind_end_within n c.requires.1 c.loop-at.invariant,
    )

pub loop-at-preserved : goal.loop-at-preserved
loop-at-preserved c =
    behind_step c.args.n c.requires.1 c.loop-at.invariant c.step-next.result.end
    c.loop-at-test.true c.step-next.ensures.stepped

pub returns-clause-tokens : goal.returns-clause-tokens
returns-clause-tokens c = behind_tokens c.args.n c.requires.1 c.loop-at.invariant c.loop-at-test.false
