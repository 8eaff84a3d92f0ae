-- `step` meets its contract: a word is found, or the position is covered, or its character is registered alone.
use Rattle.std.proofs.Common.{arith}
use Rattle.laws.specs.Build.ScanTokens.{step_small, step_fits, step_word, step_none, step_lone}
use Rattle.scanning.specs.Steps.{scannable}
use Rattle.scanning.proofs.scan.step.Goals as goal

pub overflow_add-result : goal.overflow_add-result
overflow_add-result c =
    omega (arith, step_small (scannable c.args.table.now c.requires.0 c.requires.1) c.args.end c.in-Some.ensures (omega arith))

pub overflow_add-result-in-Some : goal.overflow_add-result-in-Some
overflow_add-result-in-Some c =
    omega (arith, step_fits (scannable c.args.table.now c.requires.0 c.requires.1) c.args.end c.in-Some.ensures (omega arith))

pub returns-in-Some-clause-stepped : goal.returns-in-Some-clause-stepped
returns-in-Some-clause-stepped c =
    step_word (scannable c.args.table.now c.requires.0 c.requires.1) c.args.end c.in-Some.ensures (omega arith)

pub returns-in-Some-clause-small : goal.returns-in-Some-clause-small
returns-in-Some-clause-small c =
    step_small (scannable c.args.table.now c.requires.0 c.requires.1) c.args.end c.in-Some.ensures (omega arith)

pub returns-in-None-clause-stepped : goal.returns-in-None-clause-stepped
returns-in-None-clause-stepped c =
    step_none (scannable c.args.table.now c.requires.0 c.requires.1) c.args.end c.in-None.ensures (omega arith) c.if-at-end.true
    c.requires.2

pub returns-in-None-2-clause-stepped : goal.returns-in-None-2-clause-stepped
returns-in-None-2-clause-stepped c =
    step_lone (scannable c.args.table.now c.requires.0 c.requires.1) c.args.end c.in-None-2.ensures (omega arith) c.if-at-end.false
