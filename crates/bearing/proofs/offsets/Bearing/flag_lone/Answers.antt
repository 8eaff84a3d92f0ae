-- `flag_lone` meets its contract: the character has one line, or none.
use native.Mathlib.Omega.{arith}
use Rattle.laws.specs.Window.LineRanges.{lone_rise, lone_agrees, lone_others}
use Rattle.laws.specs.Cut.Flagging.{flagged_one, flagged_none}
use Rattle.directory.specs.Directory.{directory_reads}
use Rattle.bearing.proofs.offsets.Bearing.flag_lone.Goals as goal

pub lone_line-requires : goal.lone_line-requires
lone_line-requires c =
    let b = c.args.self.now in
    let can = (directory_reads b.directory).can in (can.fits, lone_rise can b.split)

pub returns-in-Some : goal.returns-in-Some
returns-in-Some c =
    let b = c.args.self.now in
    let can = (directory_reads b.directory).can in
    let line = rw c.in-Some.is at c.lone_line.ensures.line in
    let below = rw c.in-Some.is at c.lone_line.ensures.below in
    flagged_one c.requires.flags c.in-Some.line below
    (lone_agrees can b.split b.string.now c.args.key_start line below c.requires.inside)
    (lone_others can b.split b.string.now c.args.key_start line)

pub returns-in_default : goal.returns-in_default
returns-in_default c =
    let b = c.args.self.now in
    let can = (directory_reads b.directory).can in
    let none = rw c.in_default.is at c.lone_line.ensures.line in
    flagged_none c.requires.flags
    (λ i from below.
    lone_others can b.split b.string.now c.args.key_start none i from below (λ e. omega arith))
