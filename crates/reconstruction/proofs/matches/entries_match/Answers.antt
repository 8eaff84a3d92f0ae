use Rattle.basics.specs.Bools.{reflects_yes, reflects_no}
use Rattle.laws.specs.Receive.EntriesMatch.{matching_step, matching_end, line_matches}
use Rattle.dictionary.specs.Words.{lexicon_of}
use Rattle.directory.specs.Directory.{directory_reads}
use Rattle.layout.specs.Lists.{list_part}
use Rattle.reconstruction.proofs.matches.entries_match.Goals as goal

pub new-line-items-requires : goal.new-line-items-requires
new-line-items-requires c = (directory_reads c.args.directory.now).can.fits

pub line_stands-requires : goal.line_stands-requires
line_stands-requires c =
    let step = rw c.loop-line.invariant.0 at c.in-Some.ensures.steps in
    record { len = c.requires; line_is = rw step.1 step.0 }

pub returns-then-not-line_stands : goal.returns-then-not-line_stands
returns-then-not-line_stands c =
    let step = rw c.loop-line.invariant.0 at c.in-Some.ensures.steps in
    let stands = rw (list_part step.0, step.1) at c.line_stands.ensures in
    reflects_no
    (λ all.
    stands.fails c.if-not-line_stands.true (line_matches (lexicon_of c.args.directory.now.words) c.args.text.now step.0.is all))

pub loop-line-preserved : goal.loop-line-preserved
loop-line-preserved c =
    let step = rw c.loop-line.invariant.0 at c.in-Some.ensures.steps in
    let stands = rw (list_part step.0, step.1) at c.line_stands.ensures in
    (step.2, rw step.3 (matching_step c.loop-line.invariant.1 step.0.is (stands.holds c.if-not-line_stands.false)))

pub returns : goal.returns
returns c =
    let none = rw c.loop-line.invariant.0 at c.in-None.ensures.steps in
    reflects_yes (matching_end c.loop-line.invariant.1 none)
