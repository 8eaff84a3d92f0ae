use Rattle.std.proofs.Common.{◌∙◌}
use Rattle.laws.specs.Receive.ReconstructionWalk.{reconstructing_step, reconstructing_end}
use Rattle.dictionary.specs.Words.{lexicon_of}
use Rattle.directory.specs.Directory.{directory_reads}
use Rattle.layout.specs.Lists.{list_part}
use Rattle.reconstruction.proofs.entries.reconstruct_entries.Goals as goal

pub new-line-items-requires : goal.new-line-items-requires
new-line-items-requires c = (directory_reads c.args.directory.now).can.fits

pub reconstruct_line-requires : goal.reconstruct_line-requires
reconstruct_line-requires c =
    let step = rw c.loop-line.invariant.0 at c.in-Some.ensures.steps in
    record { len = c.loop-line.invariant.1.len ∙ c.requires; line_is = rw step.1 step.0 }

pub loop-line-preserved : goal.loop-line-preserved
loop-line-preserved c =
    let step = rw c.loop-line.invariant.0 at c.in-Some.ensures.steps in (
      step.2,
      rw step.3
          (reconstructing_step (lexicon_of c.args.directory.now.words) c.loop-line.invariant.1 step.0.is
          (rw (list_part step.0, step.1) at c.reconstruct_line.ensures)),
    )

pub returns : goal.returns
returns c =
    let none = rw c.loop-line.invariant.0 at c.in-None.ensures.steps in
    reconstructing_end (lexicon_of c.args.directory.now.words) c.loop-line.invariant.1 none
