-- `write_lists` of positions meets its contract: the distances of all positions as one list, then the first number of each list.
use mathlib.Core.Path.{◌∙◌}
use Rattle.laws.specs.Gaps.GapParts.{distances_ready, gaps_written}
use Rattle.gaps.proofs.writing.PositionsWrittenForm.write_lists.Goals as goal

pub put_firsts-requires : goal.put_firsts-requires
put_firsts-requires c = (
  c.requires.0,
  c.requires.1,
  distances_ready c.requires.0.fits c.args.first c.requires.1 _ c.write_distances.ensures,
)

pub returns : goal.returns
returns c =
    c.put_firsts.ensures ∙ gaps_written c.requires.0.fits c.args.first c.requires.1
