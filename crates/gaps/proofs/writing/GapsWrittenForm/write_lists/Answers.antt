-- `write_lists` of gaps meets its contract: masks for all gaps as one list, then the first mask of each list, then the masked
-- sums.
use Rattle.std.proofs.Common.{ℕ, ◌≤◌, get_or, List}
use Rattle.models.specs.Gaps.{carry}
use mathlib.Core.Path.{refl, sym, ◌∙◌, subst}
use Rattle.laws.specs.Gaps.GapParts.{masks_ready, masks_len, sums_written}
use Rattle.gaps.proofs.writing.GapsWrittenForm.write_lists.Goals as goal

pub put_firsts-requires : goal.put_firsts-requires
put_firsts-requires c = (
  c.requires.0,
  c.requires.1,
  masks_ready c.requires.0.fits c.args.first c.requires.1 c.args.part.now
      _ c.requires.2 (c.fill.ensures.after (λ y e. e)),
)

pub add_up-requires : goal.add_up-requires
add_up-requires c =
    let can = c.requires.0 in
    let masked = c.put_firsts.ensures in
    let sums = sums_written can.fits c.args.first c.requires.1 (can.totals refl) _ masked in (
      masks_len can.fits c.args.first c.requires.1 (can.totals refl) _ masked,
      λ j. subst (λ (l : List ℕ). get_or l j 0 ≤ carry) (sym sums) (can.sums refl j),
    )

pub returns : goal.returns
returns c =
    let can = c.requires.0 in
    c.add_up.ensures ∙ sums_written can.fits c.args.first c.requires.1 (can.totals refl) _ c.put_firsts.ensures
