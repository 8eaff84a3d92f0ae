use Rattle.std.proofs.Common.{length}
use Rattle.std.proofs.lemmas.List.{map-id}
use native.Mathlib.Omega.{arith}
use Rattle.laws.specs.TextScan.ZSearch.{LongestPrefixAt}
use Rattle.zsearch.proofs.Walk.{filling_step}
use Rattle.zsearch.proofs.prefix_lengths.fill_prefix_lengths.Goals as goal

pub loop-at-preserved : goal.loop-at-preserved
loop-at-preserved c =
    let a = c.args in
    let found = c.longest_prefix in
    let longest : LongestPrefixAt a.string.now a.text.now c.loop-at.at (length a.string.now) found.result =
    rw (map-id a.text.now) at found.ensures.longest in
    filling_step found.result c.loop-at.invariant (omega arith) longest longest.lies found.ensures.zbox
