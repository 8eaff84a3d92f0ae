use Rattle.std.proofs.Common.{◌-◌, length}
use Rattle.std.proofs.lemmas.List.{map-id}
use native.Mathlib.Omega.{arith}
use Rattle.laws.specs.TextScan.ZSearch.{LongestPrefixAt}
use Rattle.zsearch.proofs.Walk.{filling_step}
use Rattle.zsearch.proofs.zarray.fill_zarray.Goals as goal

pub longest_prefix-requires-clause-zbox : goal.longest_prefix-requires-clause-zbox
longest_prefix-requires-clause-zbox c =
    let h = c.loop-at.invariant in
    rw (map-id c.args.string.now) (1, h.from, h.zbox, λ j before b. h.told j (omega arith))

pub loop-at-preserved : goal.loop-at-preserved
loop-at-preserved c =
    let s = c.args.string.now in
    let at = c.loop-at.at in
    let found = c.longest_prefix in
    let longest : LongestPrefixAt s s at (length s - at) found.result = rw (map-id s) at found.ensures.longest in
    filling_step found.result c.loop-at.invariant (omega arith) (λ some. longest) longest.lies found.ensures.zbox
