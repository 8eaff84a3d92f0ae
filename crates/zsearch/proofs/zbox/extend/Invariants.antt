-- `extend` meets its contract. The invariant: the first `len` characters match.
use Rattle.std.proofs.Common.{◌≤◌, map}
use Rattle.laws.specs.TextScan.ZSearch.{PrefixAt}
use Rattle.zsearch.proofs.zbox.extend.Given as goal

abbrev pub invariant-loop-len : goal.invariant-loop-len
invariant-loop-len g l = PrefixAt l.string (map g.T.Symbol.value l.text) l.at l.len × (l.len ≤ l.limit)
