-- `fill_zarray` meets its contract. The invariant: each index before `at` has the length of the longest prefix that starts there,
-- the other numbers are unchanged, and the Z-box is one of the string in itself, from index 1 on.
use Rattle.laws.specs.TextScan.ZSearch.{ZValue, Filling}
use Rattle.zsearch.proofs.zarray.fill_zarray.Given as goal

abbrev pub invariant-loop-at : goal.invariant-loop-at
invariant-loop-at l = Filling 1 l.string l.string (ZValue l.string) l.initial.zarray l.zarray l.at l.zbox.left l.zbox.right
