-- `fill_prefix_lengths` meets its contract. The invariant: each start before `at` has the length of the longest prefix that matches there,
-- and the Z-box is one of the string in the text.
use Rattle.laws.specs.TextScan.ZSearch.{PrefixLength, Filling}
use Rattle.zsearch.proofs.prefix_lengths.fill_prefix_lengths.Given as goal

abbrev pub invariant-loop-at : goal.invariant-loop-at
invariant-loop-at l = Filling 0 l.string l.text (PrefixLength l.string l.text) l.initial.reach l.reach l.at l.zbox.left l.zbox.right
