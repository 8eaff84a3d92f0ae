use Rattle.std.proofs.Common.{◌≡◌, ◌+◌, ◌*◌, get_or, drop, ◌<◌}
use Rattle.spec.specs.Index.{header, keys_of}
use Rattle.models.specs.Gaps.{first_as}
use mathlib.Core.Path.{sym, ap, ◌∙◌}
use native.Mathlib.Omega.{arith}
use lib.Seq.{get_or-drop}
use Rattle.laws.specs.Gaps.GapWriting.{firsts_start, firsts_step, firsts_end}
use Rattle.laws.specs.Gaps.GapParts.{counts_all, LineThere, line_there}
use Rattle.gaps.proofs.writing.put_firsts.Goals as goal

pub loop-i-init : goal.loop-i-init
loop-i-init g c =
    firsts_start c.requires.2.0 c.requires.2.1 (counts_all c.requires.0.fits)

pub bounds-index-first : goal.bounds-index-first
bounds-index-first g c =
    let below : c.loop-i.i < keys_of c.args.index.now = omega arith in
    let there : LineThere c.args.index.now c.loop-i.part c.loop-i.i c.loop-i.at = line_there c.requires.0 c.loop-i.invariant below in
    let t = there in omega arith

pub bounds-part-at : goal.bounds-part-at
bounds-part-at g c =
    let below : c.loop-i.i < keys_of c.args.index.now = omega arith in
    let there : LineThere c.args.index.now c.loop-i.part c.loop-i.i c.loop-i.at = line_there c.requires.0 c.loop-i.invariant below in
    there.write

pub loop-i-preserved : goal.loop-i-preserved
loop-i-preserved g c =
    let below : c.loop-i.i < keys_of c.args.index.now = omega arith in
    let walk = c.loop-i in
    let xs = c.args.index.now in
    let start = header + 3 * keys_of xs in
    let f = first_as g.F.ListForm.as_gaps in
    let line = below in
    let first : c.first_number.result ≡ f (get_or (drop start xs) walk.at 0) =
    c.first_number.ensures ∙ ap f (rw c.requires.1 (sym (get_or-drop start xs walk.at 0))) in
    rw (first, c.next_line-line.ensures.to_is) (firsts_step walk.invariant line (c.requires.0.some walk.i line))

pub returns : goal.returns
returns g c = firsts_end c.loop-i.invariant (omega arith)
