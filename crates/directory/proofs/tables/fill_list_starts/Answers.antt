use mathlib.Core.Path.{refl, ◌∙◌}
use native.Mathlib.Omega.{arith}
use lib.ListN.{length-set}
use Rattle.laws.specs.Numbers.DirectoryWalk.{counts_next, list_room}
use Rattle.laws.specs.Directory.Tables.{list_starts_none, list_starts_first, list_starts_next}
use Rattle.directory.proofs.tables.fill_list_starts.Goals as goal

pub loop-i-init : goal.loop-i-init
loop-i-init c =
    let a = c.args in (
      list_starts_none a.index.now a.list_starts.now (omega arith),
      refl,
      list_starts_first a.index.now,
      omega arith,
      c.requires.1,
      c.requires.2,
      c.requires.0,
    )

pub next_line-line-requires : goal.next_line-line-requires
next_line-line-requires c =
    let l = c.loop-i in
    let index = c.args.index.now in
    (omega arith, omega (arith, list_room index l.i (omega arith) l.invariant.6))

pub loop-i-preserved : goal.loop-i-preserved
loop-i-preserved c =
    let a = c.args in
    let l = c.loop-i in (
      list_starts_next a.index.now l.invariant.0 (omega arith) c.to_sum.result (omega arith),
      length-set l.list_starts l.i c.to_sum.result ∙ l.invariant.1,
      omega (arith, counts_next l.i a.index.now),
      omega arith,
      l.invariant.4,
      l.invariant.5,
      l.invariant.6,
    )
