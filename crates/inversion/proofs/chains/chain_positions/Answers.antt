use Rattle.std.proofs.Common.{◌≡◌, suc, ◌<◌, length, ◌-◌}
use Rattle.spec.specs.Replaced.{replaced}
use Rattle.models.specs.Inversion.{coded}
use native.Mathlib.Omega.{arith}
use lib.ListN.{get_or}
use Rattle.laws.specs.Text.WidthFolding.{length_replaced, getD_replaced}
use Rattle.laws.specs.Build.KeyCode.{coded_none}
use Rattle.laws.specs.Build.PostingChains.{links_start, links_below, links_passed, links_new, links_more}
use Rattle.inversion.proofs.chains.chain_positions.Goals as goal

pub loop-p-init : goal.loop-p-init
loop-p-init c =
    links_start (replaced c.args.text.now) c.args.tokens.now c.requires.fresh

pub bounds-text-p : goal.bounds-text-p
bounds-text-p c =
    let below : c.loop-p.p - 1 < length c.loop-p.tokens = links_below (c.loop-p.p - 1) (omega arith) c.loop-p.invariant in
    omega (arith, below, length_replaced c.args.text.now)

pub loop-p-preserved-then-head-eq0 : goal.loop-p-preserved-then-head-eq0
loop-p-preserved-then-head-eq0 c =
    let l = c.loop-p in
    let code = c.code_of-code in
    let code_is : coded (get_or l.tokens (l.p - 1) 0) (get_or (replaced c.args.text.now) (l.p - 1) 0) ≡ suc code.result =
    rw (← c.number_at-token.ensures.0, getD_replaced c.args.text.now (l.p - 1)) code.ensures.is in
    links_new (l.p - 1) (omega arith) l.invariant code.result code_is code.ensures.small c.if-head-eq0.true

pub loop-p-preserved-else-head-eq0 : goal.loop-p-preserved-else-head-eq0
loop-p-preserved-else-head-eq0 c =
    let l = c.loop-p in
    let code = c.code_of-code in
    let code_is : coded (get_or l.tokens (l.p - 1) 0) (get_or (replaced c.args.text.now) (l.p - 1) 0) ≡ suc code.result =
    rw (← c.number_at-token.ensures.0, getD_replaced c.args.text.now (l.p - 1)) code.ensures.is in
    links_more (l.p - 1) (omega arith) l.invariant code.result code_is code.ensures.small c.if-head-eq0.false

pub loop-p-preserved : goal.loop-p-preserved
loop-p-preserved c =
    let l = c.loop-p in
    links_passed (l.p - 1) (omega arith) l.invariant
    (coded_none (get_or l.tokens (l.p - 1) 0) (get_or (replaced c.args.text.now) (l.p - 1) 0)
    (rw (← c.number_at-token.ensures.0) c.if-token-ne0.false))
