-- `reach_reconstructed` meets its contract: it answers whether every entry stands in the reconstructed text, and fills the
-- window if so.
use native.Mathlib.Omega.{arith}
use Rattle.laws.specs.TextScan.ReconstructedSearch.{reconstructed_finds, reconstructed_once}
use Rattle.finding.proofs.text_scan.reach_reconstructed.Goals as goal

pub returns-then-not-reconstruct_checked-clause-reconstructed :
    goal.returns-then-not-reconstruct_checked-clause-reconstructed
returns-then-not-reconstruct_checked-clause-reconstructed c =
    reconstructed_once c.sentinel_of-sentinel.ensures.0 c.reconstruct_checked.ensures c.if-not-reconstruct_checked.true

pub returns-clause-told : goal.returns-clause-told
returns-clause-told c t =
    reconstructed_finds c.reconstruct_checked.ensures c.if-not-reconstruct_checked.false c.args.string.now
    c.sentinel_of-sentinel.ensures.0.absent c.reach_prefixes.new.reach (omega arith) c.reach_prefixes.ensures

pub returns-clause-reconstructed : goal.returns-clause-reconstructed
returns-clause-reconstructed c =
    reconstructed_once c.sentinel_of-sentinel.ensures.0 c.reconstruct_checked.ensures c.if-not-reconstruct_checked.false
