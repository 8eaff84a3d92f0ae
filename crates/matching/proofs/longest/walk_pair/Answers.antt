use Rattle.std.proofs.Common.{◌≡◌, ◌+◌, ◌<◌, length, List, ℕ, ◌≤◌}
use Rattle.std.proofs.Common.{⊎_elim}
use Rattle.basics.specs.Bools.{le_or_lt}
use Rattle.models.specs.WordStarts.{lengths_of, lexicon_at}
use native.Mathlib.Omega.{arith}
use Rattle.laws.specs.Match.MatchTable.{Tables, few_words}
use Rattle.laws.specs.Match.PrefixRanges.{LastStanding}
use Rattle.laws.specs.Match.WordChains.{PairFound, PairWalk, pair_start, pair_none, pair_stop, pair_known, pair_hit, pair_miss}
use Rattle.laws.specs.Match.WordChains.{pair_ranged}
use Rattle.matching.proofs.longest.walk_pair.Goals as goal

pub loop-init : goal.loop-init
loop-init c =
    rw (c.bucket_of_pair-bucket.ensures.value, c.number_at-x.ensures.0, c.number_at-y.ensures.0)
    (pair_start c.args.table.now.filled c.args.text.now c.args.at c.args.end)

pub returns-in_err-number : goal.returns-in_err-number
returns-in_err-number c =
    let end : c.loop.next ≡ 0 = omega (arith, c.in_err-number.ensures) in
    rw c.from_residual.ensures
    (pair_none c.args.table.now.filled c.args.text.now c.args.at c.args.end (rw end at c.loop.invariant))

pub stands_after-requires : goal.stands_after-requires
stands_after-requires c =
    let is = c.in_ok-number.ensures in
    let known = pair_known c.args.table.now.filled c.args.text.now c.args.at c.args.end c.loop.invariant (omega (arith, is.0)) in
    (omega (arith, c.requires), omega (arith, is.1, known))

pub returns-then-stands_after : goal.returns-then-stands_after
returns-then-stands_after c =
    let is = c.in_ok-number.ensures in
    let next : c.in_ok-number.number + 1 ≡ c.loop.next = omega (arith, is.0, is.1) in
    rw next
    (pair_hit c.args.table.now.filled c.args.text.now c.args.at c.args.end c.loop.invariant (omega (arith, is.0))
    (rw is.1 at c.stands_after.ensures) c.if-stands_after.true)

pub offset_bounds-table-number : goal.offset_bounds-table-number
offset_bounds-table-number c =
    let is = c.in_ok-number.ensures in
    let known = pair_known c.args.table.now.filled c.args.text.now c.args.at c.args.end c.loop.invariant (omega (arith, is.0)) in
    omega (arith, is.1, known, few_words c.args.table.now.words.started)

pub bounds-table-number : goal.bounds-table-number
bounds-table-number c =
    let is = c.in_ok-number.ensures in
    let known = pair_known c.args.table.now.filled c.args.text.now c.args.at c.args.end c.loop.invariant (omega (arith, is.0)) in
    omega (arith, is.1, known, c.args.table.now.filled.links_len)

pub loop-preserved : goal.loop-preserved
loop-preserved c =
    let is = c.in_ok-number.ensures in
    rw is.1
    (pair_miss c.args.table.now.filled c.args.text.now c.args.at c.args.end c.loop.invariant (omega (arith, is.0))
    (rw is.1 at c.stands_after.ensures) c.if-stands_after.false)

-- where the walk is left, at the end of the chain or before
module _
    {cs ws heads links : List ℕ} (t : Tables cs ws heads links) (ts : List ℕ) (q e : ℕ) {next : ℕ}
    (w : PairWalk cs ws links ts q e next) where
  left_within : next ≤ length (lengths_of ws)
  left_within =
      ⊎_elim (λ (z : next ≤ 0). omega arith) (λ (some : 0 < next). omega (arith, (pair_stop t ts q e w (omega arith)).below))
      (le_or_lt next 0)

  left_ranged :
      {number : ℕ} → LastStanding (lexicon_at cs ws).words ts (q + 1) next number →
      PairFound (lexicon_at cs ws).words ts (q + 1) (e + 1) number
  left_ranged {number} h =
      ⊎_elim
      (λ (z : next ≤ 0).
      let end : next ≡ 0 = omega arith in
      let none : number ≡ 0 = omega arith in
      rw none (pair_none t ts q e (rw end at w)))
      (λ (some : 0 < next). pair_ranged t ts q e w (omega arith) h) (le_or_lt next 0)

pub find_last_standing-requires : goal.find_last_standing-requires
find_last_standing-requires c = (
  omega (arith, c.requires),
  left_within c.args.table.now.filled c.args.text.now c.args.at c.args.end c.loop.invariant,
)

pub returns : goal.returns
returns c =
    left_ranged c.args.table.now.filled c.args.text.now c.args.at c.args.end c.loop.invariant
    c.find_last_standing.ensures
