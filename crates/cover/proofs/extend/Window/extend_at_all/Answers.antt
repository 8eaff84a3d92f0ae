use Rattle.std.proofs.Common.{◌≡◌, ◌+◌, ◌-◌, ◌%◌, ◌^◌, ◌<◌, ◌≤◌, ℕ}
use Rattle.std.proofs.Common.{get_or, arith}
use Rattle.basics.specs.Wrapping.{wrap_below, wrap_above}
use Rattle.laws.specs.Window.ExtendAtPositions.{extending_end, extending_outside, extending_passed, extending_extended}
use Rattle.cover.proofs.extend.Window.extend_at_all.Goals as goal
use Rattle.cover.proofs.extend.Window.extend_at_all.Goals.{then-p-reach+then-extend_start, else-p-reach}
use Rattle.cover.proofs.extend.Window.extend_at_all.Goals.{else-p-reach-via-then-p-reach+else-extend_start, else-p-reach-via-else-p-reach}

-- `at` less `from`, wrapped
abbrev apart : (at from : ℕ) → ℕ
apart at from = (at + (2 ^ 64 - from)) % 2 ^ 64

module _ (at from : ℕ) (fits : at < 2 ^ 64) (fits_from : from < 2 ^ 64) where
  wraps : (apart at from + from) % 2 ^ 64 ≡ at
  wraps = omega arith

  own : {n : ℕ} → n + from ≤ 2 ^ 64 → apart at from < n → apart at from + from ≡ at
  own {n} small below = wrap_below (apart at from) from n wraps small below

  outside : {n : ℕ} → n ≤ apart at from → from ≤ at → n + from ≤ at
  outside {n} past below = wrap_above (apart at from) from n wraps (omega arith) fits_from below past

pub loop-position-preserved : goal.loop-position-preserved
loop-position-preserved c =
    let a = c.args in
    let l = c.loop-position in
    let at = get_or a.positions.now l.position-index 0 + a.placement.string_start in
    let from = a.self.now.first + a.placement.key_start in
    elim c.if-p-reach.branch [
      | then-p-reach+then-extend_start w ↦ rw (w.reach-is, w.highest-is)
          (extending_extended l.invariant c.loop-position-test.true
          (record { own = own at from (omega arith) (omega arith) (omega arith) w.if-p-reach.true; inside = w.if-p-reach.true })
          c.end-end.ensures w.extend_start.ensures w.if-extend_start.true c.max-peak.result c.max-peak.ensures)
      | else-p-reach w ↦ rw w.highest-is
          (elim w.else-p-reach.branch [
            | else-p-reach-via-then-p-reach+else-extend_start v ↦ rw (w.reach-is, v.reach-is)
                (extending_passed l.invariant c.loop-position-test.true
                (record { own = own at from (omega arith) (omega arith) (omega arith) v.if-p-reach.true; inside = v.if-p-reach.true })
                c.end-end.ensures v.extend_start.ensures v.if-extend_start.false)
            | else-p-reach-via-else-p-reach v ↦ rw (w.reach-is, v.reach-is)
                (extending_outside l.invariant c.loop-position-test.true
                (outside at from (omega arith) (omega arith) v.if-p-reach.false))
          ])
    ]

pub returns-clause-extended : goal.returns-clause-extended
returns-clause-extended c = extending_end c.loop-position.invariant c.loop-position-test.false
