use Rattle.std.proofs.Common.{◌≡◌, ◌<◌, ℕ, List, Bool, w32, to_z}
use mathlib.Core.Path.{sym, ap, ◌∙◌}
use Prim.Native.Nat.{◌^◌}
use lib.IntN.{◌-ℤ◌}
use native.Mathlib.Omega.{arith}
use Rattle.spec.specs.Search.{agrees, agrees_at}
use Rattle.laws.specs.Search.Offset.{agrees_offset}
use Rattle.laws.specs.Search.Offset32.{held, offset_held}
use Rattle.laws.specs.Window.LeadingLines.{apart_next, apart_pass, apart_end, leading_found}
use Rattle.agreement.proofs.leading.agrees_leading.Goals as goal
use Rattle.agreement.proofs.leading.agrees_leading.Goals.{else-key-at-via-then-key-at+else-agrees_at, else-key-at-via-else-key-at}

-- what `agrees_at` answers at the offset -i, with the offset as two starts
agreed : (string key : List ℕ) (i : ℕ) → i < 2 ^ 31 → {r : Bool} → r ≡ agrees_at key string (held (to_z w32 0 -ℤ to_z w32 i)) →
    agrees string i key 0 ≡ r
agreed s k i small is = agrees_offset s i k 0 ∙ ap (agrees_at k s) (offset_held 0 i (omega arith) small) ∙ sym is

pub returns-then-agrees_at : goal.returns-then-agrees_at
returns-then-agrees_at c =
    let a = c.args in
    let l = c.loop-at in
    leading_found a.least a.string.now a.key.now l.at (omega arith) c.loop-at-test.true
    (agreed a.string.now a.key.now l.at (omega arith) c.agrees_at.ensures ∙ c.if-agrees_at.true)

pub loop-at-preserved : goal.loop-at-preserved
loop-at-preserved c =
    let a = c.args in
    let l = c.loop-at in
    elim c.else-key-at.branch [
      | else-key-at-via-then-key-at+else-agrees_at w ↦
          apart_next a.least a.string.now a.key.now l.at l.invariant
          (agreed a.string.now a.key.now l.at (omega arith) w.agrees_at.ensures ∙ w.if-agrees_at.false)
      | else-key-at-via-else-key-at w ↦
          apart_pass a.least a.string.now a.key.now l.at l.invariant c.loop-at-test.true w.if-key-at.false
    ]

pub returns : goal.returns
returns c =
    let a = c.args in
    let l = c.loop-at in
    apart_end a.least a.string.now a.key.now l.at l.invariant (omega arith)
