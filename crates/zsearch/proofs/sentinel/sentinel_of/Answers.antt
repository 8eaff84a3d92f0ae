use Rattle.std.proofs.Common.{ℕ, subst, arith, eqb-true}
use Rattle.std.proofs.lemmas.Bool.{eqb-false}
use Rattle.basics.specs.Absent.{LowerIn, lower_next, lower_few}
use Rattle.basics.specs.Member.{In, in_getD, member_index}
use Rattle.zsearch.proofs.sentinel.sentinel_of.Goals as goal

pub returns-then-not-contains : goal.returns-then-not-contains
returns-then-not-contains c =
    let xs = c.args.string.now in
    let g = c.loop-sentinel.sentinel-counter in
    rw c.from.ensures (
      record {
        absent =
            λ (m : In g xs).
            let found = member_index g xs 0 m in
            eqb-false _ _ (c.if-not-contains.ensures.cases found.0 0 (omega arith) found.1) found.2;
        lower = c.loop-sentinel.invariant;
      },
      omega arith,
    )

pub loop-sentinel-preserved : goal.loop-sentinel-preserved
loop-sentinel-preserved c =
    let xs = c.args.string.now in
    let found = c.if-not-contains.ensures.cases in
    lower_next xs c.loop-sentinel.sentinel-counter c.loop-sentinel.invariant
    (subst (λ (x : ℕ). In x xs) (eqb-true _ _ (found.2 0)) (in_getD xs found.0 0 found.1))

pub returns : goal.returns
returns c =
    let xs = c.args.string.now in
    let all : LowerIn xs 256 = λ k b. c.loop-sentinel.invariant k (omega arith) in
    (record { absent = λ (m : In 256 xs). omega (arith, lower_few xs 257 (lower_next xs 256 all m)); lower = all }, omega arith)
