-- `first_by_windows` meets its contract: where none of 8,192 starts is found, the first found is that of the others.
use Rattle.std.proofs.Common.{◌≡◌, ℕ, ◌-◌, ◌≤◌, true, false, Option, Some, None, is_some, unwrap_or, IfSome, sym, ◌∙◌, refl, arith}
use Rattle.laws.specs.First.Found.{first_in_first, first_in_second}
use Rattle.searcher.proofs.first_windows.first_by_windows.Goals as goal

real : (r : Option ℕ) → is_some r ≡ true → IfSome r (λ p. 1 ≤ p) → unwrap_or r 0 ≡ 0 → ⊥
real (Some p) some onward e = omega arith
real None some onward e = cc

none : (r : Option ℕ) → is_some r ≡ false → unwrap_or r 0 ≡ 0
none (Some p) some = cc
none None some = refl

nearer : (q : ℕ) (r : Option ℕ) → 1 ≤ q → IfSome r (λ p. q ≤ p) → IfSome r (λ p. 1 ≤ p)
nearer q (Some p) from onward = omega arith
nearer q None from onward = onward

pub returns-then-is_some : goal.returns-then-is_some
returns-then-is_some c =
    let near = c.first_in-near.ensures in
    let some = sym c.is_some.ensures ∙ c.if-is_some.true in
    record {
      is = first_in_first (c.args.count - 8192) (omega arith) near.is (real _ some near.onward);
      onward = near.onward;
    }

pub returns : goal.returns
returns c =
    let far = c.first_in-2.ensures in
    let nothing = none _ (sym c.is_some.ensures ∙ c.if-is_some.false) in
    record {
      is = first_in_second (c.args.count - 8192) (omega arith) c.first_in-near.ensures.is (omega arith) nothing far.is;
      onward = nearer 8193 _ (omega arith) far.onward;
    }
