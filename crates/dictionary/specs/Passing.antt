-- What a `?` returns: the refusal of the call, as it was. Assumes nothing.
use Rattle.std.specs.Prelude.{◌≡◌, Result, Ok, Err, IsErrAnd}
use Rattle.std.proofs.Common.{ap}
use Rattle.spec.specs.declared.Refusal.{Refusal}

-- the result of the `?` is the error
pub passed_on : {A : Type 0} (r : Result A Refusal) (e : Refusal) → IsErrAnd r (λ x. x ≡ e) → r ≡ Err e
passed_on (Ok x) e is = absurd is
passed_on (Err x) e is = ap (λ (y : Refusal). Err y) is
