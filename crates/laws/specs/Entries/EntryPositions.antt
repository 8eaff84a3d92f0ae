-- Lists of entries with strictly ascending positions. Assumes nothing.
use Rattle.std.proofs.Common.{inl, inr, arith}
use Rattle.std.specs.Prelude.{List, [], ◌∷◌, ℕ, suc, ◌≤◌}
use Rattle.basics.specs.Member.{In}
use Rattle.spec.specs.Words.{Entry}

-- strictly ascending positions from `least` on
abbrev pub PositionsRise : (least : ℕ) → List Entry → Type 0
PositionsRise a [] = Unit
PositionsRise a (e ∷ es) = (a ≤ e.at) × PositionsRise (suc e.at) es

pub positions_rise_from : (a b : ℕ) (es : List Entry) → b ≤ a → PositionsRise a es → PositionsRise b es
positions_rise_from a b [] h r = tt
positions_rise_from a b (e ∷ es) h r = (omega arith, r.1)

pub positions_rise_in : (a : ℕ) (es : List Entry) (e : Entry) → PositionsRise a es → In e es → a ≤ e.at
positions_rise_in a [] e r m = absurd m
positions_rise_in a (f ∷ es) e r (inl p) = rw p r.0
positions_rise_in a (f ∷ es) e r (inr m) =
    let later : suc f.at ≤ e.at = positions_rise_in (suc f.at) es e r.1 m in
    omega arith
