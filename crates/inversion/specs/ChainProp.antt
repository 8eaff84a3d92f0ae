-- A chain as the state of an iterator: that it is linked to its end has at most one proof.
use Rattle.std.specs.Prelude.{List, [], ◌∷◌, ℕ, ◌-◌, get_or}
use Rattle.std.specs.Coded.{le_prop, Coded-set, coded_ℕ}
use Rattle.basics.specs.Chain.{Chained}

pub Chained-prop : (links : List ℕ) (head : ℕ) (members : List ℕ) → IsProp (Chained links head members)
Chained-prop links h [] = Coded-set coded_ℕ h 0
Chained-prop links h (p ∷ ps) = Prim.hlevel (Coded-set coded_ℕ h p, le_prop {n = 1} {m = p}, Chained-prop links (get_or links (p - 1) 0) ps)
