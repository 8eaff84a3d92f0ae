-- A hash chain is a proposition, so that a struct can hold the fact as a ghost field. Assumes nothing.
use Rattle.std.specs.Prelude.{ℕ, suc, ◌<◌, List, [], ◌∷◌, length, get_or}
use Rattle.std.specs.Coded.{coded_ℕ, Coded-set, le_prop}
use Rattle.laws.specs.Match.HashChains.{Chain}

pub chain_prop : (links : List ℕ) (head : ℕ) (xs : List ℕ) → IsProp (Chain links head xs)
chain_prop links head [] = Coded-set coded_ℕ head 0
chain_prop links head (x ∷ xs) =
    let below : IsProp (x < length links) = le_prop in
    Prim.hlevel (chain_prop links (get_or links x 0) xs, Coded-set coded_ℕ head (suc x), below)
