-- The three demands over the calls hold, for texts of every greatest length; document 01's are `demands longest_text`. Assumes nothing.
use Rattle.std.specs.Prelude.{ℕ}
use Rattle.spec.specs.Demands.{Demands}
use Rattle.laws.specs.Demands.DemandOne.{first_demand}
use Rattle.laws.specs.Demands.DemandTwo.{second_demand}
use Rattle.laws.specs.Demands.DemandThree.{third_demand}

pub demands : (g : ℕ) → Demands g
demands g = record { first = first_demand g; second = second_demand g; third = third_demand g }
