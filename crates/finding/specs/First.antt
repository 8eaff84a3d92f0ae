-- The first start found, as an option. Assumes nothing.
use Rattle.std.specs.Prelude.{ℕ, ◌≤◌, List, Option, unwrap_or, IfSome}
use Rattle.spec.specs.Dictionary.{Lexicon}
use Rattle.laws.specs.First.Found.{FirstIn}

-- r is the first found of the n starts from q on, where there is one
pub record FirstFound (lex : Lexicon) (xs s : List ℕ) (n q : ℕ) (r : Option ℕ) : Type 0 where
  pub is : FirstIn lex xs s n q (unwrap_or r 0)
  pub onward : IfSome r (λ p. q ≤ p)
