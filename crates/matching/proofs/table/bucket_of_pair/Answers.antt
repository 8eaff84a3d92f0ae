-- `bucket_of_pair` meets its contract, which is its code; a remainder is below its divisor.
use Rattle.models.specs.MatchTable.{pair_bucket}
use mathlib.Core.Path.{refl}
use Rattle.matching.proofs.table.bucket_of_pair.Goals as goal

pub returns-clause-value : goal.returns-clause-value
unfolding pair_bucket
returns-clause-value c = refl
