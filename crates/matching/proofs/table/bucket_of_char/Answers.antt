-- `bucket_of_char` meets its contract, which is its code; a remainder is below its divisor.
use Rattle.models.specs.MatchTable.{char_bucket}
use mathlib.Core.Path.{refl}
use Rattle.matching.proofs.table.bucket_of_char.Goals as goal

pub returns-clause-value : goal.returns-clause-value
unfolding char_bucket
returns-clause-value c = refl
