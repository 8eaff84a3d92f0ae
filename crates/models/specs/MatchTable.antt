-- The match table: hash chains of words by their first two characters, or by the only one. Assumes nothing.
use Rattle.std.specs.Prelude.{cond, List, [], ◌∷◌, suc, zero, ℕ, ◌%◌, ◌*◌, ◌+◌, eqb}
use Rattle.models.specs.WordStarts.{word}

unfoldable pub pair_bucket : (x y : ℕ) → ℕ
pair_bucket x y = (37 * x + y) % 8192

unfoldable pub char_bucket : (x : ℕ) → ℕ
char_bucket x = 8192 + x % 2048

unfoldable pub bucket : List ℕ → ℕ
bucket [] = 0
bucket (x ∷ []) = char_bucket x
bucket (x ∷ y ∷ zs) = pair_bucket x y

abbrev pub bucket_of : (cs ws : List ℕ) (i : ℕ) → ℕ
bucket_of cs ws i = bucket (word cs ws i)

-- the numbers below n whose bucket is b
unfoldable pub chained : (bucket : ℕ → ℕ) (b n : ℕ) → List ℕ
chained f b zero = []
chained f b (suc n) = cond (eqb (f n) b) (n ∷ chained f b n) (chained f b n)
