-- The tokens that the builder's scan writes, one number for each position: 0 if nothing is registered there, i + 1 for word i, 4,097 for
-- the lone character. Assumes nothing.
use Rattle.std.specs.Prelude.{◌≡◌, ◌⊎◌, List, ℕ, suc, ◌<◌, length, get_or}
use Rattle.spec.specs.Dictionary.{Lexicon}
use Rattle.models.specs.Scan.{make_index}
use Rattle.models.specs.Inversion.{entries_of_tokens}

-- the tokens of a text: their entries are its maximal entries, in the order of their positions
pub record Tokens (lex : Lexicon) (ts ms : List ℕ) : Type 0 where
  pub len : length ms ≡ length ts
  pub known : (q i : ℕ) → q < length ms → get_or ms q 0 ≡ suc i → (i < length lex.words) ⊎ (i ≡ 4096)
  pub exact : entries_of_tokens lex 1 ms ts ≡ make_index lex ts
