-- Lists written all at once: differences of neighbours, and sums that begin anew where a mask is 0. Assumes nothing.
use Rattle.std.specs.Prelude.{Bool, false, true, List, [], ◌∷◌, ℕ, ◌+◌, ◌-◌}
use Rattle.std.specs.Int.Bits.{bit_and}
use Rattle.spec.specs.Index.{greatest_number}
use Rattle.spec.specs.Gaps.{gaps, prefix_sums}

-- a list in which each number is made of itself and the one before
unfoldable pub by_pairs : (x : ℕ → ℕ → ℕ) → (before : ℕ) → List ℕ → List ℕ
by_pairs x b [] = []
by_pairs x b (p ∷ ps) = x b p ∷ by_pairs x p ps

-- and its first number made by another function
unfoldable pub first_apart : (first : ℕ → ℕ) → (x : ℕ → ℕ → ℕ) → List ℕ → List ℕ
first_apart y x [] = []
first_apart y x (p ∷ ps) = y p ∷ by_pairs x p ps

-- all ones: the sum is carried on
abbrev pub carry : ℕ
carry = greatest_number

-- each gap added to the sum before it, masked
unfoldable pub masked_sums : (sum : ℕ) → (masks gaps : List ℕ) → List ℕ
masked_sums s [] ds = []
masked_sums s (m ∷ ms) [] = []
masked_sums s (m ∷ ms) (d ∷ ds) = (bit_and s m + d) ∷ masked_sums (bit_and s m + d) ms ds

-- a list's masks: 0 for its first gap
abbrev pub masks : List ℕ → List ℕ
masks ds = first_apart (λ d. 0) (λ b d. carry) ds

-- a list's numbers as written
abbrev pub write_as : (restore : Bool) → List ℕ → List ℕ
write_as true ps = prefix_sums ps
write_as false ps = gaps ps

-- all numbers as the pass over all lists writes them, and the first of a list: masks, or distances
abbrev pub pair_as : (restore : Bool) → (before number : ℕ) → ℕ
pair_as true b p = carry
pair_as false b p = p - b

abbrev pub first_as : (restore : Bool) → ℕ → ℕ
first_as true p = 0
first_as false p = p
