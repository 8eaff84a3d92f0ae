-- The gap form of an index, and the restored form of delivered numbers. Assumes nothing: these are definitions.
use Rattle.std.specs.Prelude.{List, [], ◌∷◌, ◌++◌, ℕ, zero, suc, ◌+◌, ◌*◌, ◌-◌, take, drop}
use Rattle.spec.specs.Index.{header, keys_of, count_at}

-- ONE LIST OF POSITIONS

-- each position as its distance from the one before (the field's term: d-gaps)
unfoldable pub gaps_after : (before : ℕ) → (positions : List ℕ) → List ℕ
gaps_after b [] = []
gaps_after b (p ∷ ps) = (p - b) ∷ gaps_after p ps

-- the inverse: each gap added to all before it (the field's term: prefix sums)
unfoldable pub sums_after : (before : ℕ) → (gaps : List ℕ) → List ℕ
sums_after b [] = []
sums_after b (d ∷ ds) = (b + d) ∷ sums_after (b + d) ds

-- Document 02: "under each key the first position stays and each later one becomes its distance from the one before". The first one's
-- distance from 0 is itself.
abbrev pub gaps : List ℕ → List ℕ
gaps ps = gaps_after 0 ps

abbrev pub prefix_sums : List ℕ → List ℕ
prefix_sums ds = sums_after 0 ds

-- THE LISTS OF AN INDEX

-- the positions of line i and the lines after it, with f applied to each line's list; numbers after the last list stay
unfoldable pub lists_from : (f : List ℕ → List ℕ) → (left i : ℕ) → (numbers positions : List ℕ) → List ℕ
lists_from f zero i xs ps = ps
lists_from f (suc k) i xs ps = f (take (count_at xs i) ps) ++ lists_from f k (suc i) xs (drop (count_at xs i) ps)

-- any numbers, with n, K and the directory unchanged and f applied to each key's list
unfoldable pub with_lists : (f : List ℕ → List ℕ) → (numbers : List ℕ) → List ℕ
with_lists f xs = take (header + 3 * keys_of xs) xs ++ lists_from f (keys_of xs) 0 xs (drop (header + 3 * keys_of xs) xs)

-- the gap form of an index
unfoldable pub gap_form : (index : List ℕ) → List ℕ
gap_form xs = with_lists gaps xs

-- "The inverse restores the index": the restored form of any delivered numbers, as naturals, so that no sum wraps
unfoldable pub restored : (gap_form : List ℕ) → List ℕ
restored ds = with_lists prefix_sums ds
