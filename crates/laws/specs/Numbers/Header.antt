-- The header: everything that proofs know of the numbers before the directory, in one law. Assumes nothing.
use Rattle.std.specs.Prelude.{◌≡◌, refl, List, [], ◌∷◌, ℕ, ◌≤◌, ◌<◌, length, take, set}
use Rattle.std.proofs.Common.{inl, inr, arith}
use Rattle.basics.specs.Member.{In}
use Rattle.basics.specs.Placed.{writing_start, writing_one}
use Rattle.basics.specs.Writing.{over, written}
use Rattle.spec.specs.Numbers.{Line, all_positions, header_numbers}
use Rattle.spec.specs.Index.{header, greatest_number, n_of, keys_of}

-- there are `keys` lines with `entries` positions in all, and what the header says of them is within a number of the index
pub record SizeOf (ls : List Line) (keys entries : ℕ) : Type 0 where
  pub keys_are : keys ≡ length ls
  pub entries_are : entries ≡ length (all_positions ls)
  pub keys_small : keys ≤ greatest_number

-- how many numbers there are; what stores them, from the size of what follows; a slice that states them starts with them; they are below
-- any bound that n, keys and entries are below
pub record Header (n : ℕ) (ls : List Line) : Type 0 where
  pub len : length (header_numbers n ls) ≡ header
  pub stored :
      {keys entries : ℕ} → SizeOf ls keys entries → (old : List ℕ) → header ≤ length old →
      set (set old 0 n) 1 keys ≡ over (header_numbers n ls) old
  pub read : (xs : List ℕ) → header ≤ length xs → n_of xs ≡ n → keys_of xs ≡ length ls → take header xs ≡ header_numbers n ls
  pub below :
      (bound : ℕ) → n < bound → length ls < bound → length (all_positions ls) < bound → (x : ℕ) → In x (header_numbers n ls) → x < bound

pub header_law : (n : ℕ) (ls : List Line) → Header n ls
unfolding header_numbers
header_law n ls = record { len = refl; stored = stores; read = reads; below = small }
  where
    stores :
        {keys entries : ℕ} → SizeOf ls keys entries → (old : List ℕ) → header ≤ length old →
        set (set old 0 n) 1 keys ≡ over (n ∷ length ls ∷ []) old
    stores {keys} size old room =
        rw (← size.keys_are)
        (written (writing_one keys [] (writing_one n (keys ∷ []) (writing_start (n ∷ keys ∷ []) 0 old room))))

    reads : (xs : List ℕ) → header ≤ length xs → n_of xs ≡ n → keys_of xs ≡ length ls → take header xs ≡ n ∷ length ls ∷ []
    reads [] h a b = absurd (omega arith)
    reads (x ∷ []) h a b = absurd (omega arith)
    reads (x ∷ y ∷ xs) h a b = rw (← a, ← b)

    small :
        (bound : ℕ) → n < bound → length ls < bound → length (all_positions ls) < bound → (x : ℕ) → In x (n ∷ length ls ∷ []) → x < bound
    small bound short few less x (inl e) = omega arith
    small bound short few less x (inr (inl e)) = omega arith
    small bound short few less x (inr (inr m)) = absurd m
