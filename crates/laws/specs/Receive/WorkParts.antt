-- A slice in parts: numbers written over its first n, and over the n after them. Assumes nothing.
use Rattle.std.specs.Prelude.{◌≡◌, List, [], ◌++◌, ℕ, ◌*◌, ◌-◌, ◌≤◌, length, take, drop, replicate}
use Rattle.std.proofs.Common.{◌∙◌, append-nil, arith, length-drop, drop_of_length-le, length-take-le, take_at, drop_at}
use Rattle.spec.specs.Calls.{in_front, zeros}

-- `ys` over the first n numbers
pub front_put : (n : ℕ) (w ys zs : List ℕ) → length ys ≡ n → ys ≡ zs → take n (ys ++ drop n w) ≡ zs
front_put n w ys zs len e = take_at ys (drop n w) n len ∙ e

-- and over the n after them
module _ (n : ℕ) (w : List ℕ) (room : 2 * n ≤ length w) where
  pub behind_len : length (take (2 * n - n) (drop n w)) ≡ n
  behind_len =
      length-take-le (2 * n - n) (drop n w) (omega (arith, length-drop n w)) ∙ omega arith

  module _ (ys : List ℕ) (len : length ys ≡ n) where
    front_len : length (take n w) ≡ n
    front_len = length-take-le n w (omega arith)

    pub behind_front : take n (take n w ++ (ys ++ drop (2 * n - n) (drop n w))) ≡ take n w
    behind_front = take_at (take n w) (ys ++ drop (2 * n - n) (drop n w)) n front_len

    pub behind_put : take n (drop n (take n w ++ (ys ++ drop (2 * n - n) (drop n w)))) ≡ ys
    behind_put =
        rw (drop_at (take n w) (ys ++ drop (2 * n - n) (drop n w)) n front_len) (take_at ys (drop (2 * n - n) (drop n w)) n len)

-- a slice of n numbers, cleared
pub zeros_are : (n : ℕ) (xs : List ℕ) → length xs ≡ n → zeros xs ≡ replicate n 0
unfolding zeros
zeros_are n xs e = rw e

-- as many numbers as a slice has, written over its start, are the whole
pub front_whole : (xs old : List ℕ) → length old ≡ length xs → in_front xs old ≡ xs
unfolding in_front
front_whole xs old e =
    let past : length old ≤ length xs = omega arith in
    let none : drop (length xs) old ≡ [] = drop_of_length-le old past in
    rw none (append-nil xs)

-- what was written over the start of a slice, taken from it
pub front_taken : (n : ℕ) (xs old : List ℕ) → length xs ≡ n → take n (in_front xs old) ≡ xs
unfolding in_front
front_taken n xs old e = take_at xs (drop (length xs) old) n e
