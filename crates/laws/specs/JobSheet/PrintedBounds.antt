-- How many bytes a printed number, line and answer can have if every number has 16 bits. Assumes nothing.
use Rattle.std.proofs.Common.{ap, ⊎_elim, length-drop, take-append-drop}
use Rattle.std.specs.Prelude.{Bool, cond, eqb, take, drop}
use Rattle.std.proofs.Math.Bool.{true, false}
use mathlib.Core.List.{List, [], ◌∷◌, ◌++◌}
use Prim.Native.Nat.{ℕ, zero, suc, ◌+◌, ◌*◌, ◌-◌, ◌/◌, ◌%◌, ◌≤◌, ◌<◌}
use native.Mathlib.Omega.{arith}
use Rattle.std.proofs.Math.ListN.{length, get_or, length-append}
use Rattle.basics.specs.Bools.{le_or_lt}
use Rattle.spec.specs.Replaced.{replaced}
use Rattle.spec.specs.Dictionary.{Lexicon}
use Rattle.spec.specs.Words.{Key, key}
use Rattle.spec.specs.Numbers.{Line, line}
use Rattle.spec.specs.Index.{header, n_of, keys_of, count_at, key_at, entries_of, lines_from, lines_in}
use Rattle.spec.specs.Search.{all_covered, found_from, find}
use Rattle.spec.specs.JobAnswer.{decimal, hexadecimal, index_head, key_word_head, key_lone_head, found_head, refused_head, gap}
use Rattle.spec.specs.JobAnswer.{opening_list, ending, ending_list, spaced, index_line, found_line, refused_line, key_name, key_line}
use Rattle.spec.specs.JobAnswer.{key_lines, index_lines, found_lines}
use Rattle.models.specs.JobSheet.{each_spaced, listed}
use Rattle.laws.specs.Dictionary.WordCode.{Small, small_drop, small_take}
use Rattle.laws.specs.JobSheet.Printing.{decimal_small, decimal_large, length_hexadecimal, spaced_first, index_line_parts}
use Rattle.laws.specs.JobSheet.Printing.{found_line_parts, refused_line_parts, key_line_parts}
use Rattle.laws.specs.Numbers.Slices.{Fits}

-- NUMBERS

abbrev ten_to : ℕ → ℕ
ten_to zero = 1
ten_to (suc k) = 10 * ten_to k

digits_within : (k n : ℕ) → n < ten_to (suc k) → length (decimal n) ≤ suc k
digits_within zero n h = rw (decimal_small n (omega arith)) (omega arith)
digits_within (suc k) n h =
    ⊎_elim
    (λ (large : 10 ≤ n).
    let tenth : length (decimal (n / 10)) ≤ suc k = digits_within k (n / 10) (omega arith) in
    rw (decimal_large n large, length-append (decimal (n / 10)) ((48 + n % 10) ∷ [])) (omega (arith, tenth)))
    (λ (small : n < 10). rw (decimal_small n small) (omega arith))
    (le_or_lt 10 n)

pub decimal_short : (n : ℕ) → n ≤ 65535 → length (decimal n) ≤ 5
decimal_short n h = digits_within 4 n (omega arith)

-- LISTS OF POSITIONS

each_short : (ps : List ℕ) → Small ps → length (each_spaced ps) ≤ 6 * length ps
unfolding each_spaced
each_short [] small = omega arith
each_short (p ∷ ps) small =
    rw (length-append (32 ∷ decimal p) (each_spaced ps))
    (omega (arith, decimal_short p (small 0), each_short ps (λ j. small (suc j))))

spaced_short : (ps : List ℕ) → Small ps → length (spaced ps) ≤ 6 * length ps
unfolding spaced
spaced_short [] small = omega arith
spaced_short (p ∷ ps) small =
    rw (spaced_first p ps, length-append (decimal p) (each_spaced ps))
    (omega (arith, decimal_short p (small 0), each_short ps (λ j. small (suc j))))

-- LINES

name_short : (k : Key) → k.value ≤ 65535 → length (key_name k) ≤ 15
unfolding key_name
name_short k h = by_test (eqb k.kind 0)
  where
    by_test : (b : Bool) → length (cond b (key_word_head ++ decimal k.value) (key_lone_head ++ hexadecimal k.value)) ≤ 15
    by_test true = omega (arith, length-append key_word_head (decimal k.value), decimal_short k.value h)
    by_test false = omega (arith, length-append key_lone_head (hexadecimal k.value), length_hexadecimal k.value)

key_line_short : (k : Key) (ps : List ℕ) → k.value ≤ 65535 → Small ps → length (key_line (line k ps)) ≤ 20 + 6 * length ps
unfolding listed
key_line_short k ps h small =
    rw (key_line_parts k ps)
    (omega (
      arith,
      name_short k h,
      spaced_short ps small,
      length-append (key_name k) (listed ps),
      length-append opening_list (spaced ps ++ ending_list),
      length-append (spaced ps) ending_list,
    ))

key_lines_short :
    (k i : ℕ) (xs ps : List ℕ) → Small xs → Small ps → length (key_lines (lines_from k i xs ps)) ≤ 20 * k + 6 * length ps
unfolding key_lines lines_from key
key_lines_short zero i xs ps all small = omega arith
key_lines_short (suc k) i xs ps all small =
    omega (
      arith,
      length-append (key_line (line (key_at xs i) (take (count_at xs i) ps)))
          (key_lines (lines_from k (suc i) xs (drop (count_at xs i) ps))),
      key_line_short (key_at xs i) (take (count_at xs i) ps) (all (header + 3 * i + 1)) (small_take (count_at xs i) ps small),
      key_lines_short k (suc i) xs (drop (count_at xs i) ps) all (small_drop (count_at xs i) ps small),
      ap length (take-append-drop (count_at xs i) ps),
      length-append (take (count_at xs i) ps) (drop (count_at xs i) ps),
    )

-- the lines of an index, by the length of its numbers
pub index_lines_short :
    (xs : List ℕ) → Fits xs → Small xs → length xs ≤ 65535 → length (index_lines xs) ≤ 12 + 7 * length xs
unfolding index_lines lines_in
index_lines_short xs whole small few =
    omega (
      arith,
      length-append (index_line (n_of xs) (keys_of xs) (entries_of xs))
          (key_lines (lines_from (keys_of xs) 0 xs (drop (header + 3 * keys_of xs) xs))),
      head,
      key_lines_short (keys_of xs) 0 xs (drop (header + 3 * keys_of xs) xs) small (small_drop (header + 3 * keys_of xs) xs small),
      length-drop (header + 3 * keys_of xs) xs,
    )
  where
    head : length (index_line (n_of xs) (keys_of xs) (entries_of xs)) ≤ 26
    head =
        rw (index_line_parts (n_of xs) (keys_of xs) (entries_of xs))
        (omega (
          arith,
          length-append index_head (decimal (n_of xs) ++ ((gap ++ decimal (keys_of xs)) ++ ((gap ++ decimal (entries_of xs)) ++ ending))),
          length-append (decimal (n_of xs)) ((gap ++ decimal (keys_of xs)) ++ ((gap ++ decimal (entries_of xs)) ++ ending)),
          length-append (gap ++ decimal (keys_of xs)) ((gap ++ decimal (entries_of xs)) ++ ending),
          length-append (gap ++ decimal (entries_of xs)) ending,
          decimal_short (n_of xs) (small 0),
          decimal_short (keys_of xs) (small 1),
          decimal_short (entries_of xs) (omega arith),
        ))

pub found_line_short : (ps : List ℕ) → Small ps → length ps ≤ 65535 → length (found_line ps) ≤ 17 + 6 * length ps
unfolding listed
found_line_short ps small few =
    rw (found_line_parts ps)
    (omega (
      arith,
      decimal_short (length ps) few,
      spaced_short ps small,
      length-append found_head (decimal (length ps) ++ listed ps),
      length-append (decimal (length ps)) (listed ps),
      length-append opening_list (spaced ps ++ ending_list),
      length-append (spaced ps) ending_list,
    ))

pub refused_line_short : (r : ℕ) → r ≤ 65535 → length (refused_line r) ≤ 16
refused_line_short r h =
    rw (refused_line_parts r)
    (omega (arith, length-append refused_head (decimal r ++ ending), length-append (decimal r) ending, decimal_short r h))

-- WHAT IS FOUND

module _ (lex : Lexicon) (ls : List Line) (s : List ℕ) where
  found_few : (n q : ℕ) → length (found_from n q lex ls s) ≤ n
  unfolding found_from
  found_few zero q = omega arith
  found_few (suc n) q = by_test (all_covered (length s) q lex ls s q) (found_few n (suc q))
    where
      by_test :
          (b : Bool) → length (found_from n (suc q) lex ls s) ≤ n →
          length (cond b (q ∷ found_from n (suc q) lex ls s) (found_from n (suc q) lex ls s)) ≤ suc n
      by_test true few = omega arith
      by_test false few = omega arith

  -- a text of a job has at most 2,000 characters
  found_small : (n q : ℕ) → q + n ≤ 2002 → Small (found_from n q lex ls s)
  unfolding found_from
  found_small zero q h i = omega arith
  found_small (suc n) q h i = by_test (all_covered (length s) q lex ls s q) i (found_small n (suc q) (omega arith))
    where
      by_test :
          (b : Bool) (i : ℕ) → Small (found_from n (suc q) lex ls s) →
          get_or (cond b (q ∷ found_from n (suc q) lex ls s) (found_from n (suc q) lex ls s)) i 0 ≤ 65535
      by_test true zero later = omega arith
      by_test true (suc i) later = later i
      by_test false i later = later i

module _ (lex : Lexicon) (xs : List ℕ) where
  pub find_few : (s : List ℕ) → 1 ≤ length s → length (find lex xs s) ≤ n_of xs
  unfolding find
  find_few s some = omega (arith, found_few lex (lines_in xs) s (suc (n_of xs) - length s) 1)

  pub find_small : (s : List ℕ) → n_of xs ≤ 2000 → Small (find lex xs s)
  unfolding find
  find_small s h = found_small lex (lines_in xs) s (suc (n_of xs) - length s) 1 (omega arith)

  find_most : (s : List ℕ) → length (find lex xs s) ≤ suc (n_of xs)
  unfolding find
  find_most s = omega (arith, found_few lex (lines_in xs) s (suc (n_of xs) - length s) 1)

  pub found_lines_short :
      n_of xs ≤ 2000 → (ss : List (List ℕ)) → length (found_lines lex xs ss) ≤ 12023 * length ss
  unfolding found_lines
  found_lines_short h [] = omega arith
  found_lines_short h (s ∷ ss) =
      omega (
        arith,
        length-append (found_line (find lex xs (replaced s))) (found_lines lex xs ss),
        found_line_short (find lex xs (replaced s)) (find_small (replaced s) (omega arith)) (omega (arith, find_most (replaced s))),
        find_most (replaced s),
        found_lines_short h ss,
      )
