-- Readability of numbers whose lists are read through a function: the walk over the numbers themselves decides the readability of the
-- numbers with the function applied. Assumes nothing.
use Rattle.std.specs.Prelude.{◌≡◌, refl, Bool, ◌&&◌, length, get_or, take, drop}
use Rattle.std.proofs.Common.{sym, ap, ◌∙◌, add-one, length-drop, take-append-drop, get_or-take, get_or-drop, length-take-le}
use Rattle.std.proofs.Math.Bool.{true, false, and-true}
use mathlib.Core.List.{List, [], ◌∷◌}
use Prim.Native.Nat.{ℕ, zero, suc, ◌+◌, ◌*◌, ◌-◌, ◌≤◌, ◌<◌}
use native.Mathlib.Omega.{arith}
use Rattle.std.proofs.Math.Dec.{ltb, leb}
use Rattle.spec.specs.Dictionary.{Lexicon}
use Rattle.spec.specs.Index.{header, n_of, keys_of, count_at, key_at, rise_from, last_of, readable}
use Rattle.spec.specs.Gaps.{sums_after, prefix_sums, lists_from, with_lists, restored}
use Rattle.models.specs.Readability.{key_number, as_is, list_good, line_list_good, line_fits, rest_good, walk_good, read_as}
use Rattle.laws.specs.Gaps.GapLists.{length_sums}
use Rattle.laws.specs.Gaps.WithLists.{KeepsLength, SameLines, length_lists, front_list, later_lists, length_with, same_with}
use Rattle.laws.specs.Gaps.WithLists.{positions_with, n_with, keys_with}
use Rattle.laws.specs.Readable.LineWalk.{unreadable_header, unreadable_long, unreadable_directory, readable_walk}
use Rattle.laws.specs.Readable.LineSteps.{positions_there}

module _ (read : List ℕ → List ℕ) (keeps : KeepsLength read) where
  -- the walk over the numbers, and over the lists that they are read as
  rest_read :
      (lex : Lexicon) (n k i a : ℕ) {xs ys : List ℕ} (ps : List ℕ) → SameLines xs ys (i + k) →
      rest_good read lex n k i a xs ps ≡ rest_good as_is lex n k i a ys (lists_from read k i xs ps)
  unfolding rest_good line_fits line_list_good list_good
  rest_read lex n zero i a {xs} ps same = rw (length_lists read keeps zero i xs ps)
  rest_read lex n (suc k) i a {xs} {ys} ps same =
      let next : i + suc k ≡ suc i + k = omega arith in
      rw (
        same.kinds i (omega arith),
        same.values i (omega arith),
        same.counts i (omega arith),
        length_lists read keeps (suc k) i xs ps,
        front_list read keeps k i xs ps,
        later_lists read keeps k i xs ps,
        rest_read lex n k (suc i) (suc (key_number (key_at xs i))) (drop (count_at xs i) ps) (rw next at same),
      )

  module _ (g : ℕ) (lex : Lexicon) (xs : List ℕ) where
    pub header_missing : length xs < header → false ≡ readable g lex (with_lists read xs)
    header_missing short = unreadable_header g lex (with_lists read xs) (omega (arith, length_with read keeps xs))

    pub text_too_long : g < n_of xs → false ≡ readable g lex (with_lists read xs)
    text_too_long long = unreadable_long g lex (with_lists read xs) (omega (arith, n_with read keeps xs))

    pub directory_missing : length xs < header + 3 * keys_of xs → false ≡ readable g lex (with_lists read xs)
    directory_missing short =
        unreadable_directory g lex (with_lists read xs) (omega (arith, length_with read keeps xs, keys_with read keeps xs))

    pub walk_tells :
        length lex.words ≤ 4096 → header + 3 * keys_of xs ≤ length xs → n_of xs ≤ g →
        walk_good read lex xs ≡ readable g lex (with_lists read xs)
    unfolding walk_good
    walk_tells few dir allowed =
        whole
        ∙ readable_walk g lex ys few (omega (arith, length_with read keeps xs))
        (omega (arith, length_with read keeps xs, keys_with read keeps xs)) (omega (arith, n_with read keeps xs))
      where
        ys : List ℕ
        ys = with_lists read xs

        same : SameLines xs ys (keys_of xs)
        same = same_with read keeps xs dir

        whole : walk_good read lex xs ≡ walk_good as_is lex ys
        whole =
            let z : 0 + keys_of xs ≡ keys_of xs = omega arith in
            let all : SameLines xs ys (0 + keys_of xs) = rw z same in
            rest_read lex (n_of xs) (keys_of xs) 0 0 (drop (header + 3 * keys_of xs) xs) all
            ∙ rw (n_with read keeps xs, keys_with read keeps xs, positions_with read keeps xs dir)

-- POSITIONS, OR THEIR GAPS

pub read_keeps : (gaps : Bool) → KeepsLength (read_as gaps)
unfolding read_as
read_keeps true ps = length_sums 0 ps
read_keeps false ps = refl

lists_as_is : (k i : ℕ) (xs ps : List ℕ) → lists_from (read_as false) k i xs ps ≡ ps
unfolding lists_from read_as
lists_as_is zero i xs ps = refl
lists_as_is (suc k) i xs ps =
    rw (lists_as_is k (suc i) xs (drop (count_at xs i) ps)) (take-append-drop (count_at xs i) ps)

pub read_positions : (xs : List ℕ) → with_lists (read_as false) xs ≡ xs
unfolding with_lists
read_positions xs =
    rw (lists_as_is (keys_of xs) 0 xs (drop (header + 3 * keys_of xs) xs)) (take-append-drop (header + 3 * keys_of xs) xs)

pub read_gaps : (ds : List ℕ) → with_lists (read_as true) ds ≡ restored ds
unfolding read_as restored
read_gaps ds = refl

-- a line, by how its list is read
module _ (b : Bool) (n l : ℕ) (ps : List ℕ) where
  pub good_gaps : b ≡ true → list_good prefix_sums n l ps ≡ list_good (read_as b) n l ps
  unfolding read_as list_good
  good_gaps e = rw e

  pub good_positions : b ≡ false → list_good as_is n l ps ≡ list_good (read_as b) n l ps
  unfolding read_as list_good
  good_positions e = rw e

  -- a list of one number, which is a position and its gap
  pub good_only : length ps ≡ 1 → (leb (get_or ps 0 0 + l) (n + 1) && ltb 0 (get_or ps 0 0)) ≡ list_good (read_as b) n l ps
  unfolding read_as list_good rise_from last_of sums_after
  good_only one = by_list ps one
    where
      by_read : (b : Bool) (p : ℕ) → (leb (p + l) (n + 1) && ltb 0 p) ≡ list_good (read_as b) n l (p ∷ [])
      by_read true p =
          let z : 0 + p ≡ p = omega arith in
          rw (add-one n, z) (ap (λ (t : Bool). leb (p + l) (suc n) && t) (sym (and-true (leb 1 p))))
      by_read false p = rw (add-one n) (ap (λ (t : Bool). leb (p + l) (suc n) && t) (sym (and-true (leb 1 p))))

      by_list : (ps : List ℕ) → length ps ≡ 1 → (leb (get_or ps 0 0 + l) (n + 1) && ltb 0 (get_or ps 0 0)) ≡ list_good (read_as b) n l ps
      by_list [] one = absurd (omega arith)
      by_list (p ∷ []) one = by_read b p
      by_list (p ∷ q ∷ ps) one = absurd (omega arith)

-- one number, at `from`
pub positions_only :
    (b : Bool) (xs : List ℕ) (n l from : ℕ) {to : ℕ} → to - from ≡ 1 → to ≤ length xs →
    (leb (get_or xs from 0 + l) (n + 1) && ltb 0 (get_or xs from 0)) ≡ line_list_good (read_as b) n l (to - from) (drop from xs)
positions_only b xs n l from {to} one present =
    ap (λ (p : ℕ). leb (p + l) (n + 1) && ltb 0 p) (sym first)
    ∙ good_only b n l only len
    ∙ positions_there (read_as b) xs n l (omega arith) present
  where
    only : List ℕ
    only = take (to - from) (drop from xs)

    len : length only ≡ 1
    len = length-take-le (to - from) (drop from xs) (omega (arith, length-drop from xs)) ∙ omega arith

    first : get_or only 0 0 ≡ get_or xs from 0
    first =
        let here : from + 0 ≡ from = omega arith in
        get_or-take (to - from) (drop from xs) 0 0 (omega arith) ∙ get_or-drop from xs 0 0 ∙ ap (λ (j : ℕ). get_or xs j 0) here
