-- Numbers with a length-preserving function applied to each list: the directory stays, and the lines have the function's lists. Assumes
-- nothing.
use Rattle.std.specs.Prelude.{◌≡◌, get_or}
use Rattle.std.proofs.Math.Path.{refl, ap}
use Rattle.std.proofs.Common.{sym, ◌∙◌, inl, inr, length-drop, length-take-le}
use Rattle.std.proofs.Math.Logic.{⊎_elim}
use mathlib.Core.List.{List, [], ◌∷◌, ◌++◌, append-nil}
use Prim.Native.Nat.{ℕ, zero, suc, ◌+◌, ◌*◌, ◌≤◌, ◌<◌}
use native.Mathlib.Omega.{arith}
use Rattle.std.proofs.Math.ListN.{length, take, drop, length-append, take-append-drop, drop_of_length-le, get_or-append}
use Rattle.std.proofs.Math.Seq.{get_or-take, take_at, drop_at, take_all}
use Rattle.basics.specs.Bools.{le_or_lt}
use Rattle.basics.specs.Member.{In}
use Rattle.spec.specs.Words.{key}
use Rattle.spec.specs.Numbers.{Line, line, numbers}
use Rattle.spec.specs.Index.{header, n_of, keys_of, kind_at, value_at, count_at, key_at, counts_from, entries_of, lines_from, lines_in}
use Rattle.spec.specs.Gaps.{lists_from, with_lists}
use Rattle.spec.specs.GapsTheorems.{lines_with}
use Rattle.laws.specs.Numbers.Slices.{Fits, numbers_lines_in}

abbrev pub KeepsLength : (List ℕ → List ℕ) → Type 0
KeepsLength f = (ps : List ℕ) → length (f ps) ≡ length ps

-- the directory lines before `to` are the same
pub record SameLines (xs ys : List ℕ) (to : ℕ) : Type 0 where
  pub kinds : (j : ℕ) → j < to → kind_at ys j ≡ kind_at xs j
  pub values : (j : ℕ) → j < to → value_at ys j ≡ value_at xs j
  pub counts : (j : ℕ) → j < to → count_at ys j ≡ count_at xs j

module _ (f : List ℕ → List ℕ) (keeps : KeepsLength f) where
  -- THE LISTS FROM i ON

  pub length_lists : (k i : ℕ) (xs ps : List ℕ) → length (lists_from f k i xs ps) ≡ length ps
  unfolding lists_from
  length_lists zero i xs ps = refl
  length_lists (suc k) i xs ps =
      let c = count_at xs i in
      length-append (f (take c ps)) (lists_from f k (suc i) xs (drop c ps))
      ∙ omega (
        arith,
        keeps (take c ps),
        length_lists k (suc i) xs (drop c ps),
        ap length (take-append-drop c ps),
        length-append (take c ps) (drop c ps),
      )

  -- f applied to the first c numbers, or to all if there are fewer: taking and dropping c splits the result from what follows
  seam :
      (c : ℕ) (ps more : List ℕ) → length more ≡ length (drop c ps) →
      (take c (f (take c ps) ++ more) ≡ f (take c ps)) × (drop c (f (take c ps) ++ more) ≡ more)
  seam c ps more e =
      ⊎_elim
      (λ (few : c ≤ length ps).
      let len : length (f (take c ps)) ≡ c = keeps (take c ps) ∙ length-take-le c ps few in
      (take_at (f (take c ps)) more c len, drop_at (f (take c ps)) more c len))
      (λ (many : length ps < c).
      let short : length more ≤ 0 = omega (arith, e, length-drop c ps) in
      let none : more ≡ [] = drop_of_length-le more short in
      let len : length (f (take c ps)) ≤ c = omega (arith, keeps (take c ps), ap length (take_all c ps (omega arith))) in
      rw (none, append-nil (f (take c ps))) (take_all c (f (take c ps)) len, drop_of_length-le (f (take c ps)) len))
      (le_or_lt c (length ps))

  module _ (k i : ℕ) (xs ps : List ℕ) where
    pub front_list : take (count_at xs i) (lists_from f (suc k) i xs ps) ≡ f (take (count_at xs i) ps)
    unfolding lists_from
    front_list =
        (seam (count_at xs i) ps (lists_from f k (suc i) xs (drop (count_at xs i) ps))
        (length_lists k (suc i) xs (drop (count_at xs i) ps))).0

    pub later_lists : drop (count_at xs i) (lists_from f (suc k) i xs ps) ≡ lists_from f k (suc i) xs (drop (count_at xs i) ps)
    unfolding lists_from
    later_lists =
        (seam (count_at xs i) ps (lists_from f k (suc i) xs (drop (count_at xs i) ps))
        (length_lists k (suc i) xs (drop (count_at xs i) ps))).1

  lines_of_lists :
      (k i : ℕ) {xs ys : List ℕ} (ps : List ℕ) → SameLines xs ys (i + k) →
      lines_from k i ys (lists_from f k i xs ps) ≡ lines_with f (lines_from k i xs ps)
  unfolding lines_from lines_with line key
  lines_of_lists zero i ps same = refl
  lines_of_lists (suc k) i {xs} {ys} ps same =
      let next : i + suc k ≡ suc i + k = omega arith in
      rw (
        same.kinds i (omega arith),
        same.values i (omega arith),
        same.counts i (omega arith),
        front_list k i xs ps,
        later_lists k i xs ps,
      )
      (ap (λ (ls : List Line). line (key_at xs i) (f (take (count_at xs i) ps)) ∷ ls)
      (lines_of_lists k (suc i) (drop (count_at xs i) ps) (rw next at same)))

  -- THE WHOLE

  module _ (xs : List ℕ) where
    abbrev ys : List ℕ
    ys = with_lists f xs

    abbrev first : ℕ
    first = header + 3 * keys_of xs

    pub length_with : length ys ≡ length xs
    unfolding with_lists
    length_with =
        length-append (take first xs) (lists_from f (keys_of xs) 0 xs (drop first xs))
        ∙ omega (
          arith,
          length_lists (keys_of xs) 0 xs (drop first xs),
          ap length (take-append-drop first xs),
          length-append (take first xs) (drop first xs),
        )

    module _ (dir : first ≤ length xs) where
      len : length (take first xs) ≡ first
      len = length-take-le first xs dir

      pub directory_with : (j : ℕ) → j < first → get_or ys j 0 ≡ get_or xs j 0
      unfolding with_lists
      directory_with j below =
          get_or-append (take first xs) (lists_from f (keys_of xs) 0 xs (drop first xs)) 0 j (omega (arith, len))
          ∙ get_or-take first xs j 0 below

      pub front_with : take first ys ≡ take first xs
      unfolding with_lists
      front_with = take_at (take first xs) (lists_from f (keys_of xs) 0 xs (drop first xs)) first len

      pub positions_with : drop first ys ≡ lists_from f (keys_of xs) 0 xs (drop first xs)
      unfolding with_lists
      positions_with = drop_at (take first xs) (lists_from f (keys_of xs) 0 xs (drop first xs)) first len

      pub same_with : SameLines xs ys (keys_of xs)
      same_with =
          record {
            kinds = λ j below. directory_with (header + 3 * j) (omega arith);
            values = λ j below. directory_with (header + 3 * j + 1) (omega arith);
            counts = λ j below. directory_with (header + 3 * j + 2) (omega arith);
          }

    -- numbers shorter than their directory are unchanged
    without : length xs < first → ys ≡ xs
    unfolding with_lists
    without short =
        let few : length xs ≤ first = omega arith in
        let none : drop first xs ≡ [] = drop_of_length-le xs few in
        let nothing : lists_from f (keys_of xs) 0 xs [] ≡ [] =
        drop_of_length-le (lists_from f (keys_of xs) 0 xs []) {i = 0} (omega (arith, length_lists (keys_of xs) 0 xs [])) in
        rw (none, take_all first xs (omega arith), nothing, append-nil xs)

    -- the numbers of the header are kept
    header_with : (j : ℕ) → j < header → get_or ys j 0 ≡ get_or xs j 0
    header_with j below =
        ⊎_elim (λ (dir : first ≤ length xs). directory_with dir j (omega arith))
        (λ (short : length xs < first). ap (λ (l : List ℕ). get_or l j 0) (without short)) (le_or_lt first (length xs))

    pub n_with : n_of ys ≡ n_of xs
    n_with = header_with 0 (omega arith)

    pub keys_with : keys_of ys ≡ keys_of xs
    keys_with = header_with 1 (omega arith)

    pub lines_in_with : first ≤ length xs → lines_in ys ≡ lines_with f (lines_in xs)
    unfolding lines_in
    lines_in_with dir =
        let z : 0 + keys_of xs ≡ keys_of xs = omega arith in
        rw (keys_with, positions_with dir) (lines_of_lists (keys_of xs) 0 (drop first xs) (rw z (same_with dir)))

  same_counts : (k i : ℕ) {xs ys : List ℕ} → SameLines xs ys (i + k) → counts_from k i ys ≡ counts_from k i xs
  unfolding counts_from
  same_counts zero i same = refl
  same_counts (suc k) i {xs} {ys} same =
      let next : i + suc k ≡ suc i + k = omega arith in
      rw (same.counts i (omega arith), same_counts k (suc i) (rw next at same))

  module _ (xs : List ℕ) where
    entries_with : header + 3 * keys_of xs ≤ length xs → entries_of (with_lists f xs) ≡ entries_of xs
    unfolding entries_of
    entries_with dir =
        let z : 0 + keys_of xs ≡ keys_of xs = omega arith in
        rw (keys_with xs) (same_counts (keys_of xs) 0 (rw z (same_with xs dir)))

    pub fits_with : Fits xs → Fits (with_lists f xs)
    fits_with fits =
        record {
          has_header = omega (arith, length_with xs);
          has_directory = omega (arith, length_with xs, keys_with xs);
          len = omega (arith, length_with xs, keys_with xs, entries_with fits.has_directory);
        }

    pub fits_back : Fits (with_lists f xs) → Fits xs
    fits_back fits =
        let dir : header + 3 * keys_of xs ≤ length xs = omega (arith, length_with xs, keys_with xs) in
        record {
          has_header = omega (arith, length_with xs);
          has_directory = dir;
          len = omega (arith, length_with xs, keys_with xs, entries_with dir);
        }

    -- the same n and keys, and f applied to each list
    pub numbers_with : Fits xs → with_lists f xs ≡ numbers (n_of xs) (lines_with f (lines_in xs))
    numbers_with fits =
        sym (numbers_lines_in (with_lists f xs) (fits_with fits)) ∙ rw (n_with xs, lines_in_with xs fits.has_directory)

-- a line with f applied to its list
pub in_lines_with : (f : List ℕ → List ℕ) (l : Line) (ls : List Line) → In l ls → In (line l.key_of (f l.positions)) (lines_with f ls)
unfolding lines_with
in_lines_with f l [] m = absurd m
in_lines_with f l (k ∷ ls) (inl e) = inl (ap (λ (l : Line). line l.key_of (f l.positions)) e)
in_lines_with f l (k ∷ ls) (inr m) = inr (in_lines_with f l ls m)

-- THERE AND BACK

module _ (f g : List ℕ → List ℕ) (keeps : KeepsLength f) where
  lists_back :
      (k i : ℕ) {xs ys : List ℕ} (ps : List ℕ) → SameLines xs ys (i + k) →
      ((l : Line) → In l (lines_from k i xs ps) → g (f l.positions) ≡ l.positions) → lists_from g k i ys (lists_from f k i xs ps) ≡ ps
  unfolding lists_from lines_from line
  lists_back zero i ps same each = refl
  lists_back (suc k) i {xs} {ys} ps same each =
      let next : i + suc k ≡ suc i + k = omega arith in
      rw (
        same.counts i (omega arith),
        front_list f keeps k i xs ps,
        later_lists f keeps k i xs ps,
        each (line (key_at xs i) (take (count_at xs i) ps)) (inl refl),
      )
      (ap (λ (qs : List ℕ). take (count_at xs i) ps ++ qs)
      (lists_back k (suc i) (drop (count_at xs i) ps) (rw next at same) (λ l m. each l (inr m)))
      ∙ take-append-drop (count_at xs i) ps)

  -- if g undoes f on each list, it undoes it on the whole
  pub with_back :
      KeepsLength g → (xs : List ℕ) → ((l : Line) → In l (lines_in xs) → g (f l.positions) ≡ l.positions) →
      with_lists g (with_lists f xs) ≡ xs
  unfolding with_lists lines_in
  with_back keeps_too xs each = ⊎_elim there missing (le_or_lt first (length xs))
    where
      first : ℕ
      first = header + 3 * keys_of xs

      ys : List ℕ
      ys = with_lists f xs

      missing : length xs < first → with_lists g ys ≡ xs
      missing short = ap (with_lists g) (without f keeps xs short) ∙ without g keeps_too xs short

      there : first ≤ length xs → with_lists g ys ≡ xs
      there dir =
          let z : 0 + keys_of xs ≡ keys_of xs = omega arith in
          rw (keys_with f keeps xs, front_with f keeps xs dir, positions_with f keeps xs dir)
          (ap (λ (qs : List ℕ). take first xs ++ qs)
          (lists_back (keys_of xs) 0 (drop first xs) (rw z (same_with f keeps xs dir)) each)
          ∙ take-append-drop first xs)
