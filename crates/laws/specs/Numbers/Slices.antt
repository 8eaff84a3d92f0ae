-- Numbers and lines, both ways: lines read back from their numbers, a slice rebuilt from its lines. Assumes nothing.
use Rattle.std.specs.Prelude.{◌≡◌, refl, Bool, true, ◌&&◌, List, [], ◌∷◌, ◌++◌, ℕ, zero}
use Rattle.std.specs.Prelude.{suc, ◌+◌, ◌*◌, ◌≤◌, leb, eqb, length, get_or, take, drop}
use Rattle.std.proofs.Common.{sym, ap, ◌∙◌, inl, inr, arith, length-append, length-drop, take-append-drop}
use Rattle.std.proofs.Common.{get_or-drop, drop-drop, drop_at, drop-cons, length-take-le, le-leb, leb-true, eq-eqb, eqb-true}
use Rattle.std.proofs.Math.Seq.{take-append_seam, drop-append_seam}
use Rattle.basics.specs.Bools.{and_put, and_left, and_right}
use Rattle.basics.specs.Member.{In}
use Rattle.spec.specs.Words.{key}
use Rattle.spec.specs.Numbers.{Line, line, directory, all_positions, header_numbers, numbers}
use Rattle.spec.specs.Index.{header, n_of, keys_of, kind_at, value_at, count_at, counts_from, entries_of, lines_from, lines_in, kinds_good}
use Rattle.spec.specs.Index.{lengths_fit}
use Rattle.laws.specs.Numbers.Header.{header_law}

-- FROM LINES TO NUMBERS AND BACK

-- l is line i of a slice, and `more` follows it
pub record LineThen (xs : List ℕ) (i : ℕ) (l : Line) (more : List ℕ) : Type 0 where
  pub kind_is : kind_at xs i ≡ l.key_of.kind
  pub value_is : value_at xs i ≡ l.key_of.value
  pub count_is : count_at xs i ≡ length l.positions
  pub next : drop (header + 3 * suc i) xs ≡ more

pub line_then :
    (xs : List ℕ) (i : ℕ) (l : Line) (ls : List Line) (more : List ℕ) → drop (header + 3 * i) xs ≡ directory (l ∷ ls) ++ more →
    LineThen xs i l (directory ls ++ more)
unfolding directory
line_then xs i l ls more e =
    record {
      kind_is = ap (λ (j : ℕ). get_or xs j 0) (sym zero_more) ∙ at 0;
      value_is = at 1;
      count_is = at 2;
      next = ap (λ (j : ℕ). drop j xs) three_more ∙ sym (drop-drop 3 (header + 3 * i) xs) ∙ ap (λ (k : List ℕ). drop 3 k) e;
    }
  where
    zero_more : header + 3 * i + 0 ≡ header + 3 * i
    zero_more = omega arith

    three_more : header + 3 * suc i ≡ header + 3 * i + 3
    three_more = omega arith

    at : (j : ℕ) → get_or xs (header + 3 * i + j) 0 ≡ get_or (directory (l ∷ ls) ++ more) j 0
    at j = sym (get_or-drop (header + 3 * i) xs j 0) ∙ ap (λ (k : List ℕ). get_or k j 0) e

pub length_directory : (ls : List Line) → length (directory ls) ≡ 3 * length ls
unfolding directory
length_directory [] = refl
length_directory (l ∷ ls) = omega (arith, length_directory ls)

lines_from_directory :
    (ls : List Line) (i : ℕ) (xs more : List ℕ) → drop (header + 3 * i) xs ≡ directory ls ++ more →
    lines_from (length ls) i xs (all_positions ls) ≡ ls
unfolding directory all_positions lines_from line key
lines_from_directory [] i xs more e = refl
lines_from_directory (l ∷ ls) i xs more e =
    let at = line_then xs i l ls more e in
    let rest = lines_from_directory ls (suc i) xs more at.next in
    rw (
      at.kind_is,
      at.value_is,
      at.count_is,
      take-append_seam l.positions (all_positions ls),
      drop-append_seam l.positions (all_positions ls),
      rest,
    )

counts_from_directory :
    (ls : List Line) (i : ℕ) (xs more : List ℕ) → drop (header + 3 * i) xs ≡ directory ls ++ more →
    counts_from (length ls) i xs ≡ length (all_positions ls)
unfolding directory all_positions counts_from
counts_from_directory [] i xs more e = refl
counts_from_directory (l ∷ ls) i xs more e =
    let at = line_then xs i l ls more e in
    rw (at.count_is, counts_from_directory ls (suc i) xs more at.next, length-append l.positions (all_positions ls))

pub n_of_numbers : (n : ℕ) (ls : List Line) → n_of (numbers n ls) ≡ n
unfolding numbers header_numbers
n_of_numbers n ls = refl

pub keys_of_numbers : (n : ℕ) (ls : List Line) → keys_of (numbers n ls) ≡ length ls
unfolding numbers header_numbers
keys_of_numbers n ls = refl

pub directory_starts : (n : ℕ) (ls : List Line) → drop (header + 3 * 0) (numbers n ls) ≡ directory ls ++ all_positions ls
unfolding numbers
directory_starts n ls = drop_at (header_numbers n ls) (directory ls ++ all_positions ls) header (header_law n ls).len

pub positions_start : (n : ℕ) (ls : List Line) → drop (header + 3 * length ls) (numbers n ls) ≡ all_positions ls
positions_start n ls =
    sym (drop-drop (3 * length ls) header (numbers n ls))
    ∙ ap (λ (l : List ℕ). drop (3 * length ls) l) (directory_starts n ls)
    ∙ drop_at (directory ls) (all_positions ls) (3 * length ls) (length_directory ls)

pub lines_in_numbers : (n : ℕ) (ls : List Line) → lines_in (numbers n ls) ≡ ls
unfolding lines_in
lines_in_numbers n ls =
    rw (keys_of_numbers, positions_start, lines_from_directory ls 0 (numbers n ls) (all_positions ls) (directory_starts n ls))

pub entries_of_numbers : (n : ℕ) (ls : List Line) → entries_of (numbers n ls) ≡ length (all_positions ls)
unfolding entries_of
entries_of_numbers n ls = rw keys_of_numbers (counts_from_directory ls 0 (numbers n ls) (all_positions ls) (directory_starts n ls))

-- the length of the numbers: the header, three for each line, one for each position
pub length_numbers : (n : ℕ) (ls : List Line) → length (numbers n ls) ≡ header + 3 * length ls + length (all_positions ls)
unfolding numbers
length_numbers n ls =
    omega (
      arith,
      (header_law n ls).len,
      length-append (header_numbers n ls) (directory ls ++ all_positions ls),
      length-append (directory ls) (all_positions ls),
      length_directory ls,
    )

pub kinds_good_directory :
    (ls : List Line) (i : ℕ) (xs more : List ℕ) → drop (header + 3 * i) xs ≡ directory ls ++ more →
    ((l : Line) → In l ls → l.key_of.kind ≤ 1) → kinds_good (length ls) i xs ≡ true
unfolding directory kinds_good
kinds_good_directory [] i xs more e small = refl
kinds_good_directory (l ∷ ls) i xs more e small =
    let at = line_then xs i l ls more e in
    rw at.kind_is
    (and_put (le-leb l.key_of.kind 1 (small l (inl refl)))
    (kinds_good_directory ls (suc i) xs more at.next (λ m k. small m (inr k))))

pub lengths_fit_numbers : (n : ℕ) (ls : List Line) → lengths_fit (numbers n ls) ≡ true
unfolding lengths_fit
lengths_fit_numbers n ls =
    rw (keys_of_numbers, entries_of_numbers, length_numbers)
    (and_put (and_put (le-leb header whole (omega arith)) (le-leb (header + 3 * length ls) whole (omega arith)))
    (eq-eqb whole whole refl))
  where
    whole : ℕ
    whole = header + 3 * length ls + length (all_positions ls)

-- FROM NUMBERS TO LINES AND BACK

pub kinds_good_lines_from :
    (k i : ℕ) (xs ps : List ℕ) → kinds_good k i xs ≡ true → (l : Line) → In l (lines_from k i xs ps) → l.key_of.kind ≤ 1
unfolding kinds_good lines_from line key
kinds_good_lines_from zero i xs ps t l m = absurd m
kinds_good_lines_from (suc k) i xs ps t l (inl e) =
    rw e (leb-true (kind_at xs i) 1 (and_left (leb (kind_at xs i) 1) (kinds_good k (suc i) xs) t))
kinds_good_lines_from (suc k) i xs ps t l (inr m) =
    kinds_good_lines_from k (suc i) xs (drop (count_at xs i) ps) (and_right (leb (kind_at xs i) 1) (kinds_good k (suc i) xs) t) l m

pub length_lines_from : (k i : ℕ) (xs ps : List ℕ) → length (lines_from k i xs ps) ≡ k
unfolding lines_from
length_lines_from zero i xs ps = refl
length_lines_from (suc k) i xs ps = ap suc (length_lines_from k (suc i) xs (drop (count_at xs i) ps))

three_of :
    (xs : List ℕ) (i : ℕ) → header + 3 * suc i ≤ length xs →
    drop (header + 3 * i) xs ≡ kind_at xs i ∷ value_at xs i ∷ count_at xs i ∷ drop (header + 3 * suc i) xs
three_of xs i h = go (header + 3 * i) (header + 3 * suc i) (omega arith) h
  where
    go :
        (j end : ℕ) → suc (suc (suc j)) ≡ end → end ≤ length xs →
        drop j xs ≡ get_or xs j 0 ∷ get_or xs (j + 1) 0 ∷ get_or xs (j + 2) 0 ∷ drop end xs
    go j end e fits =
        let one : j + 1 ≡ suc j = omega arith in
        let two : j + 2 ≡ suc (suc j) = omega arith in
        rw (
          one,
          two,
          ← e,
          drop-cons xs j 0 (omega arith),
          drop-cons xs (suc j) 0 (omega arith),
          drop-cons xs (suc (suc j)) 0 (omega arith),
        )

directory_lines_from :
    (k i : ℕ) (xs ps : List ℕ) → header + 3 * (i + k) ≤ length xs → counts_from k i xs ≤ length ps →
    directory (lines_from k i xs ps) ++ drop (header + 3 * (i + k)) xs ≡ drop (header + 3 * i) xs
unfolding directory lines_from counts_from line key
directory_lines_from zero i xs ps h c = let z : i + 0 ≡ i = omega arith in rw z
directory_lines_from (suc k) i xs ps h c =
    let z : i + suc k ≡ suc i + k = omega arith in
    let len : length (take (count_at xs i) ps) ≡ count_at xs i = length-take-le (count_at xs i) ps (omega arith) in
    let next = directory_lines_from k (suc i) xs (drop (count_at xs i) ps) (omega arith) (simp length-drop (omega arith)) in
    rw (z, len, next, three_of xs i (omega arith))

positions_lines_from : (k i : ℕ) (xs ps : List ℕ) → counts_from k i xs ≡ length ps → all_positions (lines_from k i xs ps) ≡ ps
unfolding all_positions lines_from counts_from line
positions_lines_from zero i xs [] e = refl
positions_lines_from zero i xs (p ∷ ps) e = absurd (omega arith)
positions_lines_from (suc k) i xs ps e =
    rw (positions_lines_from k (suc i) xs (drop (count_at xs i) ps) (simp length-drop (omega arith)))
    (take-append-drop (count_at xs i) ps)

-- the lengths in a slice fit together
pub record Fits (xs : List ℕ) : Type 0 where
  pub has_header : header ≤ length xs
  pub has_directory : header + 3 * keys_of xs ≤ length xs
  pub len : length xs ≡ header + 3 * keys_of xs + entries_of xs

pub lengths_fit_get : (xs : List ℕ) → lengths_fit xs ≡ true → Fits xs
unfolding lengths_fit
lengths_fit_get xs t =
    record {
      has_header = leb-true header (length xs) (and_left head dir front);
      has_directory = leb-true (header + 3 * keys_of xs) (length xs) (and_right head dir front);
      len = eqb-true (length xs) (header + 3 * keys_of xs + entries_of xs) (and_right (head && dir) whole t);
    }
  where
    head : Bool
    head = leb header (length xs)

    dir : Bool
    dir = leb (header + 3 * keys_of xs) (length xs)

    whole : Bool
    whole = eqb (length xs) (header + 3 * keys_of xs + entries_of xs)

    front : (head && dir) ≡ true
    front = and_left (head && dir) whole t

pub numbers_lines_in : (xs : List ℕ) → Fits xs → numbers (n_of xs) (lines_in xs) ≡ xs
unfolding numbers lines_in entries_of
numbers_lines_in xs fits =
    rw (← head, positions_lines_from (keys_of xs) 0 xs positions counts, rest) (take-append-drop header xs)
  where
    positions : List ℕ
    positions = drop (header + 3 * keys_of xs) xs

    head : take header xs ≡ header_numbers (n_of xs) (lines_in xs)
    head = (header_law (n_of xs) (lines_in xs)).read xs fits.has_header refl (sym (length_lines_from (keys_of xs) 0 xs positions))

    counts : counts_from (keys_of xs) 0 xs ≡ length positions
    counts = simp length-drop (omega arith)

    rest : directory (lines_from (keys_of xs) 0 xs positions) ++ positions ≡ drop header xs
    rest =
        let z : 0 + keys_of xs ≡ keys_of xs = omega arith in
        rw z at (directory_lines_from (keys_of xs) 0 xs positions (omega arith) (omega (arith, counts)))
