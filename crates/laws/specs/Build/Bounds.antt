-- How many numbers a text's index has, and that every one is a 16-bit number if the text has at most 65,535 characters. Assumes
-- nothing.
use Rattle.std.specs.Prelude.{◌≡◌, refl, ℕ, ◌+◌, ◌*◌, ◌≤◌, ◌<◌, get_or}
use Rattle.std.proofs.Common.{inl, inr, ⊎_elim, arith}
use mathlib.Core.List.{List, [], ◌∷◌, ◌++◌}
use Rattle.std.proofs.Math.ListN.{length, length-append}
use Rattle.basics.specs.Member.{In, in_append_get, in_getD}
use Rattle.spec.specs.Dictionary.{Lexicon}
use Rattle.spec.specs.Words.{entries}
use Rattle.spec.specs.Numbers.{Line, sorted, lines_of, directory, all_positions, header_numbers, numbers, index_of}
use Rattle.spec.specs.Index.{header}
use Rattle.models.specs.Entries.{longest_at}
use Rattle.models.specs.Scan.{make_index}
use Rattle.laws.specs.Text.Facts.{Chars, GoodLexicon, GoodLine, GoodLines}
use Rattle.laws.specs.Dictionary.Keys.{spells_some, value_below}
use Rattle.laws.specs.Numbers.Header.{header_law}
use Rattle.laws.specs.Numbers.Slices.{entries_of_numbers, length_numbers}
use Rattle.laws.specs.Readable.IndexOf.{lines_in_index, index_lines_good, entries_of_index}
use Rattle.laws.specs.Entries.Scan.{length_scan}
use Rattle.laws.specs.Build.Inverted.{scan_count}

-- AT MOST n ENTRIES

pub entries_few : (lex : Lexicon) (ts : List ℕ) → GoodLexicon lex → Chars ts → length (entries lex ts) ≤ length ts
unfolding make_index
entries_few lex ts good chars = omega (arith, scan_count good ts chars, length_scan (longest_at lex ts) (length ts) 1 1)

-- at most as many lines as positions
lines_few :
    (lex : Lexicon) (n : ℕ) (ls : List Line) → ((l : Line) → In l ls → GoodLine lex n l) → length ls ≤ length (all_positions ls)
unfolding all_positions
lines_few lex n [] each = omega arith
lines_few lex n (l ∷ ls) each =
    omega (arith, (each l (inl refl)).some, lines_few lex n ls (λ m i. each m (inr i)), length-append l.positions (all_positions ls))

-- so an index has at most 4n numbers after its header
pub index_short : (lex : Lexicon) (ts : List ℕ) → GoodLexicon lex → Chars ts → length (index_of lex ts) ≤ header + 4 * length ts
unfolding index_of
index_short lex ts good chars =
    let lines : List Line = lines_of (sorted (entries lex ts)) in
    omega (
      arith,
      length_numbers (length ts) lines,
      lines_few lex (length ts) lines (rw lines_in_index at (index_lines_good good ts chars)).each,
      entries_few lex ts good chars,
      entries_of_index good ts chars,
      entries_of_numbers (length ts) lines,
    )

-- NUMBERS BELOW A BOUND

abbrev pub Below : (bound : ℕ) → List ℕ → Type 0
Below b xs = (x : ℕ) → In x xs → x < b

below_append : (b : ℕ) (xs ys : List ℕ) → Below b xs → Below b ys → Below b (xs ++ ys)
below_append b xs ys p q x m = ⊎_elim (λ (l : In x xs). p x l) (λ (r : In x ys). q x r) (in_append_get x xs ys m)

below_cons : (b x : ℕ) (xs : List ℕ) → x < b → Below b xs → Below b (x ∷ xs)
below_cons b x xs h p y (inl e) = omega arith
below_cons b x xs h p y (inr m) = p y m

-- n is below the bound
module _ {lex : Lexicon} (good : GoodLexicon lex) (bound : ℕ) (n : ℕ) (short : n < bound) where
  pub position_below : {l : Line} → GoodLine lex n l → Below bound l.positions
  position_below {l} h p m =
      omega (arith, h.fits p m, spells_some good l.key_of h.is_key)

  pub positions_below : (ls : List Line) → ((l : Line) → In l ls → GoodLine lex n l) → Below bound (all_positions ls)
  unfolding all_positions
  positions_below [] each = λ x m. absurd m
  positions_below (l ∷ ls) each =
      below_append bound l.positions (all_positions ls) (position_below (each l (inl refl))) (positions_below ls (λ m i. each m (inr i)))

  -- and so are characters
  module _ (wide : 65536 ≤ bound) where
    directory_below :
        (ls : List Line) → ((l : Line) → In l ls → GoodLine lex n l) → length (all_positions ls) < bound → Below bound (directory ls)
    unfolding directory all_positions
    directory_below [] each few = λ x m. absurd m
    directory_below (l ∷ ls) each few =
        let both : length (l.positions ++ all_positions ls) ≡ length l.positions + length (all_positions ls) =
        length-append l.positions
        (all_positions ls) in
        let h : GoodLine lex n l = each l (inl refl) in
        below_cons bound l.key_of.kind (l.key_of.value ∷ length l.positions ∷ directory ls)
        (omega arith)
        (below_cons bound l.key_of.value (length l.positions ∷ directory ls)
        (omega (arith, value_below good l.key_of h.is_key))
        (below_cons bound (length l.positions) (directory ls) (omega arith)
        (directory_below ls (λ m i. each m (inr i)) (omega arith))))

    pub numbers_below : {ls : List Line} → GoodLines lex n ls → length (all_positions ls) < bound → Below bound (numbers n ls)
    unfolding numbers
    numbers_below {ls} lines few =
        below_append bound (header_numbers n ls) (directory ls ++ all_positions ls)
        ((header_law n ls).below bound short (omega (arith, lines_few lex n ls lines.each)) few)
        (below_append bound (directory ls) (all_positions ls) (directory_below ls lines.each few) (positions_below ls lines.each))

-- THE INDEX OF A TEXT

pub index_below :
    {lex : Lexicon} (ts : List ℕ) → GoodLexicon lex → Chars ts → (bound : ℕ) → 65536 ≤ bound → length ts < bound →
    Below bound (index_of lex ts)
unfolding index_of
index_below {lex} ts good chars bound wide short =
    numbers_below good bound (length ts) short wide
    (rw lines_in_index at (index_lines_good good ts chars))
    (omega (
      arith,
      entries_few lex ts good chars,
      entries_of_index good ts chars,
      entries_of_numbers (length ts) (lines_of (sorted (entries lex ts))),
    ))

-- the index of a text as short as that of a job has no number that is not a character's
pub index_chars : {lex : Lexicon} (ts : List ℕ) → GoodLexicon lex → Chars ts → length ts ≤ 2000 → Chars (index_of lex ts)
index_chars {lex} ts good chars short i h =
    index_below ts good chars 65536 (omega arith) (omega arith) (get_or (index_of lex ts) i 0) (in_getD (index_of lex ts) i 0 h)
