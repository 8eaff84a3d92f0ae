-- The statements of `spec`'s GapsTheorems about numbers, proved: the gap form of an index, its inverse, and that no sum wraps. Assumes
-- nothing.
use Rattle.std.specs.Prelude.{◌≡◌, refl, true, ℕ, zero, suc, ◌+◌, ◌*◌, ◌-◌, ◌≤◌, ◌<◌, take}
use Rattle.std.proofs.Math.Path.{sym, ap}
use Rattle.std.proofs.Common.{◌∙◌}
use Rattle.std.proofs.Math.Logic.{⊎_elim}
use mathlib.Core.List.{List, [], ◌∷◌}
use native.Mathlib.Omega.{arith}
use Rattle.std.proofs.Math.ListN.{length, get_or, drop, get_or-eq_default}
use Rattle.std.proofs.Math.Seq.{get_or-drop}
use Rattle.basics.specs.Bools.{le_or_lt}
use Rattle.basics.specs.Member.{In, in_getD}
use Rattle.spec.specs.Dictionary.{Lexicon, lexicon, total, admitted}
use Rattle.spec.specs.Numbers.{Line, line, all_positions}
use Rattle.spec.specs.Index.{header, n_of, keys_of, count_at, last_of, lines_in, readable}
use Rattle.spec.specs.Gaps.{gaps_after, sums_after, gaps, prefix_sums, lists_from, gap_form, restored}
use Rattle.spec.specs.GapsTheorems.{GapList, GapsUnderKeys, GapsThereAndBack, SumsFit}
use Rattle.models.specs.Window.{line_of, list_start}
use Rattle.laws.specs.Dictionary.Lexicon.{admitted_lexicon}
use Rattle.laws.specs.Numbers.Slices.{Fits, keys_of_numbers, positions_start}
use Rattle.laws.specs.Numbers.LineNumbers.{line_of_in}
use Rattle.laws.specs.Readable.Readable.{Readable, readable_get, last_in}
use Rattle.laws.specs.Build.Bounds.{Below, position_below, positions_below}
use Rattle.laws.specs.Readable.LineWalk.{readable_fits}
use Rattle.laws.specs.Gaps.GapLists.{length_gaps, length_sums, gaps_of_sums, sums_of_gaps, gaps_later, last_sums}
use Rattle.laws.specs.Gaps.WithLists.{length_with, keys_with, directory_with, positions_with, same_with, lines_in_with, in_lines_with}
use Rattle.laws.specs.Gaps.WithLists.{fits_back, numbers_with, with_back}

-- ONE LIST

pub gap_list : GapList
unfolding gaps_after
gap_list = record { first = first; later = gaps_later 0; same_len = length_gaps 0 }
  where
    first : (ps : List ℕ) → get_or (gaps ps) 0 0 ≡ get_or ps 0 0
    first [] = refl
    first (p ∷ ps) = omega arith

-- THE FORM OF AN INDEX

pub gaps_under_keys : (g : ℕ) → GapsUnderKeys g
unfolding GapsUnderKeys gap_form
gaps_under_keys g lex xs can = numbers_with gaps (length_gaps 0) xs (readable_fits g lex xs can)

-- THERE AND BACK

pub length_gap_form : (xs : List ℕ) → length (gap_form xs) ≡ length xs
unfolding gap_form
length_gap_form xs = length_with gaps (length_gaps 0) xs

pub length_restored : (ds : List ℕ) → length (restored ds) ≡ length ds
unfolding restored
length_restored ds = length_with prefix_sums (length_sums 0) ds

pub gaps_restored : (g : ℕ) (lex : Lexicon) (xs : List ℕ) → readable g lex xs ≡ true → restored (gap_form xs) ≡ xs
unfolding gap_form restored
gaps_restored g lex xs can =
    with_back gaps prefix_sums (length_gaps 0) (length_sums 0) xs
    (λ l m. sums_of_gaps 0 l.positions ((readable_get g lex xs can).lines.each l m).rise)

pub restored_gaps : (ds : List ℕ) → gap_form (restored ds) ≡ ds
unfolding gap_form restored
restored_gaps ds = with_back prefix_sums gaps (length_sums 0) (length_gaps 0) ds (λ l m. gaps_of_sums 0 l.positions)

pub gaps_there_and_back : (g : ℕ) → GapsThereAndBack g
gaps_there_and_back g =
    record {
      same_len = length_gap_form;
      same_len_back = length_restored;
      exactly = gaps_restored g;
      unchanged = restored_gaps;
      only = λ lex ds can. (restored ds, can, restored_gaps ds);
      all = λ lex xs can. rw (gaps_restored g lex xs can) can;
      one =
          λ lex xs ys can can_too same.
          sym (gaps_restored g lex xs can) ∙ ap restored same ∙ gaps_restored g lex ys can_too;
    }

-- NO SUM WRAPS

-- every line of a readable index has a position
pub count_some : (g : ℕ) (lex : Lexicon) (xs : List ℕ) (i : ℕ) → readable g lex xs ≡ true → i < keys_of xs → 1 ≤ count_at xs i
unfolding line
count_some g lex xs i can below =
    by_count (count_at xs i) (drop (list_start xs i) xs)
    ((readable_get g lex xs can).lines.each (line_of xs i) (line_of_in xs i below)).some
  where
    by_count : (c : ℕ) (ps : List ℕ) → 1 ≤ length (take c ps) → 1 ≤ c
    by_count zero ps some = absurd (omega arith)
    by_count (suc c) ps some = omega arith

module _ (e : ℕ) (cs ls ds : List ℕ) (good : admitted cs ls ≡ true) (can : readable e (lexicon cs ls) (restored ds) ≡ true) where
  abbrev lex : Lexicon
  lex = lexicon cs ls

  abbrev first : ℕ
  first = header + 3 * keys_of ds

  pub restored_fits : Fits ds
  unfolding restored
  restored_fits = fits_back prefix_sums (length_sums 0) ds (readable_fits e lex (restored ds) can)

  pub restored_some : (i : ℕ) → i < keys_of ds → 1 ≤ count_at ds i
  unfolding restored
  restored_some i below =
      let counts = (same_with prefix_sums (length_sums 0) ds restored_fits.has_directory).counts i below in
      omega (arith, counts, count_some e lex (restored ds) i can (omega (arith, keys_with prefix_sums (length_sums 0) ds)))

  restored_positions : drop first (restored ds) ≡ lists_from prefix_sums (keys_of ds) 0 ds (drop first ds)
  unfolding restored
  restored_positions = positions_with prefix_sums (length_sums 0) ds restored_fits.has_directory

  -- each restored position is that of an entry, so at most n
  restored_below : Below (suc e) (all_positions (lines_in (restored ds)))
  restored_below =
      let r = readable_get e lex (restored ds) can in
      positions_below (admitted_lexicon cs ls good) (suc e) (n_of (restored ds)) (omega arith)
      (lines_in (restored ds)) r.lines.each

  positions_are : all_positions (lines_in (restored ds)) ≡ drop first (restored ds)
  unfolding restored
  positions_are =
      let r = readable_get e lex (restored ds) can in
      let len : length (lines_in (restored ds)) ≡ keys_of ds =
      sym (ap keys_of r.is_numbers ∙ keys_of_numbers (n_of (restored ds)) (lines_in (restored ds)))
      ∙ keys_with prefix_sums (length_sums 0) ds in
      sym (positions_start (n_of (restored ds)) (lines_in (restored ds)))
      ∙ rw len (ap (λ (l : List ℕ). drop first l) (sym r.is_numbers))

  pub sums_small : (j : ℕ) → get_or (lists_from prefix_sums (keys_of ds) 0 ds (drop first ds)) j 0 ≤ e
  sums_small j =
      ⊎_elim
      (λ (past : length (drop first (restored ds)) ≤ j).
      rw (← restored_positions) (omega (arith, get_or-eq_default (drop first (restored ds)) 0 past)))
      (λ (below : j < length (drop first (restored ds))).
      let ps = all_positions (lines_in (restored ds)) in
      rw (← restored_positions, ← positions_are)
      (omega (arith, restored_below (get_or ps j 0) (in_getD ps j 0 (omega (arith, ap length positions_are))))))
      (le_or_lt (length (drop first (restored ds))) j)

  pub restored_small : ((i : ℕ) → get_or ds i 0 ≤ e) → (i : ℕ) → get_or (restored ds) i 0 ≤ e
  unfolding restored
  restored_small small i =
      ⊎_elim
      (λ (later : first ≤ i).
      let at : first + (i - first) ≡ i = omega arith in
      let is : get_or (drop first (restored ds)) (i - first) 0 ≡ get_or (restored ds) i 0 =
      get_or-drop first (restored ds) (i - first) 0 ∙ ap (λ (j : ℕ). get_or (restored ds) j 0) at in
      omega (arith, is, ap (λ (l : List ℕ). get_or l (i - first) 0) restored_positions, sums_small (i - first)))
      (λ (early : i < first). omega (arith, directory_with prefix_sums (length_sums 0) ds restored_fits.has_directory i early, small i))
      (le_or_lt first i)

  -- a line's gaps add up to the last of its positions
  pub totals_small : (l : Line) → In l (lines_in ds) → total l.positions ≤ e
  unfolding restored sums_after total line
  totals_small l m = by_list l.positions below
    where
      r : Readable e lex (restored ds)
      r = readable_get e lex (restored ds) can

      below : Below (suc e) (prefix_sums l.positions)
      below =
          position_below (admitted_lexicon cs ls good) (suc e) (n_of (restored ds)) (omega (arith, r.length_allowed))
          (r.lines.each (line l.key_of (prefix_sums l.positions))
          (rw (lines_in_with prefix_sums (length_sums 0) ds restored_fits.has_directory) (in_lines_with prefix_sums l (lines_in ds) m)))

      by_list : (ps : List ℕ) → Below (suc e) (prefix_sums ps) → total ps ≤ e
      by_list [] small = omega arith
      by_list (p ∷ ps) small =
          omega (arith, last_sums 0 p ps, small (last_of (prefix_sums (p ∷ ps))) (last_in (0 + p) (sums_after (0 + p) ps)))

pub sums_fit : SumsFit
unfolding SumsFit
sums_fit e cs ls ds good can small = restored_small e cs ls ds good can small
