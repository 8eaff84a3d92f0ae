-- The parts of an index that are lent for writing its gap form, or of a gap form for writing the index: what each writer is lent, what it
-- leaves, and that together they are the form. Assumes nothing.
use Rattle.std.specs.Prelude.{◌≡◌, refl, Bool, true, false, ℕ, suc, ◌+◌, ◌*◌, ◌-◌, ◌≤◌, ◌<◌, length, get_or, take, drop, replicate}
use Rattle.std.proofs.Common.{sym, ◌∙◌, arith, length-drop, drop_of_length-le, drop-drop, length-take-le}
use Rattle.std.proofs.Math.Path.{ap}
use mathlib.Core.List.{List, [], ◌∷◌, ◌++◌, append-nil}
use Rattle.basics.specs.Member.{In}
use Rattle.basics.specs.Placed.{placed, length_placed, Writing, writing_start, writing_step}
use Rattle.basics.specs.Writing.{lent_tail, tail_back, lent_tail_is, tail_written}
use Rattle.spec.specs.Dictionary.{total}
use Rattle.spec.specs.Numbers.{Line}
use Rattle.spec.specs.Index.{header, keys_of, count_at, counts_from, entries_of, lines_in}
use Rattle.spec.specs.Gaps.{gaps_after, gaps, prefix_sums, lists_from, with_lists}
use Rattle.models.specs.Gaps.{by_pairs, first_apart, carry, masks, masked_sums, pair_as, first_as}
use Rattle.laws.specs.Numbers.Slices.{Fits}
use Rattle.laws.specs.Gaps.WithLists.{KeepsLength, length_lists, length_with}
use Rattle.laws.specs.Gaps.GapWriting.{length_pairs, gaps_pairs, gaps_apart, lists_alike, Firsts, first_room, list_room}
use Rattle.laws.specs.Gaps.GapSums.{masked_lists, carry_pairs}

-- WHAT IS WRITTEN, by the direction: gaps of positions, or positions of gaps

-- what this requires of the numbers
pub record Writable (restore : Bool) (xs : List ℕ) : Type 0 where
  pub fits : Fits xs
  pub some : (i : ℕ) → i < keys_of xs → 1 ≤ count_at xs i
  pub totals : restore ≡ true → (l : Line) → In l (lines_in xs) → total l.positions ≤ carry
  pub sums : restore ≡ true → (j : ℕ) → get_or (lists_from prefix_sums (keys_of xs) 0 xs (drop (header + 3 * keys_of xs) xs)) j 0 ≤ carry

-- the counts add up to the number of positions
pub counts_all : {xs : List ℕ} → Fits xs → counts_from (keys_of xs) 0 xs ≡ length (drop (header + 3 * keys_of xs) xs)
unfolding entries_of
counts_all {xs} fits = omega (arith, length-drop (header + 3 * keys_of xs) xs)

length_apart : (y : ℕ → ℕ) (x : ℕ → ℕ → ℕ) (ps : List ℕ) → length (first_apart y x ps) ≡ length ps
unfolding first_apart
length_apart y x [] = refl
length_apart y x (p ∷ ps) = ap suc (length_pairs x p ps)

-- the parts of the numbers that are lent: the positions, and a run of them with the number before
module _ {xs : List ℕ} (fits : Fits xs) (first : ℕ) (is : first ≡ header + 3 * keys_of xs) where
  abbrev positions : List ℕ
  positions = drop (header + 3 * keys_of xs) xs

  abbrev run : List ℕ
  run = lent_tail (first - 1) xs

  pub run_len : length run ≡ suc (length positions)
  run_len =
      ap length (lent_tail_is (first - 1) xs)
      ∙ omega (arith, length-drop (first - 1) xs, length-drop (header + 3 * keys_of xs) xs, is)

  run_positions : drop 1 run ≡ positions
  run_positions =
      let next : first - 1 + 1 ≡ header + 3 * keys_of xs = omega (arith, is) in
      ap (λ (l : List ℕ). drop 1 l) (lent_tail_is (first - 1) xs)
      ∙ drop-drop 1 (first - 1) xs
      ∙ ap (λ (j : ℕ). drop j xs) next

  pub positions_lent : lent_tail first xs ≡ positions
  positions_lent = lent_tail_is first xs ∙ ap (λ (j : ℕ). drop j xs) is

  -- DISTANCES, with the first of each list put in after, are the gaps
  pub distances_ready :
      (part : List ℕ) → part ≡ gaps_after (get_or run 0 0) (drop 1 run) → (b : ℕ) × (part ≡ by_pairs (pair_as false) b positions)
  distances_ready part e =
      (get_or run 0 0, e ∙ ap (gaps_after (get_or run 0 0)) run_positions ∙ gaps_pairs (get_or run 0 0) positions)

  pub gaps_written :
      lists_from (first_apart (first_as false) (pair_as false)) (keys_of xs) 0 xs positions ≡ lists_from gaps (keys_of xs) 0 xs positions
  gaps_written = lists_alike (first_apart (first_as false) (pair_as false)) gaps gaps_apart (keys_of xs) 0 xs positions

  -- MASKS, and the sums that they let through, are the positions
  pub masks_ready :
      (old part : List ℕ) → length old ≡ length positions → part ≡ replicate (length old) carry →
      (b : ℕ) × (part ≡ by_pairs (pair_as true) b positions)
  masks_ready old part even e = (0, e ∙ ap (λ (n : ℕ). replicate n carry) even ∙ carry_pairs 0 positions)

  module _ (totals : (l : Line) → In l (lines_in xs) → total l.positions ≤ carry) (ms : List ℕ)
      (masked : ms ≡ lists_from (first_apart (first_as true) (pair_as true)) (keys_of xs) 0 xs positions) where
    pub sums_written : masked_sums 0 ms (lent_tail first xs) ≡ lists_from prefix_sums (keys_of xs) 0 xs positions
    unfolding lines_in
    sums_written =
        ap (λ (l : List ℕ). masked_sums 0 l (lent_tail first xs)) masked
        ∙ ap (masked_sums 0 (lists_from masks (keys_of xs) 0 xs positions)) positions_lent
        ∙ masked_lists 0 (keys_of xs) 0 xs positions (counts_all fits) totals

    pub masks_len : length ms ≡ length (lent_tail first xs)
    masks_len =
        ap length masked
        ∙ length_lists (first_apart (first_as true) (pair_as true)) (length_apart (first_as true) (pair_as true))
        (keys_of xs) 0 xs positions
        ∙ ap length (sym positions_lent)

-- THE WHOLE: the directory copied, and the lists written after it

pub front_len : {xs : List ℕ} → Fits xs → {first : ℕ} → first ≡ header + 3 * keys_of xs → first ≡ length (take first xs)
front_len {xs} fits {first} is = sym (length-take-le first xs (omega (arith, is)))

-- the numbers before `first` are copied to the front of a slice as long as the whole
pub record Copied (xs : List ℕ) (first : ℕ) (old now : List ℕ) : Type 0 where
  pub fits : Fits xs
  pub is : first ≡ header + 3 * keys_of xs
  pub even : length old ≡ length xs
  pub copied : now ≡ placed (take first xs) 0 old

module _ {xs : List ℕ} {first : ℕ} {old now : List ℕ} (h : Copied xs first old now) where
  front_taken : first ≡ length (take first xs)
  front_taken = front_len h.fits h.is

  copied_len : length now ≡ length old
  copied_len = ap length h.copied ∙ length_placed (take first xs) 0 old (omega (arith, front_taken, h.even, h.is))

  pub part_len : length (lent_tail first now) ≡ length (drop (header + 3 * keys_of xs) xs)
  part_len =
      ap length (lent_tail_is first now)
      ∙ omega (arith, length-drop first now, length-drop (header + 3 * keys_of xs) xs, copied_len, h.even, h.is)

  module _ (f : List ℕ → List ℕ) (keeps : KeepsLength f) where
    front_way : Writing (with_lists f xs) 0 old (lists_from f (keys_of xs) 0 xs (drop (header + 3 * keys_of xs) xs)) first now
    unfolding with_lists
    front_way =
        writing_step (take first xs) (lists_from f (keys_of xs) 0 xs (drop (header + 3 * keys_of xs) xs))
        (rw h.is (writing_start (with_lists f xs) 0 old (omega (arith, h.even, length_with f keeps xs))))
        (record { ends = omega (arith, front_taken); content = h.copied })

    pub form_written :
        {part : List ℕ} → part ≡ lists_from f (keys_of xs) 0 xs (drop (header + 3 * keys_of xs) xs) →
        tail_back first now part ≡ with_lists f xs
    form_written {part} e =
        let todo : List ℕ = lists_from f (keys_of xs) 0 xs (drop (header + 3 * keys_of xs) xs) in
        let part_all : length (lent_tail first now) ≤ length todo =
        omega (arith, part_len, length_lists f keeps (keys_of xs) 0 xs (drop (header + 3 * keys_of xs) xs)) in
        let all : length old ≤ length (with_lists f xs) = omega (arith, h.even, length_with f keeps xs) in
        tail_written front_way
        (e ∙ sym (append-nil todo) ∙ ap (λ (l : List ℕ). todo ++ l) (sym (drop_of_length-le (lent_tail first now) part_all)))
        ∙ ap (λ (l : List ℕ). with_lists f xs ++ l) (drop_of_length-le old all)
        ∙ append-nil (with_lists f xs)

-- what is read and written for line i lies within the slices
pub record LineThere (xs part : List ℕ) (i at : ℕ) : Type 0 where
  pub read : header + 3 * keys_of xs + at < length xs
  pub write : at < length part
  pub next : at + count_at xs i ≤ length xs

pub line_there :
    {b : Bool} {xs part : List ℕ} {i at : ℕ} → Writable b xs →
    Firsts (first_as b) (pair_as b) xs (drop (header + 3 * keys_of xs) xs) part i at → i < keys_of xs → LineThere xs part i at
line_there {xs} {part} {i} {at} can h below =
    let write : at < length part = first_room h below (can.some i below) in
    let len = length-drop (header + 3 * keys_of xs) xs in
    record {
      read = omega (arith, write, len);
      write = write;
      next = omega (arith, list_room h below, len);
    }
