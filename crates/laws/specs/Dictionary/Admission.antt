-- The model of admission: the passes over lengths and over neighbouring words, and the refusal. Assumes nothing.
use Rattle.std.specs.Prelude.{◌≡◌, refl, Bool, true, false, ◌&&◌, ℕ, ◌+◌, ◌*◌, ◌-◌, ◌≤◌, ◌<◌, leb, eqb, length}
use Rattle.std.proofs.Math.Path.{sym, ap}
use Rattle.std.proofs.Common.{◌∙◌, zero-add, add-one, drop_of_length-le}
use Rattle.std.proofs.Math.Bool.{and-true}
use mathlib.Core.List.{List, [], ◌∷◌}
use Rattle.std.proofs.Math.Nat.{sub-zero}
use native.Mathlib.Omega.{arith}
use Rattle.std.proofs.Math.ListN.{get_or, drop}
use Rattle.std.proofs.Math.Seq.{drop-cons, drop-drop}
use borrow.Author.Tests.{leb-true, lt-ltb, le-ltb, eqb-true}
use Rattle.basics.specs.Bools.{and_left, and_right}
use Rattle.laws.specs.Text.WidthFolding.{words_hold}
use Rattle.laws.specs.Dictionary.WordCode.{part}
use Rattle.spec.specs.Replaced.{holds_full_width}
use Rattle.spec.specs.Dictionary.{words_from, total, too_large, length_good, lengths_good, lengths_wrong, word_before, ascend, disordered}
use Rattle.spec.specs.Dictionary.{unreplaced, dictionary_refusal}

-- THE LENGTHS

-- `sum` and `good` after the first i lengths
pub record LengthsRead (ls : List ℕ) (sum : ℕ) (good : Bool) (i : ℕ) : Type 0 where
  pub within : i ≤ length ls
  pub bounded : sum ≤ 65535 * i
  pub summed : sum + total (drop i ls) ≡ total ls
  pub tested : (good && lengths_good (drop i ls)) ≡ lengths_good ls

pub lengths_start : (ls : List ℕ) → LengthsRead ls 0 true 0
lengths_start ls = record { within = omega arith; bounded = omega arith; summed = zero-add (total ls); tested = refl }

regroup : (g a b r : Bool) → (((g && a) && b) && r) ≡ (g && ((a && b) && r))
regroup true a b r = refl
regroup false a b r = refl

module _ (ls : List ℕ) (sum : ℕ) (good : Bool) (i : ℕ) (h : LengthsRead ls sum good i) where
  pub lengths_step :
      i < length ls → get_or ls i 0 ≤ 65535 →
      LengthsRead ls (sum + get_or ls i 0) ((good && leb 1 (get_or ls i 0)) && leb (get_or ls i 0) 32) (i + 1)
  unfolding total lengths_good length_good
  lengths_step below small = record { within = omega arith; bounded = omega arith; summed = summed; tested = tested }
    where
      split : drop i ls ≡ get_or ls i 0 ∷ drop (i + 1) ls
      split = rw (add-one, drop-cons ls i 0)

      summed : (sum + get_or ls i 0) + total (drop (i + 1) ls) ≡ total ls
      summed =
          let before : sum + total (drop i ls) ≡ total ls = h.summed in
          let here : total (drop i ls) ≡ get_or ls i 0 + total (drop (i + 1) ls) = ap total split in
          omega arith

      tested : (((good && leb 1 (get_or ls i 0)) && leb (get_or ls i 0) 32) && lengths_good (drop (i + 1) ls)) ≡ lengths_good ls
      tested =
          regroup good (leb 1 (get_or ls i 0)) (leb (get_or ls i 0) 32) (lengths_good (drop (i + 1) ls))
          ∙ ap (λ (b : Bool). good && b) (sym (ap lengths_good split))
          ∙ h.tested

  pub lengths_sum : length ls ≤ i → sum ≡ total ls
  unfolding total
  lengths_sum past =
      let none : total (drop i ls) ≡ 0 = rw (drop_of_length-le ls past) in
      let all : sum + total (drop i ls) ≡ total ls = h.summed in
      omega arith

  pub lengths_tested : length ls ≤ i → good ≡ lengths_good ls
  unfolding lengths_good
  lengths_tested past =
      sym (and-true good) ∙ ap (λ (l : List ℕ). good && lengths_good l) (sym (drop_of_length-le ls past)) ∙ h.tested

-- THE NEIGHBOURS

-- what holds if line 2 is not met: lengths of 1 to 32 that add up to the characters
pub record Fitting (cs ls : List ℕ) : Type 0 where
  pub good : lengths_good ls ≡ true
  pub sum : total ls ≡ length cs

-- word i − 1 lies from `at` to `next`, and the words up to it ascend
pub record WordsRead (cs ls : List ℕ) (at next i : ℕ) : Type 0 where
  pub within : i ≤ length ls
  pub some : at < next
  pub room : next + total (drop i ls) ≡ length cs
  pub good : lengths_good (drop i ls) ≡ true
  pub tested : ascend (part cs at next ∷ words_from (drop i ls) (drop next cs)) ≡ ascend (words_from ls cs)

pub no_words : (cs ls : List ℕ) → length ls ≡ 0 → true ≡ ascend (words_from ls cs)
unfolding ascend words_from
no_words cs [] none = refl
no_words cs (l ∷ ls) none = absurd (omega arith)

pub words_start : (cs ls : List ℕ) → Fitting cs ls → 0 < length ls → WordsRead cs ls 0 (get_or ls 0 0) 1
unfolding total lengths_good length_good words_from
words_start cs [] h some = absurd (omega arith)
words_start cs (l ∷ ls) h some =
    record {
      within = omega arith;
      some = leb-true 1 l (and_left (leb 1 l) (leb l 32) (and_left (length_good l) (lengths_good ls) h.good));
      room = h.sum;
      good = and_right (length_good l) (lengths_good ls) h.good;
      tested = rw (sub-zero l);
    }

module _ {cs ls : List ℕ} {at next i : ℕ} (h : WordsRead cs ls at next i) where
  pub words_end : length ls ≤ i → true ≡ ascend (words_from ls cs)
  unfolding ascend words_from
  words_end past =
      sym (ap (λ (l : List ℕ). ascend (part cs at next ∷ words_from l (drop next cs))) (drop_of_length-le ls past)) ∙ h.tested

  module _ (below : i < length ls) where
    split : drop i ls ≡ get_or ls i 0 ∷ drop (i + 1) ls
    split = rw (add-one, drop-cons ls i 0)

    good_split : (length_good (get_or ls i 0) && lengths_good (drop (i + 1) ls)) ≡ true
    unfolding lengths_good
    good_split = sym (ap lengths_good split) ∙ h.good

    total_split : next + (get_or ls i 0 + total (drop (i + 1) ls)) ≡ length cs
    unfolding total
    total_split = ap (λ (t : ℕ). next + t) (sym (ap total split)) ∙ h.room

    -- the next word has at least one character, and its characters are there
    pub next_some : next < next + get_or ls i 0
    unfolding length_good
    next_some =
        omega (
          arith,
          leb-true 1 (get_or ls i 0)
              (and_left (leb 1 (get_or ls i 0)) (leb (get_or ls i 0) 32)
              (and_left (length_good (get_or ls i 0)) (lengths_good (drop (i + 1) ls)) good_split)),
        )

    pub next_room : next + get_or ls i 0 ≤ length cs
    next_room = omega (arith, total_split)

    words_split :
        (word_before (part cs at next) (part cs next (next + get_or ls i 0))
        && ascend (part cs next (next + get_or ls i 0) ∷ words_from (drop (i + 1) ls) (drop (next + get_or ls i 0) cs)))
        ≡ ascend (words_from ls cs)
    unfolding ascend words_from
    words_split =
        let len : (next + get_or ls i 0) - next ≡ get_or ls i 0 = omega arith in
        rw (len, ← drop-drop (get_or ls i 0) next cs)
        (ap (λ (l : List ℕ). ascend (part cs at next ∷ words_from l (drop next cs))) (sym split) ∙ h.tested)

    pub words_step :
        word_before (part cs at next) (part cs next (next + get_or ls i 0)) ≡ true → WordsRead cs ls next (next + get_or ls i 0) (i + 1)
    words_step t =
        record {
          within = omega arith;
          some = next_some;
          room = omega (arith, total_split);
          good = and_right (length_good (get_or ls i 0)) (lengths_good (drop (i + 1) ls)) good_split;
          tested = rw t at words_split;
        }

    pub words_stop : word_before (part cs at next) (part cs next (next + get_or ls i 0)) ≡ false → false ≡ ascend (words_from ls cs)
    words_stop f = rw f at words_split

-- THE REFUSAL

module _ (cs ls : List ℕ) where
  pub refuses_words : 4096 < length ls → dictionary_refusal cs ls ≡ 1
  unfolding dictionary_refusal too_large
  refuses_words many = rw (lt-ltb 4096 (length ls) many)

  pub refuses_chars : length ls ≤ 4096 → 65535 < length cs → dictionary_refusal cs ls ≡ 1
  unfolding dictionary_refusal too_large
  refuses_chars few many = rw (le-ltb 4096 (length ls) few, lt-ltb 65535 (length cs) many)

  module _ (few : length ls ≤ 4096) (short : length cs ≤ 65535) where
    pub refuses_lengths : (lengths_good ls && eqb (total ls) (length cs)) ≡ false → dictionary_refusal cs ls ≡ 2
    unfolding dictionary_refusal too_large lengths_wrong
    refuses_lengths f = rw (le-ltb 4096 (length ls) few, le-ltb 65535 (length cs) short, f)

    module _ (t : (lengths_good ls && eqb (total ls) (length cs)) ≡ true) where
      pub fitting : Fitting cs ls
      fitting =
          record {
            good = and_left (lengths_good ls) (eqb (total ls) (length cs)) t;
            sum = eqb-true (total ls) (length cs) (and_right (lengths_good ls) (eqb (total ls) (length cs)) t);
          }

      pub refuses_order : ascend (words_from ls cs) ≡ false → dictionary_refusal cs ls ≡ 3
      unfolding dictionary_refusal too_large lengths_wrong disordered
      refuses_order f = rw (le-ltb 4096 (length ls) few, le-ltb 65535 (length cs) short, t, f)

      module _ (a : ascend (words_from ls cs) ≡ true) where
        pub refuses_forms : holds_full_width cs ≡ true → dictionary_refusal cs ls ≡ 12
        unfolding dictionary_refusal too_large lengths_wrong disordered unreplaced
        refuses_forms h =
            rw (le-ltb 4096 (length ls) few, le-ltb 65535 (length cs) short, t, a, words_hold ls cs fitting.sum ∙ h)

        pub admits : holds_full_width cs ≡ false → dictionary_refusal cs ls ≡ 0
        unfolding dictionary_refusal too_large lengths_wrong disordered unreplaced
        admits none =
            rw (le-ltb 4096 (length ls) few, le-ltb 65535 (length cs) short, t, a, words_hold ls cs fitting.sum ∙ none)
