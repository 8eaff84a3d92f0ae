-- The walk over the finds of a job sheet that prints a line for each. Assumes nothing.
use Rattle.std.specs.Prelude.{◌≡◌, false, ℕ, ◌+◌, ◌-◌, ◌≤◌, ◌<◌, length, get_or, take, drop}
use Rattle.std.proofs.Common.{sym, ◌∙◌, ⊎_elim, arith, length-drop, drop_of_length-le, length-take-le}
use Rattle.std.proofs.Math.Path.{ap}
use mathlib.Core.List.{List, ◌++◌}
use Rattle.std.proofs.Math.Seq.{drop-drop}
use Rattle.basics.specs.Bools.{clash, le_or_lt}
use Rattle.basics.specs.Placed.{Wrote, Writing, writing_start, writing_as, writing_room, writing_step, writing_end}
use Rattle.basics.specs.PlacedCopies.{drop_next}
use Rattle.spec.specs.Replaced.{replaced}
use Rattle.spec.specs.Dictionary.{Lexicon, words_from, total}
use Rattle.spec.specs.Search.{find}
use Rattle.spec.specs.JobAnswer.{found_line, found_lines}
use Rattle.models.specs.JobSheet.{some_length_wrong}
use Rattle.laws.specs.JobSheet.JobReading.{length_none, length_many, length_right}
use Rattle.laws.specs.Search.Sizing.{IsString}

-- i finds are printed; `from` is the index at which the string of find i starts
pub record FindsPrinted (lex : Lexicon) (xs fs ls : List ℕ) (start : ℕ) (old : List ℕ) (from end i : ℕ) (now : List ℕ) : Type 0 where
  pub within : i ≤ length ls
  pub tested : some_length_wrong (drop i ls) ≡ false
  pub fits : from + total (drop i ls) ≤ length fs
  pub writing : Writing (found_lines lex xs (words_from ls fs)) start old
      (found_lines lex xs (words_from (drop i ls) (drop from fs))) end now

-- the string of find i, as the part of the strings that is lent
abbrev pub string_at : (fs ls : List ℕ) → (from i : ℕ) → List ℕ
string_at fs ls from i = take (from + get_or ls i 0 - from) (drop from fs)

pub finds_start :
    {lex : Lexicon} {xs fs ls : List ℕ} {start : ℕ} {old : List ℕ} → some_length_wrong ls ≡ false → total ls ≤ length fs →
    start + length (found_lines lex xs (words_from ls fs)) ≤ length old → FindsPrinted lex xs fs ls start old 0 start 0 old
finds_start {lex} {xs} {fs} {ls} {start} {old} tested fits room =
    record {
      within = omega arith;
      tested = tested;
      fits = omega arith;
      writing = writing_start (found_lines lex xs (words_from ls fs)) start old room;
    }

module _ {lex : Lexicon} {xs fs ls : List ℕ} {start : ℕ} {old : List ℕ} {from end i : ℕ} {now : List ℕ}
    (h : FindsPrinted lex xs fs ls start old from end i now) where
  pub finds_end : length ls ≤ i → Wrote (found_lines lex xs (words_from ls fs)) start old end now
  unfolding found_lines words_from
  finds_end past =
      writing_end
      (writing_as (ap (λ (l : List ℕ). found_lines lex xs (words_from l (drop from fs))) (drop_of_length-le ls past)) h.writing)

  module _ (below : i < length ls) where
    next_total : total (drop i ls) ≡ get_or ls i 0 + total (drop (i + 1) ls)
    unfolding total
    next_total = ap total (drop_next ls i below)

    pub string_fits : from + get_or ls i 0 ≤ length fs
    string_fits = omega (arith, next_total)

    part : from + get_or ls i 0 - from ≡ get_or ls i 0
    part = omega arith

    len : length (string_at fs ls from i) ≡ get_or ls i 0
    len =
        ap (λ (n : ℕ). length (take n (drop from fs))) part
        ∙ length-take-le (get_or ls i 0) (drop from fs) (omega (arith, length-drop from fs, string_fits))

    pub string_is : IsString (string_at fs ls from i)
    string_is =
        record {
          some =
              ⊎_elim
              (λ (none : get_or ls i 0 ≤ 0). clash (length_none ls i below (omega arith)) h.tested)
              (λ (some : 0 < get_or ls i 0). omega (arith, len))
              (le_or_lt (get_or ls i 0) 0);
          short =
              ⊎_elim
              (λ (few : get_or ls i 0 ≤ 256). omega (arith, len))
              (λ (many : 256 < get_or ls i 0). clash (length_many ls i below many) h.tested)
              (le_or_lt (get_or ls i 0) 256);
        }

    next_line :
        found_lines lex xs (words_from (drop i ls) (drop from fs))
        ≡ found_line (find lex xs (replaced (string_at fs ls from i)))
        ++ found_lines lex xs (words_from (drop (i + 1) ls) (drop (from + get_or ls i 0) fs))
    unfolding found_lines words_from
    next_line =
        rw (drop_next ls i below, part, drop-drop (get_or ls i 0) from fs)

    pub find_fits : end + length (found_line (find lex xs (replaced (string_at fs ls from i)))) ≤ length now
    find_fits =
        writing_room (found_line (find lex xs (replaced (string_at fs ls from i))))
        (found_lines lex xs (words_from (drop (i + 1) ls) (drop (from + get_or ls i 0) fs)))
        (writing_as next_line h.writing)

    pub finds_step :
        {end' : ℕ} {now' : List ℕ} → Wrote (found_line (find lex xs (replaced (string_at fs ls from i)))) end now end' now' →
        FindsPrinted lex xs fs ls start old (from + get_or ls i 0) end' (i + 1) now'
    finds_step w =
        record {
          within = omega arith;
          tested =
              sym
              (length_right ls i below (λ (e : get_or ls i 0 ≡ 0). omega (arith, string_is.some, len))
              (omega (arith, string_is.short, len)))
              ∙ h.tested;
          fits = omega (arith, h.fits, next_total);
          writing =
              writing_step (found_line (find lex xs (replaced (string_at fs ls from i))))
              (found_lines lex xs (words_from (drop (i + 1) ls) (drop (from + get_or ls i 0) fs)))
              (writing_as next_line h.writing) w;
        }
