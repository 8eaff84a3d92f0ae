-- Reading the forms of a sheet one after the other into two slices: all characters run together, and the lengths. Assumes nothing.
use Rattle.std.specs.Prelude.{◌≡◌, refl, true, List, ◌∷◌, ◌++◌, ℕ, ◌+◌, ◌*◌, ◌-◌, ◌≤◌, ◌<◌, length, drop, set}
use Rattle.std.proofs.Math.Path.{sym}
use Rattle.std.proofs.Common.{ap, ◌∙◌, arith}
use Rattle.basics.specs.Placed.{Wrote, Writing, writing_start, writing_as, writing_room, writing_step, writing_one, writing_end}
use Rattle.laws.specs.Dictionary.WordCode.{part, length_part}
use Rattle.spec.specs.JobSheet.{ends_well, string_in, lines, forms, after, run_together, lengths_of}
use Rattle.laws.specs.JobSheet.FormReading.{form_ends, form_len}
use Rattle.laws.specs.JobSheet.LineReading.{FormEnd}

-- the strings of the forms with head h from `at` on
abbrev pub strings_at : (h s : List ℕ) → (at : ℕ) → List (List ℕ)
strings_at h s at = forms h (lines (drop at s))

-- the slices have room for them
pub record Room (h s : List ℕ) (at used count : ℕ) (chars lengths : List ℕ) : Type 0 where
  pub within : at ≤ length s
  pub short : length s ≤ 32768
  pub chars_fit : used + length (run_together (strings_at h s at)) ≤ length chars
  pub lengths_fit : count + length (lengths_of (strings_at h s at)) ≤ length lengths

-- the forms from `start` up to `at` are read, and the next one ends at `end`
pub record FormsRead (h s : List ℕ) (start used₀ count₀ : ℕ) (chars₀ lengths₀ : List ℕ) (at used count end : ℕ)
    (chars lengths : List ℕ) : Type 0 where
  pub here : FormEnd h s at end
  pub rest : after h (lines (drop at s)) ≡ after h (lines (drop start s))
  pub chars_left : Writing (run_together (strings_at h s start)) used₀ chars₀ (run_together (strings_at h s at)) used chars
  pub lengths_left : Writing (lengths_of (strings_at h s start)) count₀ lengths₀ (lengths_of (strings_at h s at)) count lengths

-- all of them are read, and `at` is where reading continues
pub record FormsGot (h s : List ℕ) (start used₀ count₀ : ℕ) (chars₀ lengths₀ : List ℕ) (at used count : ℕ)
    (chars lengths : List ℕ) : Type 0 where
  pub within : at ≤ length s
  pub rest : lines (drop at s) ≡ after h (lines (drop start s))
  pub chars_got : Wrote (run_together (strings_at h s start)) used₀ chars₀ used chars
  pub lengths_got : Wrote (lengths_of (strings_at h s start)) count₀ lengths₀ count lengths

pub forms_start :
    {h s : List ℕ} {at used count end : ℕ} {chars lengths : List ℕ} → Room h s at used count chars lengths → FormEnd h s at end →
    FormsRead h s at used count chars lengths at used count end chars lengths
forms_start {h} {s} {at} {used} {count} {chars} {lengths} room here =
    record {
      here = here;
      rest = refl;
      chars_left = writing_start (run_together (strings_at h s at)) used chars room.chars_fit;
      lengths_left = writing_start (lengths_of (strings_at h s at)) count lengths room.lengths_fit;
    }

module _ {h s : List ℕ} {start used₀ count₀ : ℕ} {chars₀ lengths₀ : List ℕ} {at used count end : ℕ} {chars lengths : List ℕ}
    (r : FormsRead h s start used₀ count₀ chars₀ lengths₀ at used count end chars lengths) where
  pub forms_end : length s ≤ end → FormsGot h s start used₀ count₀ chars₀ lengths₀ at used count chars lengths
  unfolding run_together lengths_of
  forms_end past =
      record {
        within = omega arith;
        rest = sym (r.here.all_left past) ∙ r.rest;
        chars_got = writing_end (writing_as (ap run_together (r.here.none past)) r.chars_left);
        lengths_got = writing_end (writing_as (ap lengths_of (r.here.none past)) r.lengths_left);
      }

  module _ (below : end < length s) where
    pub line_len : length (part s at end) ≡ 6 + 5 * length (string_in (part s at end))
    line_len = form_len h (part s at end) (r.here.form below)

    pub line_good : ends_well (drop 5 (part s at end)) ≡ true
    line_good = form_ends h (part s at end) (r.here.form below)

    line_size : length (part s at end) ≡ end - at
    line_size = length_part s at end r.here.from (omega arith)

    pub string_short : length s ≤ 32768 → length (string_in (part s at end)) ≤ 65535
    string_short short = omega (arith, line_len, line_size)

    next_chars : Writing (run_together (strings_at h s start)) used₀ chars₀
        (string_in (part s at end) ++ run_together (strings_at h s (end + 1))) used chars
    unfolding run_together
    next_chars = writing_as (ap run_together (r.here.first below)) r.chars_left

    next_length : Writing (lengths_of (strings_at h s start)) count₀ lengths₀
        (length (string_in (part s at end)) ∷ lengths_of (strings_at h s (end + 1))) count lengths
    unfolding lengths_of
    next_length = writing_as (ap lengths_of (r.here.first below)) r.lengths_left

    pub string_fits : used + length (string_in (part s at end)) ≤ length chars
    string_fits = writing_room (string_in (part s at end)) (run_together (strings_at h s (end + 1))) next_chars

    pub length_fits : count < length lengths
    length_fits = omega (arith, next_length.room)

    pub forms_step :
        {next : ℕ} {chars' : List ℕ} → Wrote (string_in (part s at end)) used chars next chars' → {end' : ℕ} → FormEnd h s (end + 1) end' →
        FormsRead h s start used₀ count₀ chars₀ lengths₀ (end + 1) next (count + 1) end' chars' (set lengths count (next - used))
    forms_step {next} w here' =
        let len : next - used ≡ length (string_in (part s at end)) = omega arith in
        record {
          here = here';
          rest = sym (r.here.others below) ∙ r.rest;
          chars_left = writing_step (string_in (part s at end)) (run_together (strings_at h s (end + 1))) next_chars w;
          lengths_left = rw len (writing_one (length (string_in (part s at end))) (lengths_of (strings_at h s (end + 1))) next_length);
        }
