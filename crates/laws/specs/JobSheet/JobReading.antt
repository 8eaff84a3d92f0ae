-- The refusal of a sheet, and where in the slices the parts of one that is not refused are. Assumes nothing.
use Rattle.std.specs.Prelude.{◌≡◌, refl, Bool, true, false, ◌&&◌, ◌||◌, cond, List, [], ◌∷◌, ◌++◌, ℕ, ◌+◌, ◌≤◌, ◌<◌, ltb, eqb, get_or, drop}
use Rattle.std.proofs.Math.Path.{sym, ap}
use Rattle.std.proofs.Common.{◌∙◌, append_assoc, length-append, drop_of_length-le, take_at, drop_at, drop-drop}
use native.Mathlib.Omega.{arith}
use Rattle.std.proofs.Math.Dec.{leb}
use Rattle.std.proofs.Math.ListN.{length, take}
use borrow.Author.Tests.{lt-ltb, le-ltb, eq-eqb, ne_eqb, leb-true, eqb-true}
use Rattle.basics.specs.Bools.{and_left, and_right, or_left, or_right}
use Rattle.spec.specs.Dictionary.{dictionary_refusal}
use Rattle.spec.specs.Calls.{string_wrong, or_else}
use Rattle.spec.specs.JobSheet.{words_on, texts_on, text_on, finds_on, nothing_left, left_on, in_form, in_counts, run_together, lengths_of}
use Rattle.spec.specs.JobSheet.{sheet_too_long, sheet_wrong, some_string_wrong, contents_refusal, sheet_refusal}
use Rattle.basics.specs.PlacedCopies.{drop_next}
use Rattle.basics.specs.Writing.{placed_over}
use Rattle.models.specs.JobSheet.{some_length_wrong, parts_refusal}
use Rattle.laws.specs.JobSheet.WholeSheet.{SheetRead, one_text, length_lengths}

-- EVERY FIND IS TESTED, by its length

pub strings_by_length : (ss : List (List ℕ)) → some_string_wrong ss ≡ some_length_wrong (lengths_of ss)
unfolding some_string_wrong string_wrong some_length_wrong lengths_of
strings_by_length [] = refl
strings_by_length (s ∷ ss) = ap (λ (b : Bool). (eqb (length s) 0 || ltb 256 (length s)) || b) (strings_by_length ss)

module _ (ls : List ℕ) (i : ℕ) where
  pub length_none : i < length ls → get_or ls i 0 ≡ 0 → some_length_wrong (drop i ls) ≡ true
  unfolding some_length_wrong
  length_none below e = rw (drop_next ls i below, eq-eqb (get_or ls i 0) 0 e)

  pub length_many : i < length ls → 256 < get_or ls i 0 → some_length_wrong (drop i ls) ≡ true
  unfolding some_length_wrong
  length_many below many =
      rw (drop_next ls i below) (or_left _ (or_right (eqb (get_or ls i 0) 0) (lt-ltb 256 (get_or ls i 0) many)))

  pub length_right :
      i < length ls → (get_or ls i 0 ≡ 0 → ⊥) → get_or ls i 0 ≤ 256 → some_length_wrong (drop i ls) ≡ some_length_wrong (drop (i + 1) ls)
  unfolding some_length_wrong
  length_right below some few = rw (drop_next ls i below, ne_eqb (get_or ls i 0) 0 some, le-ltb 256 (get_or ls i 0) few)

  pub lengths_end : length ls ≤ i → some_length_wrong (drop i ls) ≡ false
  unfolding some_length_wrong
  lengths_end past = rw (drop_of_length-le ls past)

-- THE REFUSAL

module _ (cs ws fs : List ℕ) where
  pub dictionary_first : (dictionary_refusal cs ws ≡ 0 → ⊥) → parts_refusal cs ws fs ≡ dictionary_refusal cs ws
  unfolding parts_refusal or_else
  dictionary_first ne = rw (ne_eqb (dictionary_refusal cs ws) 0 ne)

  pub then_finds : (b : Bool) → dictionary_refusal cs ws ≡ 0 → some_length_wrong fs ≡ b → parts_refusal cs ws fs ≡ cond b 6 0
  unfolding parts_refusal or_else
  then_finds b e t = rw (e, t)

-- XS IS THREE PARTS AND A REST

module _ (a b c r xs : List ℕ) (whole : xs ≡ ((a ++ b) ++ c) ++ r) where
  grouped : xs ≡ a ++ (b ++ (c ++ r))
  grouped = whole ∙ simp append_assoc

  pub first_part : take (length a) xs ≡ a
  first_part = ap (take (length a)) grouped ∙ take_at a (b ++ (c ++ r)) (length a) refl

  after_first : drop (length a) xs ≡ b ++ (c ++ r)
  after_first = ap (drop (length a)) grouped ∙ drop_at a (b ++ (c ++ r)) (length a) refl

  pub second_part : take (length b) (drop (length a) xs) ≡ b
  second_part = ap (take (length b)) after_first ∙ take_at b (c ++ r) (length b) refl

  pub third_part : take (length c) (drop (length a + length b) xs) ≡ c
  third_part =
      ap (take (length c)) (sym (drop-drop (length b) (length a) xs) ∙ ap (drop (length b)) after_first ∙
      drop_at b (c ++ r) (length b) refl)
      ∙ take_at c r (length c) refl

  pub parts_fit : length a + length b + length c ≤ length xs
  parts_fit =
      omega (arith, ap length whole, length-append ((a ++ b) ++ c) r, length-append (a ++ b) c, length-append a b)

-- THE PARTS

-- where the parts of a sheet that is in form and counts are
pub record JobParts (s : List ℕ) (words dictionary text finds : ℕ) (chars lengths : List ℕ) : Type 0 where
  pub words_counted : words ≡ length (words_on s)
  pub text_counted : text ≡ length (text_on s)
  pub finds_counted : finds ≡ length (finds_on s)
  pub words_few : words ≤ 200
  pub text_short : text ≤ 2000
  pub finds_few : finds ≤ 50
  pub words_are : take dictionary chars ≡ run_together (words_on s)
  pub words_lengths : take words lengths ≡ lengths_of (words_on s)
  pub text_is : take text (drop dictionary chars) ≡ text_on s
  pub finds_are : take (length (run_together (finds_on s))) (drop (dictionary + text) chars) ≡ run_together (finds_on s)
  pub finds_lengths : take finds (drop (words + 1) lengths) ≡ lengths_of (finds_on s)
  pub chars_fit : dictionary + text + length (run_together (finds_on s)) ≤ length chars
  pub lengths_fit : words + 1 + finds ≤ length lengths

module _ {s chars₀ lengths₀ : List ℕ} {good : Bool} {words dictionary text finds : ℕ} {chars lengths : List ℕ}
    (r : SheetRead s chars₀ lengths₀ good words dictionary text finds chars lengths) (t : good ≡ true) where
  both : (in_form s && in_counts s) ≡ true
  both = sym r.tested ∙ t

  one : length (texts_on s) ≡ 1
  unfolding in_form
  one = eqb-true (length (texts_on s)) 1 (and_left (eqb (length (texts_on s)) 1) (nothing_left (left_on s))
      (and_left (in_form s) (in_counts s) both))

  counts : ((leb (length (words_on s)) 200 && leb (length (text_on s)) 2000) && leb (length (finds_on s)) 50) ≡ true
  unfolding in_counts
  counts = and_right (in_form s) (in_counts s) both

  text_len : text ≡ length (text_on s)
  unfolding text_on
  text_len = r.text_counted ∙ ap length (one_text (texts_on s) one)

  chars_whole : chars ≡ ((run_together (words_on s) ++ run_together (texts_on s)) ++ run_together (finds_on s)) ++
      drop (length ((run_together (words_on s) ++ run_together (texts_on s)) ++ run_together (finds_on s))) chars₀
  chars_whole = r.chars_are ∙ placed_over ((run_together (words_on s) ++ run_together (texts_on s)) ++ run_together (finds_on s)) chars₀

  lengths_whole : lengths ≡ ((lengths_of (words_on s) ++ lengths_of (texts_on s)) ++ lengths_of (finds_on s)) ++
      drop (length ((lengths_of (words_on s) ++ lengths_of (texts_on s)) ++ lengths_of (finds_on s))) lengths₀
  lengths_whole = r.lengths_are ∙ placed_over ((lengths_of (words_on s) ++ lengths_of (texts_on s)) ++ lengths_of (finds_on s)) lengths₀

  pub job_parts : JobParts s words dictionary text finds chars lengths
  unfolding text_on
  job_parts =
      record {
        words_counted = r.words_counted;
        text_counted = text_len;
        finds_counted = r.finds_counted;
        words_few = omega (
          arith,
          leb-true (length (words_on s)) 200
              (and_left (leb (length (words_on s)) 200) (leb (length (text_on s)) 2000)
              (and_left (leb (length (words_on s)) 200 && leb (length (text_on s)) 2000) (leb (length (finds_on s)) 50) counts)),
        );
        text_short = omega (
          arith,
          text_len,
          leb-true (length (text_on s)) 2000
              (and_right (leb (length (words_on s)) 200) (leb (length (text_on s)) 2000)
              (and_left (leb (length (words_on s)) 200 && leb (length (text_on s)) 2000) (leb (length (finds_on s)) 50) counts)),
        );
        finds_few = omega (
          arith,
          leb-true (length (finds_on s)) 50
              (and_right (leb (length (words_on s)) 200 && leb (length (text_on s)) 2000) (leb (length (finds_on s)) 50) counts),
        );
        words_are = rw r.dictionary_counted (first_part (run_together (words_on s)) (run_together (texts_on s))
            (run_together (finds_on s)) _ chars chars_whole);
        words_lengths = rw (r.words_counted, ← length_lengths (words_on s))
            (first_part (lengths_of (words_on s)) (lengths_of (texts_on s)) (lengths_of (finds_on s)) _ lengths lengths_whole);
        text_is =
            rw (r.text_counted, r.dictionary_counted)
            (second_part (run_together (words_on s)) (run_together (texts_on s)) (run_together (finds_on s)) _ chars chars_whole)
            ∙ one_text (texts_on s) one;
        finds_are =
            rw (r.text_counted, r.dictionary_counted)
            (third_part (run_together (words_on s)) (run_together (texts_on s)) (run_together (finds_on s)) _ chars chars_whole);
        finds_lengths = finds_lengths;
        chars_fit =
            omega (
              arith,
              parts_fit (run_together (words_on s)) (run_together (texts_on s))
                  (run_together (finds_on s)) _ chars chars_whole,
            );
        lengths_fit =
            omega (
              arith,
              one,
              length_lengths (words_on s),
              length_lengths (texts_on s),
              length_lengths (finds_on s),
              parts_fit (lengths_of (words_on s)) (lengths_of (texts_on s)) (lengths_of (finds_on s)) _ lengths lengths_whole,
            );
      }
    where
      finds_lengths : take finds (drop (words + 1) lengths) ≡ lengths_of (finds_on s)
      finds_lengths =
          let skipped : words + 1 ≡ length (lengths_of (words_on s)) + length (lengths_of (texts_on s)) =
          omega (arith, one, length_lengths (words_on s), length_lengths (texts_on s)) in
          let many : finds ≡ length (lengths_of (finds_on s)) = r.finds_counted ∙ sym (length_lengths (finds_on s)) in
          rw (skipped, many) (third_part (lengths_of (words_on s)) (lengths_of (texts_on s))
          (lengths_of (finds_on s)) _ lengths lengths_whole)

-- THE ORDER: 10, then 11, then the rest

pub sheet_long : (s : List ℕ) → 32768 < length s → sheet_refusal s ≡ 10
unfolding sheet_refusal sheet_too_long
sheet_long s len = rw (lt-ltb 32768 (length s) len)

module _ (s : List ℕ) (short : length s ≤ 32768) where
  pub sheet_broken : (in_form s && in_counts s) ≡ false → sheet_refusal s ≡ 11
  unfolding sheet_refusal sheet_too_long sheet_wrong
  sheet_broken f = rw (le-ltb 32768 (length s) short, f)

  pub sheet_whole :
      (in_form s && in_counts s) ≡ true → sheet_refusal s ≡ parts_refusal (run_together (words_on s)) (lengths_of (words_on s))
      (lengths_of (finds_on s))
  unfolding sheet_refusal sheet_too_long sheet_wrong contents_refusal parts_refusal
  sheet_whole t =
      rw (le-ltb 32768 (length s) short, t)
      (ap (λ (b : Bool). or_else (dictionary_refusal (run_together (words_on s)) (lengths_of (words_on s))) (cond b 6 0))
      (strings_by_length (finds_on s)))

-- the parts in the slices are the parts of the sheet
pub parts_tested :
    {s : List ℕ} {words dictionary text finds : ℕ} {chars lengths : List ℕ} → JobParts s words dictionary text finds chars lengths →
    parts_refusal (take dictionary chars) (take words lengths) (take finds (drop (words + 1) lengths))
    ≡ parts_refusal (run_together (words_on s)) (lengths_of (words_on s)) (lengths_of (finds_on s))
parts_tested p = rw (p.words_are, p.words_lengths, p.finds_lengths)
