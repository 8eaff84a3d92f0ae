-- What the program prints, by the rows of the refusal table: 10, then 11, then the rows on the sheet's parts. Assumes nothing.
use Rattle.std.specs.Prelude.{◌≡◌, true, false, ◌&&◌}
use Rattle.std.proofs.Math.Path.{refl, ap}
use Rattle.std.proofs.Common.{sym, ◌∙◌, inl, inr, arith}
use Rattle.std.proofs.Math.Logic.{⊎_elim}
use mathlib.Core.List.{List}
use Prim.Native.Nat.{ℕ, ◌≤◌, ◌<◌}
use Rattle.std.proofs.Math.Dec.{leb}
use Rattle.std.proofs.Math.ListN.{length}
use borrow.Author.Tests.{le-leb, leb-true, not-false}
use Rattle.basics.specs.Bools.{Reflects, clash, true_or_false, at_most, not_get, and_put, and_left, and_right}
use Rattle.spec.specs.Dictionary.{lexicon}
use Rattle.spec.specs.JobSheet.{word_head, lines, words_on, text_on, finds_on, in_form, in_counts, run_together, lengths_of, sheet_too_long}
use Rattle.spec.specs.JobSheet.{sheet_wrong, contents_refusal, sheet_refusal}
use Rattle.spec.specs.JobAnswer.{answer_lines, refused_line, lexicon_on, printed, job_answer}
use Rattle.spec.specs.SheetForms.{SheetOf, WithinCounts}
use Rattle.spec.specs.RefusalTable.{TooLarge, Accepts, Refuses}
use Rattle.spec.specs.ProgramDemand.{SheetTooLong, SheetBroken, parts_rows, RefusedLong, RefusedBroken, TestedParts, Prints}
use Rattle.laws.specs.Dictionary.Answering.{accepted_yes}
use Rattle.laws.specs.Demands.Reflects.{reflects_put, reflects_not, reflects_lt}
use Rattle.laws.specs.Demands.RefusalRows.{decides, decided_number, parts_first}
use Rattle.laws.specs.JobSheet.LineReading.{size_lines, forms_size}
use Rattle.laws.specs.JobSheet.WholeSheet.{length_lengths}
use Rattle.laws.specs.JobSheet.JobReading.{sheet_long}
use Rattle.laws.specs.JobSheet.JobAnswering.{refused_answer}
use Rattle.laws.specs.JobSheet.SheetRendering.{form_tested}

-- FORM AND COUNTS

module _ (s : List ℕ) where
  counts_get : in_counts s ≡ true → WithinCounts (words_on s) (text_on s) (finds_on s)
  unfolding in_counts
  counts_get t =
      let two = and_left (leb (length (words_on s)) 200 && leb (length (text_on s)) 2000) (leb (length (finds_on s)) 50) t in
      record {
        few_words = leb-true (length (words_on s)) 200 (and_left (leb (length (words_on s)) 200) (leb (length (text_on s)) 2000) two);
        short_text = leb-true (length (text_on s)) 2000 (and_right (leb (length (words_on s)) 200) (leb (length (text_on s)) 2000) two);
        few_finds =
            leb-true (length (finds_on s)) 50
            (and_right (leb (length (words_on s)) 200 && leb (length (text_on s)) 2000) (leb (length (finds_on s)) 50) t);
      }

  counts_put : WithinCounts (words_on s) (text_on s) (finds_on s) → in_counts s ≡ true
  unfolding in_counts
  counts_put c =
      and_put (and_put (le-leb (length (words_on s)) 200 c.few_words) (le-leb (length (text_on s)) 2000 c.short_text))
      (le-leb (length (finds_on s)) 50 c.few_finds)

  -- the parts of a sheet are those read on it
  module _ {ws : List (List ℕ)} {t : List ℕ} {fs : List (List ℕ)} (sheet : SheetOf ws t fs s) where
    counts_on : WithinCounts ws t fs → WithinCounts (words_on s) (text_on s) (finds_on s)
    counts_on c =
        rw (form_tested.words_read ws t fs s sheet, form_tested.text_read ws t fs s sheet, form_tested.finds_read ws t fs s sheet) c

    sheet_right : WithinCounts ws t fs → (in_form s && in_counts s) ≡ true
    sheet_right c = and_put (form_tested.passes s (ws, t, fs, sheet)) (counts_put (counts_on c))

  reflects_broken : Reflects (sheet_wrong s) (SheetBroken s)
  unfolding sheet_wrong
  reflects_broken =
      record {
        holds = λ t (ws, u, fs, sheet, counts). clash (sheet_right sheet counts) (not_get (in_form s && in_counts s) t);
        fails =
            λ f h.
            let both = not-false (in_form s && in_counts s) f in
            h (
              words_on s,
              text_on s,
              finds_on s,
              form_tested.rendered_again s (and_left (in_form s) (in_counts s) both),
              counts_get (and_right (in_form s) (in_counts s) both),
            );
      }

  reflects_long : Reflects (sheet_too_long s) (SheetTooLong s)
  unfolding sheet_too_long
  reflects_long = reflects_lt 32768 (length s)

  -- THE SHEET'S NUMBER

  number_broken : sheet_too_long s ≡ false → sheet_wrong s ≡ true → sheet_refusal s ≡ 11
  unfolding sheet_refusal
  number_broken f t = rw (f, t)

  number_parts : sheet_too_long s ≡ false → sheet_wrong s ≡ false → sheet_refusal s ≡ contents_refusal (words_on s) (finds_on s)
  unfolding sheet_refusal
  number_parts f g = rw (f, g)

  answer_refused : (n : ℕ) → sheet_refusal s ≡ n → (n ≡ 0 → ⊥) → job_answer s ≡ refused_line n
  answer_refused n e some = sym (refused_answer s n (sym e) some)

  answer_accepted : (n : ℕ) → sheet_refusal s ≡ n → n ≡ 0 → job_answer s ≡ printed s
  unfolding job_answer
  answer_accepted n e none = rw e (accepted_yes n (printed s) (refused_line n) none)

  -- WHAT IS PRINTED

  long_prints : sheet_too_long s ≡ true → RefusedLong s (job_answer s)
  long_prints t =
      record {
        met = reflects_long.holds t;
        printed = answer_refused 10 (sheet_long s (reflects_long.holds t))
            (λ (e : 10 ≡ 0). omega arith);
      }

  broken_prints : sheet_too_long s ≡ false → sheet_wrong s ≡ true → RefusedBroken s (job_answer s)
  broken_prints f t =
      record {
        short = reflects_long.fails f;
        met = reflects_broken.holds t;
        printed = answer_refused 11 (number_broken f t) (λ (e : 11 ≡ 0). omega arith);
      }

  parts_print : sheet_too_long s ≡ false → sheet_wrong s ≡ false → TestedParts s (job_answer s)
  unfolding sheet_wrong printed lexicon_on
  parts_print f g =
      let both = not-false (in_form s && in_counts s) g in
      let n : ℕ = contents_refusal (words_on s) (finds_on s) in
      record {
        short = reflects_long.fails f;
        words = words_on s;
        text = text_on s;
        finds = finds_on s;
        parts = form_tested.rendered_again s (and_left (in_form s) (in_counts s) both);
        counts = counts_get (and_right (in_form s) (in_counts s) both);
        number = n;
        printed =
            decides (parts_first (words_on s) (finds_on s)) refl
            (λ none e. answer_accepted n (number_parts f g) e) (answer_refused n (number_parts f g));
      }

  pub prints : Prints s (job_answer s)
  prints =
      ⊎_elim (λ (t : sheet_too_long s ≡ true). inl (long_prints t))
      (λ (f : sheet_too_long s ≡ false).
      ⊎_elim (λ (t : sheet_wrong s ≡ true). inr (inl (broken_prints f t)))
      (λ (g : sheet_wrong s ≡ false). inr (inr (parts_print f g))) (true_or_false (sheet_wrong s)))
      (true_or_false (sheet_too_long s))

  -- the rows on the parts fix the number, and the parts are those read on the sheet
  module _ (answer : List ℕ) (h : TestedParts s answer) where
    words_are : words_on s ≡ h.words
    words_are = form_tested.words_read h.words h.text h.finds s h.parts

    text_is : text_on s ≡ h.text
    text_is = form_tested.text_read h.words h.text h.finds s h.parts

    finds_are : finds_on s ≡ h.finds
    finds_are = form_tested.finds_read h.words h.text h.finds s h.parts

    number_is : sheet_refusal s ≡ h.number
    number_is =
        number_parts (reflects_not (sheet_too_long s) (SheetTooLong s) reflects_long h.short)
        (reflects_not (sheet_wrong s) (SheetBroken s) reflects_broken
        (λ broken. broken (h.words, h.text, h.finds, h.parts, h.counts)))
        ∙ rw (words_are, finds_are)
        (decided_number (parts_first h.words h.finds) h.printed)

    lines_are : printed s ≡ answer_lines (lexicon (run_together h.words) (lengths_of h.words)) h.text h.finds
    unfolding printed lexicon_on
    lines_are = rw (words_are, text_is, finds_are)

    parts_only : answer ≡ job_answer s
    parts_only =
        ⊎_elim
        (λ (a : Accepts (parts_rows h.words h.finds) h.number
        (answer ≡ answer_lines (lexicon (run_together h.words) (lengths_of h.words)) h.text h.finds)).
        a.result ∙ sym (answer_accepted h.number number_is a.number ∙ lines_are))
        (λ (r : Refuses (parts_rows h.words h.finds) h.number (answer ≡ refused_line h.number)).
        r.result ∙ sym (answer_refused h.number number_is r.number))
        h.printed

  pub prints_only : (answer : List ℕ) → Prints s answer → answer ≡ job_answer s
  prints_only answer (inl h) =
      h.printed ∙ sym (answer_refused 10 (sheet_long s h.met) (λ (e : 10 ≡ 0). omega arith))
  prints_only answer (inr (inl h)) =
      let short = reflects_not (sheet_too_long s) (SheetTooLong s) reflects_long h.short in
      let wrong = reflects_put (sheet_wrong s) (SheetBroken s) reflects_broken h.met in
      h.printed ∙ sym (answer_refused 11 (number_broken short wrong) (λ (e : 11 ≡ 0). omega arith))
  prints_only answer (inr (inr h)) = parts_only answer h

  -- no sheet of the length and the counts allowed meets line 1
  pub never_too_large :
      {ws : List (List ℕ)} {t : List ℕ} {fs : List (List ℕ)} → SheetOf ws t fs s → WithinCounts ws t fs → (SheetTooLong s → ⊥) →
      TooLarge (run_together ws) (lengths_of ws) → ⊥
  unfolding words_on
  never_too_large {ws} {t} {fs} sheet counts short =
      let words : words_on s ≡ ws = form_tested.words_read ws t fs s sheet in
      let few : length s ≤ 32768 = at_most 32768 (length s) short in
      ⊎_elim (λ (many : 4096 < length (lengths_of ws)). omega (arith, length_lengths ws))
      (λ (many : 65535 < length (run_together ws)).
      omega (arith, ap (λ (l : List (List ℕ)). length (run_together l)) words, forms_size word_head (lines s), size_lines s, few))
