-- No sheet has an answer of more than 700,000 bytes, so an output of that length is never too short. Assumes nothing.
use Rattle.std.specs.Prelude.{◌≡◌, refl, true, false, List, [], ◌∷◌, ℕ, zero, suc, ◌≤◌, eqb, length}
use Rattle.std.proofs.Common.{⊎_elim, arith, eqb-true}
use Rattle.std.proofs.lemmas.Bool.{eqb-false}
use Rattle.basics.specs.Bools.{true_or_false}
use Rattle.spec.specs.declared.Answer.{Answer}
use Rattle.spec.specs.Replaced.{replaced}
use Rattle.spec.specs.Dictionary.{lexicon}
use Rattle.spec.specs.Numbers.{index_of}
use Rattle.spec.specs.JobSheet.{words_on, text_on, finds_on, run_together, lengths_of, sheet_refusal}
use Rattle.spec.specs.JobAnswer.{refused_line, lexicon_on, printed, job_answer, JobSays}
use Rattle.laws.specs.Dictionary.Answering.{accepted_yes}
use Rattle.laws.specs.Text.Facts.{Chars}
use Rattle.laws.specs.Dictionary.WordCode.{Small}
use Rattle.laws.specs.JobSheet.SheetChars.{words_on_chars, text_on_chars}
use Rattle.laws.specs.Text.WidthFolding.{length_replaced, replaced_chars}
use Rattle.laws.specs.Build.Building.{reached_lexicon, output_refusal, output_fits}
use Rattle.laws.specs.Build.Bounds.{index_chars}
use Rattle.laws.specs.JobSheet.AcceptedCalls.{InHand, puts_get, index_usable}
use Rattle.laws.specs.JobSheet.JobAnswering.{refused_answer, refused_fits, shown_short}
use Rattle.laws.specs.JobSheet.JobParts.{ContentsGood, contents_good}

chars_small : (xs : List ℕ) → Chars xs → Small xs
chars_small [] chars i = omega arith
chars_small (x ∷ xs) chars zero = omega (arith, chars 0 (omega arith))
chars_small (x ∷ xs) chars (suc i) = chars_small xs (λ j h. chars (suc j) (omega arith)) i

-- THE ANSWER

module _ (s : List ℕ) where
  accepted_short : sheet_refusal s ≡ 0 → length (job_answer s) ≤ 700000
  unfolding job_answer printed lexicon_on
  accepted_short none =
      let good : ContentsGood s = contents_good s none in
      let cs = run_together (words_on s) in
      let ls = lengths_of (words_on s) in
      let ts = text_on s in
      rw (accepted_yes (sheet_refusal s) (printed s) (refused_line (sheet_refusal s)) none)
      (shown_short (finds_on s)
      (index_usable
      (record { chars = words_on_chars s; text = text_on_chars s; admits = good.admits; short = good.text_short }))
      (chars_small (index_of (lexicon cs ls) (replaced ts))
      (index_chars (replaced ts) (reached_lexicon cs ls (words_on_chars s) good.admits)
      (replaced_chars ts (text_on_chars s))
      (omega (arith, length_replaced ts))))
      good.finds_few)

  pub answer_short : length (job_answer s) ≤ 700000
  answer_short =
      ⊎_elim
      (λ (t : eqb (sheet_refusal s) 0 ≡ true). accepted_short (eqb-true (sheet_refusal s) 0 t))
      (λ (f : eqb (sheet_refusal s) 0 ≡ false).
      let some : sheet_refusal s ≡ 0 → ⊥ = eqb-false (sheet_refusal s) 0 f in
      rw (← refused_answer s (sheet_refusal s) refl some) (omega (arith, refused_fits s (sheet_refusal s) refl some)))
      (true_or_false (eqb (sheet_refusal s) 0))

-- a call with an output that holds any answer puts it at the start
pub answered : (s : List ℕ) (r : Answer) (o z : List ℕ) → 700000 ≤ length o → JobSays s r o z → InHand (job_answer s) r.count z
unfolding JobSays output_refusal
answered s r o z room says =
    puts_get (output_refusal (length (job_answer s)) (length o)) (job_answer s) r o z
    (output_fits (length (job_answer s)) (length o) (omega (arith, answer_short s))) says
