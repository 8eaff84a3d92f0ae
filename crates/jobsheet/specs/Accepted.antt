-- A call that meets no line of the refusal table is accepted, and its result is at the start of the slice lent for it. Assumes nothing.
use Rattle.std.specs.Prelude.{◌≡◌, refl, List, ℕ, ◌+◌, ◌*◌, ◌≤◌, length, Result, Ok, Err, IsOk}
use Rattle.std.proofs.Common.{◌∙◌, arith, le-ltb}
use Rattle.spec.specs.declared.Refusal.{Refusal}
use Rattle.spec.specs.Replaced.{replaced}
use Rattle.spec.specs.Dictionary.{longest_text, lexicon}
use Rattle.spec.specs.Numbers.{index_of}
use Rattle.spec.specs.Index.{header}
use Rattle.spec.specs.Calls.{output_short, build_refusal, Answers, Puts, BuildSays}
use Rattle.spec.specs.Refusals.{answer_of}
use Rattle.spec.specs.JobAnswer.{job_answer, JobSays}
use Rattle.laws.specs.Dictionary.Refused.{refused_number}
use Rattle.laws.specs.Search.Sizing.{Sized}
use Rattle.laws.specs.Build.Building.{output_refusal, output_fits, build_late}
use Rattle.laws.specs.JobSheet.AnswerLength.{answer_short}
use Rattle.laws.specs.JobSheet.AcceptedCalls.{InHand, puts_get, Buildable, index_usable}

pub puts_ok : (r : Result ℕ Refusal) {n : ℕ} (ys o z : List ℕ) → n ≡ 0 → Puts n ys (answer_of r) o z → IsOk r
unfolding Puts Answers
puts_ok (Ok count) ys o z none puts = refl
puts_ok (Err e) ys o z none puts = absurd (refused_number e puts.0.0 none)

pub puts_taken :
    {r : Result ℕ Refusal} {count n : ℕ} (ys o z : List ℕ) → n ≡ 0 → r ≡ Ok count → Puts n ys (answer_of r) o z → InHand ys count z
puts_taken {count = count} {n} ys o z none is puts = puts_get n ys (answer_of (Ok count)) o z none (rw is at puts)

-- the same of a result that the output holds
module _ (ys o z : List ℕ) (enough : length ys ≤ length o) where
  sized_puts : (r : Result ℕ Refusal) → Sized ys (answer_of r) o z → Puts 0 ys (answer_of r) o z
  unfolding output_short
  sized_puts r h = rw (le-ltb (length o) (length ys) enough) at h.puts

  pub sized_ok : (r : Result ℕ Refusal) → Sized ys (answer_of r) o z → IsOk r
  sized_ok r h = puts_ok r ys o z refl (sized_puts r h)

  pub sized_taken : {r : Result ℕ Refusal} {count : ℕ} → r ≡ Ok count → Sized ys (answer_of r) o z → InHand ys count z
  sized_taken {r} is h = puts_taken ys o z refl is (sized_puts r h)

-- a build, in slices that are long enough for any job
module _ {cs ls ts : List ℕ} (h : Buildable cs ls ts) (o z w v : List ℕ) (room : header + 4 * 2000 ≤ length o) (work : 16000 ≤ length w)
  where
    accepts : build_refusal longest_text cs ls ts (length o) (length w) ≡ 0
    accepts =
        build_late (record { admits = h.admits; short = omega arith; room = omega arith }) (length o)
        ∙ output_fits (length (index_of (lexicon cs ls) (replaced ts))) (length o) (omega (arith, (index_usable h).few))

    pub build_ok : (r : Result ℕ Refusal) → BuildSays longest_text cs ls ts (answer_of r) o z w v → IsOk r
    unfolding BuildSays
    build_ok r says = puts_ok r _ o z accepts says.0

    pub build_taken :
        {r : Result ℕ Refusal} {count : ℕ} → r ≡ Ok count → BuildSays longest_text cs ls ts (answer_of r) o z w v →
        InHand (index_of (lexicon cs ls) (replaced ts)) count z
    unfolding BuildSays
    build_taken is says = puts_taken _ o z accepts is says.0

-- the answer to a sheet, in an output that holds any
module _ (s o z : List ℕ) (room : 700000 ≤ length o) where
  fits : output_refusal (length (job_answer s)) (length o) ≡ 0
  fits = output_fits (length (job_answer s)) (length o) (omega (arith, answer_short s))

  pub answer_ok : (r : Result ℕ Refusal) → JobSays s (answer_of r) o z → IsOk r
  unfolding JobSays output_refusal
  answer_ok r says = puts_ok r _ o z fits says

  pub answer_taken :
      {r : Result ℕ Refusal} {count : ℕ} → r ≡ Ok count → JobSays s (answer_of r) o z → InHand (job_answer s) count z
  unfolding JobSays output_refusal
  answer_taken is says = puts_taken _ o z fits is says
