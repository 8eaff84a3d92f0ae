-- What a refused call answers: no line of the refusal table has the number 0, so a refusal is told from an accepted call by its number.
-- Assumes nothing.
use Rattle.std.specs.Prelude.{◌≡◌, refl, ℕ, List, Ok, Err}
use Rattle.std.proofs.Common.{sym, ◌∙◌, arith}
use Rattle.spec.specs.declared.Refusal.{Refusal}
use Rattle.spec.specs.declared.Refusal.TheVariants.{
  DictionaryTooLarge,
  LengthsWrong,
  WordsDisordered,
  TextTooLong,
  Unreadable,
  StringWrong,
  WorkShort,
  OutputShort,
  NoText,
  SheetTooLong,
  SheetWrong,
  FullWidthForm,
}
use Rattle.spec.specs.Calls.{in_front, Answers, Puts}
use Rattle.spec.specs.Refusals.{refusal_number, answer_of}
use Rattle.laws.specs.Dictionary.Answering.{accepted_no, answers_accepted, answers_refused}

pub refused_some : (e : Refusal) → refusal_number e ≡ 0 → ⊥
refused_some DictionaryTooLarge p = omega arith
refused_some LengthsWrong p = omega arith
refused_some WordsDisordered p = omega arith
refused_some TextTooLong p = omega arith
refused_some Unreadable p = omega arith
refused_some StringWrong p = omega arith
refused_some WorkShort p = omega arith
refused_some OutputShort p = omega arith
refused_some NoText p = omega arith
refused_some SheetTooLong p = omega arith
refused_some SheetWrong p = omega arith
refused_some FullWidthForm p = omega arith

-- the same of the number that a contract gives
pub refused_number : {n : ℕ} (e : Refusal) → refusal_number e ≡ n → n ≡ 0 → ⊥
refused_number e is none = refused_some e (is ∙ none)

-- a refused call, whatever it would count
pub answers_error : {n : ℕ} (c : ℕ) (e : Refusal) → refusal_number e ≡ n → Answers n c (answer_of (Err e))
answers_error {n} c e is = answers_refused n c (answer_of (Err e)) is (refused_number e is) refl

-- an accepted call
pub answers_count : {n : ℕ} (c : ℕ) → 0 ≡ n → Answers n c (answer_of (Ok c))
answers_count {n} c none = answers_accepted n c (answer_of (Ok c)) none (sym none) refl

-- a refused call that would write a result: the output is unchanged
pub puts_error : {n : ℕ} (ys : List ℕ) (e : Refusal) (o : List ℕ) → refusal_number e ≡ n → Puts n ys (answer_of (Err e)) o o
unfolding Puts
puts_error {n} ys e o is =
    (answers_error _ e is, sym (accepted_no n (in_front ys o) o (refused_number e is)))
