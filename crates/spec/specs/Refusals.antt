-- The lines of the refusal table by name, and the answer that the API gives for a result. Assumes nothing: these are definitions.
use Rattle.std.specs.Prelude.{ℕ, replicate, Option, Result, Ok, Err, unwrap_or}
use Rattle.spec.specs.declared.Answer.{Answer}
use Rattle.spec.specs.declared.FirstAnswer.{FirstAnswer}
use Rattle.spec.specs.declared.Tally.{Tally}
use Rattle.spec.specs.declared.TallyAnswer.{TallyAnswer}
use Rattle.spec.specs.declared.Refusal.{Refusal}
use Rattle.spec.specs.declared.Refusal.TheVariants.{
  DictionaryTooLarge,
  LengthsWrong,
  WordsDisordered,
  TextTooLong,
  Unreadable,
  StringWrong,
  WorkShort,
  OutputShort,
  NoText,
  SheetTooLong,
  SheetWrong,
  FullWidthForm,
}

-- document 01's number of each line
abbrev pub refusal_number : Refusal → ℕ
refusal_number DictionaryTooLarge = 1
refusal_number LengthsWrong = 2
refusal_number WordsDisordered = 3
refusal_number TextTooLong = 4
refusal_number Unreadable = 5
refusal_number StringWrong = 6
refusal_number WorkShort = 7
refusal_number OutputShort = 8
refusal_number NoText = 9
refusal_number SheetTooLong = 10
refusal_number SheetWrong = 11
refusal_number FullWidthForm = 12

-- the number of the line that a result names, 0 where it is accepted
abbrev pub number_of : {A : Type 0} → Result A Refusal → ℕ
number_of (Ok x) = 0
number_of (Err e) = refusal_number e

-- the answer of the API: the number of the line that is met and 0, or 0 and the count
abbrev pub answer_of : Result ℕ Refusal → Answer
answer_of (Ok n) = record { refusal = 0; count = n }
answer_of (Err e) = record { refusal = refusal_number e; count = 0 }

-- that of a tally: on a refusal 32 zeros
abbrev pub tally_answer_of : Result Tally Refusal → TallyAnswer
tally_answer_of (Ok t) = record { refusal = 0; count = t.count; by_length = t.by_length }
tally_answer_of (Err e) = record { refusal = refusal_number e; count = 0; by_length = replicate 32 0 }

-- that of the first position: 0 where there is none
abbrev pub first_answer_of : Result (Option ℕ) Refusal → FirstAnswer
first_answer_of (Ok found) = record { refusal = 0; position = unwrap_or found 0 }
first_answer_of (Err e) = record { refusal = refusal_number e; position = 0 }
