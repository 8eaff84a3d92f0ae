-- What the program prints for a sheet: the lines of the refusal table about sheets, their order, and the outcome of a call on a sheet.
-- Assumes nothing: these are definitions.
use Rattle.std.specs.Prelude.{◌≡◌, ◌⊎◌, List, [], ◌∷◌, ◌++◌, ℕ, ◌<◌, length}
use Rattle.basics.specs.Member.{In}
use Rattle.spec.specs.Dictionary.{lexicon}
use Rattle.spec.specs.JobSheet.{run_together, lengths_of}
use Rattle.spec.specs.JobAnswer.{answer_lines, refused_line}
use Rattle.spec.specs.SheetForms.{SheetOf, WithinCounts}
use Rattle.spec.specs.RefusalTable.{Written, Untouched, StringWrong, OutputShort, Row, row, dictionary_rows, Decides}
use Rattle.spec.specs.declared.Answer.{Answer}

-- THE LINES ABOUT A SHEET

-- 10: "job sheet longer than 32,768 bytes"
abbrev pub SheetTooLong : (sheet : List ℕ) → Type 0
SheetTooLong s = 32768 < length s

-- 11: "job sheet breaks its form or counts"
abbrev pub SheetBroken : (sheet : List ℕ) → Type 0
SheetBroken s = ((ws : List (List ℕ)) × (t : List ℕ) × (fs : List (List ℕ)) × SheetOf ws t fs s × WithinCounts ws t fs) → ⊥

-- for a job sheet's words and finds: "Every find is tested"
abbrev pub parts_rows : (words finds : List (List ℕ)) → List Row
parts_rows ws fs =
    dictionary_rows (run_together ws) (lengths_of ws) ++ (row 6 ((f : List ℕ) × In f fs × StringWrong f) ∷ [])

-- THE PROGRAM: "The program tests 10, then 11, then the rest." "A refused sheet prints only `(refused N)`."

-- 10 is met, whatever else is met
pub record RefusedLong (sheet answer : List ℕ) : Type 0 where
  pub met : SheetTooLong sheet
  pub printed : answer ≡ refused_line 10

-- 11 is met and 10 is not
pub record RefusedBroken (sheet answer : List ℕ) : Type 0 where
  pub short : SheetTooLong sheet → ⊥
  pub met : SheetBroken sheet
  pub printed : answer ≡ refused_line 11

-- Neither is met: the sheet has parts, and the lines about these fix the number. Line 1 is among them, though no sheet of this length
-- and these counts meets it.
pub record TestedParts (sheet answer : List ℕ) : Type 0 where
  pub short : SheetTooLong sheet → ⊥
  pub words : List (List ℕ)
  pub text : List ℕ
  pub finds : List (List ℕ)
  pub parts : SheetOf words text finds sheet
  pub counts : WithinCounts words text finds
  pub number : ℕ
  pub printed :
      Decides (parts_rows words finds) number (answer ≡ answer_lines (lexicon (run_together words) (lengths_of words)) text finds)
      (answer ≡ refused_line number)

abbrev pub Prints : (sheet answer : List ℕ) → Type 0
Prints s answer = RefusedLong s answer ⊎ (RefusedBroken s answer ⊎ TestedParts s answer)

-- The outcome of a call on a sheet: the sheet has one answer, which is written or meets 8. The line of a refused sheet is an answer.
pub record Answered (sheet : List ℕ) (r : Answer) (out out_now : List ℕ) : Type 0 where
  pub answer : List ℕ
  pub prints : Prints sheet answer
  pub only : (other : List ℕ) → Prints sheet other → other ≡ answer
  pub decided : Decides (row 8 (OutputShort answer out) ∷ []) r.refusal (Written answer r out out_now) (Untouched r out out_now)
