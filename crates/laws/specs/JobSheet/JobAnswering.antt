-- The answer to a job: the line of a refused one, or the lines of its index and finds, and room for them. Assumes nothing.
use Rattle.std.specs.Prelude.{◌≡◌, Bool, true, false, cond, List, ◌++◌, ℕ, ◌+◌, ◌≤◌, length}
use Rattle.std.proofs.Math.Path.{sym, ap}
use Rattle.std.proofs.Common.{◌∙◌, arith, length-append, length-take}
use Rattle.basics.specs.Placed.{Wrote, wrote_taken, Writing, writing_start, writing_room, writing_step}
use Rattle.basics.specs.Writing.{placed_over}
use Rattle.spec.specs.Replaced.{replaced}
use Rattle.spec.specs.Dictionary.{lexicon, words_from, total, too_large, lengths_wrong, disordered, unreplaced, dictionary_refusal}
use Rattle.spec.specs.Numbers.{index_of}
use Rattle.spec.specs.declared.Answer.{Answer}
use Rattle.spec.specs.Calls.{or_else, in_front}
use Rattle.spec.specs.JobSheet.{words_on, finds_on, run_together, lengths_of, sheet_too_long, sheet_wrong, some_string_wrong}
use Rattle.spec.specs.JobSheet.{contents_refusal, sheet_refusal}
use Rattle.spec.specs.JobAnswer.{refused_line, index_lines, found_lines, printed, job_answer, JobSays}
use Rattle.models.specs.JobSheet.{some_length_wrong, shown, printed_of}
use Rattle.laws.specs.Dictionary.Answering.{accepted_no}
use Rattle.laws.specs.Dictionary.WordCode.{Small}
use Rattle.laws.specs.Dictionary.Lexicon.{length_words}
use Rattle.laws.specs.JobSheet.PrintedBounds.{refused_line_short, index_lines_short, found_lines_short}
use Rattle.laws.specs.JobSheet.AcceptedCalls.{InHand, Usable, usable_fits}
use Rattle.laws.specs.Search.Sizing.{Sized, sized_written}

-- A REFUSED SHEET

refusal_small : (s : List ℕ) → sheet_refusal s ≤ 12
unfolding sheet_refusal contents_refusal dictionary_refusal or_else
refusal_small s =
    go (sheet_too_long s) (sheet_wrong s) (too_large cs ls) (lengths_wrong cs ls) (disordered cs ls) (unreplaced cs ls)
    (some_string_wrong (finds_on s))
  where
    cs : List ℕ
    cs = run_together (words_on s)

    ls : List ℕ
    ls = lengths_of (words_on s)

    go :
        (len wrong one two three twelve six : Bool) →
        cond len 10 (cond wrong 11 (or_else (cond one 1 (cond two 2 (cond three 3 (cond twelve 12 0)))) (cond six 6 0))) ≤ 12
    go true wrong one two three twelve six = omega arith
    go false true one two three twelve six = omega arith
    go false false true two three twelve six = omega arith
    go false false false true three twelve six = omega arith
    go false false false false true twelve six = omega arith
    go false false false false false true six = omega arith
    go false false false false false false true = omega arith
    go false false false false false false false = omega arith

module _ (s : List ℕ) (r : ℕ) (is : r ≡ sheet_refusal s) (some : r ≡ 0 → ⊥) where
  pub refused_answer : refused_line r ≡ job_answer s
  unfolding job_answer
  refused_answer =
      ap refused_line is
      ∙ sym (accepted_no (sheet_refusal s) (printed s) (refused_line (sheet_refusal s)) (λ (none : sheet_refusal s ≡ 0). some (is ∙ none)))

  pub refused_fits : length (refused_line r) ≤ 16
  refused_fits = refused_line_short r (omega (arith, refusal_small s))

-- THE PARTS OF A JOB

-- strings, run together, each of which may be searched for
pub record StringsGood (fs ns : List ℕ) : Type 0 where
  pub few : length ns ≤ 50
  pub tested : some_length_wrong ns ≡ false
  pub fits : total ns ≤ length fs

-- an index and strings whose lines are printed, with slices that hold the positions of any string, and any answer
pub record Prints (cs ls xs fs ns found out : List ℕ) : Type 0 where
  pub usable : Usable cs ls xs
  pub strings : StringsGood fs ns
  pub positions : 2000 ≤ length found
  pub answer : 700000 ≤ length out

pub shown_short :
    {cs ls xs : List ℕ} (ss : List (List ℕ)) → Usable cs ls xs → Small xs → length ss ≤ 50 →
    length (index_lines xs ++ found_lines (lexicon cs ls) xs ss) ≤ 700000
shown_short {cs} {ls} {xs} ss u small few =
    omega (
      arith,
      length-append (index_lines xs) (found_lines (lexicon cs ls) xs ss),
      index_lines_short xs (usable_fits u) small (omega arith),
      found_lines_short (lexicon cs ls) xs u.short ss,
    )

module _ {cs ls xs fs ns found out : List ℕ} (h : Prints cs ls xs fs ns found out) (small : Small xs) where
  finds_lines : List ℕ
  finds_lines = found_lines (lexicon cs ls) xs (words_from ns fs)

  first : Writing (shown cs ls xs fs ns) 0 out (index_lines xs ++ finds_lines) 0 out
  unfolding shown finds_lines
  first =
      writing_start (shown cs ls xs fs ns) 0 out
      (omega (arith, h.answer, shown_short (words_from ns fs) h.usable small (omega (arith, h.strings.few, length_words ns fs))))

  pub index_lines_fit : 0 + length (index_lines xs) ≤ length out
  index_lines_fit = writing_room (index_lines xs) finds_lines first

  pub then_finds :
      {end : ℕ} {mid : List ℕ} → Wrote (index_lines xs) 0 out end mid →
      Writing (shown cs ls xs fs ns) 0 out (found_lines (lexicon cs ls) xs (words_from ns fs)) end mid
  unfolding finds_lines
  then_finds w = writing_step (index_lines xs) finds_lines first w

-- the parts of a job: dictionary, text and strings
pub record PartsGood (cs ls ts fs ns : List ℕ) : Type 0 where
  pub admits : dictionary_refusal cs ls ≡ 0
  pub short : length ts ≤ 2000
  pub strings : StringsGood fs ns

pub index_shown :
    (cs ls ts fs ns xs : List ℕ) → xs ≡ index_of (lexicon cs ls) (replaced ts) → shown cs ls xs fs ns ≡ printed_of cs ls ts fs ns
unfolding printed_of
index_shown cs ls ts fs ns xs e = rw e

-- THE OUTPUT

-- what was written to the start of a buffer is there
pub written_in_hand : {ys old : List ℕ} {end : ℕ} {now : List ℕ} → Wrote ys 0 old end now → InHand ys end now
written_in_hand {end = end} {now} w =
    record { room = omega (arith, ap length (wrote_taken w), length-take end now); is = wrote_taken w }

-- bytes at the start of an output that holds them
pub handed_over :
    {ys : List ℕ} (r : Answer) {o z : List ℕ} {end : ℕ} → length ys ≤ length o → r.refusal ≡ 0 → r.count ≡ length ys →
    Wrote ys 0 o end z → Sized ys r o z
unfolding in_front
handed_over {ys} r {o} enough number count w = sized_written enough number count (w.content ∙ placed_over ys o)

pub job_says : (s ys : List ℕ) (r : Answer) (o z : List ℕ) → ys ≡ job_answer s → Sized ys r o z → JobSays s r o z
unfolding JobSays
job_says s ys r o z e sized = rw e at sized.puts
