-- The first demand: each operation accepts exactly what meets no row of the refusal table, with the stated result; everything else is
-- refused with the number of the first row met in the operation's list, and only the work space changes. Assumes nothing.
use Rattle.std.specs.Prelude.{◌≡◌, refl, true, false, List, [], ◌∷◌, ◌++◌, length, drop, replicate}
use Rattle.std.proofs.Common.{◌∙◌, inl, inr, ⊎_elim, arith, length-append, length-drop}
use Prim.Native.Nat.{ℕ, ◌≤◌, ◌<◌}
use Rattle.std.proofs.Math.Seq.{take-append_seam, drop-append_seam}
use Rattle.basics.specs.Bools.{true_or_false, at_most}
use Rattle.spec.specs.declared.Answer.{Answer}
use Rattle.spec.specs.declared.FirstAnswer.{FirstAnswer}
use Rattle.spec.specs.declared.TallyAnswer.{TallyAnswer}
use Rattle.spec.specs.Replaced.{replaced}
use Rattle.spec.specs.Dictionary.{lexicon}
use Rattle.spec.specs.Numbers.{index_of}
use Rattle.spec.specs.Index.{n_of, entries_of, readable}
use Rattle.spec.specs.Reception.{recovered}
use Rattle.spec.specs.Search.{find}
use Rattle.spec.specs.First.{first_position}
use Rattle.spec.specs.Cut.{cut_down}
use Rattle.spec.specs.Tally.{tally}
use Rattle.spec.specs.Gaps.{gap_form, restored}
use Rattle.spec.specs.Calls.{zeros, Answers, in_front, Puts, index_refusal, string_refusal, AdmitSays, BuildSays, ReceiveSays}
use Rattle.spec.specs.Calls.{RecoverSays, SearchSays, CutSays, FirstSays, TallySays, ToGapsSays, FromGapsSays}
use Rattle.spec.specs.RefusalTable.{TextTooLong, WorkShort, OutputShort, row, dictionary_rows, Written, Untouched, Row, Decides}
use Rattle.spec.specs.RefusalTable.{index_rows, recovery_rows, string_rows}
use Rattle.spec.specs.ProgramDemand.{Answered}
use Rattle.spec.specs.Demands.{FirstDemand}
use Rattle.spec.specs.JobAnswer.{job_answer, JobSays}
use Rattle.laws.specs.Dictionary.Answering.{accepted_yes, accepted_no}
use Rattle.laws.specs.Readable.Recover.{length_recovered}
use Rattle.laws.specs.Demands.RefusalRows.{NoneMet, First, decides, output_first, dictionary_first, build_first, index_first}
use Rattle.laws.specs.Demands.RefusalRows.{reception_first, recovery_first, string_first, find_first, gaps_first}
use Rattle.laws.specs.Demands.ProgramRows.{prints, prints_only}

-- WHAT COMES BACK

written :
    (xs : List ℕ) (r : Answer) (o z : List ℕ) → r.count ≡ length xs → z ≡ in_front xs o → length xs ≤ length o → Written xs r o z
unfolding in_front
written xs r o z count is room =
    rw is
    (record {
      count = count;
      front = rw count (take-append_seam xs (drop (length xs) o));
      rest = rw count (drop-append_seam xs (drop (length xs) o));
      len = length-append xs (drop (length xs) o) ∙ omega (arith, length-drop (length xs) o, room);
    })

module _ (n : ℕ) (xs : List ℕ) (r : Answer) (o z : List ℕ) (puts : Puts n xs r o z) where
  puts_number : r.refusal ≡ n
  unfolding Puts Answers
  puts_number = puts.0.0

  puts_written : n ≡ 0 → length xs ≤ length o → Written xs r o z
  unfolding Puts Answers
  puts_written none room =
      written xs r o z (puts.0.1 ∙ accepted_yes n (length xs) 0 none) (puts.1 ∙ accepted_yes n (in_front xs o) o none) room

  puts_untouched : (n ≡ 0 → ⊥) → Untouched r o z
  unfolding Puts Answers
  puts_untouched some =
      record { count = puts.0.1 ∙ accepted_no n (length xs) 0 some; same = puts.1 ∙ accepted_no n (in_front xs o) o some }

-- WHAT IS DECIDED

-- for a call without an output
answers_decides :
    {rows : List Row} {n : ℕ} → First rows n → (c : ℕ) (r : Answer) → Answers n c r →
    Decides rows r.refusal (r.count ≡ c) (r.count ≡ 0)
unfolding Answers
answers_decides {n} first c r says =
    decides first says.0 (λ none e. says.1 ∙ accepted_yes n c 0 e) (λ some. says.1 ∙ accepted_no n c 0 some)

-- for a call with an output
puts_decides :
    {rows : List Row} {n : ℕ} → First rows n → (xs : List ℕ) (r : Answer) (o z : List ℕ) → Puts n xs r o z →
    (NoneMet rows → length o < length xs → ⊥) → Decides rows r.refusal (Written xs r o z) (Untouched r o z)
puts_decides {n} first xs r o z puts room =
    decides first (puts_number n xs r o z puts)
    (λ none e. puts_written n xs r o z puts e (at_most (length o) (length xs) (room none))) (puts_untouched n xs r o z puts)

-- the output is long enough if 8 is the last line and none is met
output_last : (rows : List Row) (ys o : List ℕ) → NoneMet (rows ++ row 8 (OutputShort ys o) ∷ []) → length o < length ys → ⊥
output_last [] ys o none short = none 8 (inl (refl, short))
output_last (l ∷ rows) ys o none short = output_last rows ys o (λ k m. none k (inr m)) short

-- THE OPERATIONS

module _ (g : ℕ) (cs ls xs : List ℕ) where
  -- if the output is shorter than n a line is met: 8 if a text has the index, 5 or 9 if none has
  recover_room :
      (o w : List ℕ) → NoneMet (recovery_rows g cs ls xs o w) → length o < length (recovered (lexicon cs ls) xs) → ⊥
  recover_room o w none h =
      let short : length o < n_of xs = omega (arith, h, length_recovered (lexicon cs ls) xs) in
      ⊎_elim
      (λ (can : readable g (lexicon cs ls) xs ≡ true).
      none 9
      (inr (inr (inr (inr (inr (inr
      (inl (refl, (can, λ text. none 8 (inr (inr (inr (inr (inr (inr (inr (inl (refl, (short, text))))))))))))))))))))
      (λ (f : readable g (lexicon cs ls) xs ≡ false). none 5 (inr (inr (inr (inr (inl (refl, f)))))))
      (true_or_false (readable g (lexicon cs ls) xs))

  first_position_decides :
      (s : List ℕ) (r : FirstAnswer) → FirstSays g cs ls xs s r →
      Decides (string_rows g cs ls xs s) r.refusal (r.position ≡ first_position (lexicon cs ls) xs (replaced s)) (r.position ≡ 0)
  unfolding FirstSays
  first_position_decides s r says =
      let n : ℕ = string_refusal g cs ls xs s in
      decides (string_first g cs ls xs s) says.0
      (λ none e. says.1 ∙ accepted_yes n (first_position (lexicon cs ls) xs (replaced s)) 0 e)
      (λ some. says.1 ∙ accepted_no n (first_position (lexicon cs ls) xs (replaced s)) 0 some)

  tally_decides :
      (r : TallyAnswer) → TallySays g cs ls xs r →
      Decides (index_rows g cs ls xs) r.refusal ((r.count ≡ entries_of xs) × (r.by_length ≡ tally (lexicon cs ls) xs))
      ((r.count ≡ 0) × (r.by_length ≡ replicate 32 0))
  unfolding TallySays
  tally_decides r says =
      let n : ℕ = index_refusal g cs ls xs in
      decides (index_first g cs ls xs) says.0
      (λ none e. (
        says.1 ∙ accepted_yes n (entries_of xs) 0 e,
        says.2 ∙ accepted_yes n (tally (lexicon cs ls) xs) (replicate 32 0) e,
      ))
      (λ some. (
        says.1 ∙ accepted_no n (entries_of xs) 0 some,
        says.2 ∙ accepted_no n (tally (lexicon cs ls) xs) (replicate 32 0) some,
      ))

job_decides : (s : List ℕ) (r : Answer) (o z : List ℕ) → JobSays s r o z → Answered s r o z
unfolding JobSays
job_decides s r o z says =
    record {
      answer = job_answer s;
      prints = prints s;
      only = prints_only s;
      decided =
          puts_decides (output_first (job_answer s) o) (job_answer s) r o z says (output_last [] (job_answer s) o);
    }

pub first_demand : (g : ℕ) → FirstDemand g
unfolding AdmitSays BuildSays ReceiveSays RecoverSays SearchSays CutSays ToGapsSays FromGapsSays zeros
first_demand g =
    record {
      admits = λ cs ls r says. answers_decides (dictionary_first cs ls) (length ls) r says;
      builds =
          λ cs ls ts r o z w v says.
          let index = index_of (lexicon cs ls) (replaced ts) in
          let before = dictionary_rows cs ls ++ row 4 (TextTooLong g ts) ∷ row 7 (WorkShort (length ts) w) ∷ [] in
          (puts_decides (build_first cs ls g ts o w) index r o z says.0 (output_last before index o), says.1);
      receives =
          λ cs ls xs r w v chars says. (answers_decides (reception_first g cs ls xs chars w) (n_of xs) r says.0, says.1);
      recovers =
          λ cs ls xs r o z w v chars says. (
            puts_decides (recovery_first g cs ls xs chars o w) (recovered (lexicon cs ls) xs) r o z says.0
                (recover_room g cs ls xs o w),
            says.1,
          );
      searches =
          λ cs ls xs s r o z says.
          let found = find (lexicon cs ls) xs (replaced s) in
          puts_decides (find_first g cs ls xs s found o) found r o z says (output_last (string_rows g cs ls xs s) found o);
      cuts =
          λ cs ls xs s r o z says.
          let cut = cut_down (lexicon cs ls) xs (replaced s) in
          puts_decides (find_first g cs ls xs s cut o) cut r o z says (output_last (string_rows g cs ls xs s) cut o);
      firsts = first_position_decides g;
      tallies = tally_decides g;
      rearranges =
          λ cs ls xs r o z says.
          let form = gap_form xs in
          puts_decides (gaps_first g cs ls xs form o) form r o z says (output_last (index_rows g cs ls xs) form o);
      restores =
          λ cs ls ds r o z says.
          let index = restored ds in
          puts_decides (gaps_first g cs ls index index o) index r o z says (output_last (index_rows g cs ls index) index o);
      prints = job_decides;
    }
