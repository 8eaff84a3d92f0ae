-- The parts of a sheet that is not refused, where they are in the slices, and that what is printed for them is its answer. Assumes
-- nothing.
use Rattle.std.specs.Prelude.{◌≡◌, refl, Bool, true, false, ◌&&◌, not, cond, ℕ, ◌+◌, ◌-◌, ◌≤◌, leb, eqb, length, take, drop}
use Rattle.std.proofs.Math.Path.{sym, ap}
use Rattle.std.proofs.Common.{◌∙◌, arith, length-append, take-append-drop, take_at, drop_at, leb-true, eqb-true}
use mathlib.Core.List.{List, [], ◌∷◌, ◌++◌, append_assoc}
use Rattle.std.proofs.Math.ListN.{length-drop}
use Rattle.std.proofs.Math.Seq.{take_all}
use Rattle.std.proofs.lemmas.Bool.{eqb-false}
use Rattle.spec.specs.Dictionary.{words_from, total, dictionary_refusal}
use Rattle.spec.specs.Calls.{or_else}
use Rattle.spec.specs.JobSheet.{words_on, text_on, finds_on, in_form, in_counts, run_together, lengths_of, sheet_too_long, sheet_wrong}
use Rattle.spec.specs.JobSheet.{some_string_wrong, contents_refusal, sheet_refusal}
use Rattle.spec.specs.JobAnswer.{refused_line, lexicon_on, printed, job_answer}
use Rattle.models.specs.JobSheet.{shown, printed_of}
use Rattle.laws.specs.Dictionary.Answering.{accepted_yes}
use Rattle.laws.specs.JobSheet.WholeSheet.{length_lengths}
use Rattle.laws.specs.JobSheet.JobReading.{strings_by_length, JobParts}
use Rattle.laws.specs.JobSheet.JobAnswering.{PartsGood}

-- NOT REFUSED

pub record ContentsGood (s : List ℕ) : Type 0 where
  pub admits : dictionary_refusal (run_together (words_on s)) (lengths_of (words_on s)) ≡ 0
  pub text_short : length (text_on s) ≤ 2000
  pub finds_few : length (finds_on s) ≤ 50
  pub tested : some_string_wrong (finds_on s) ≡ false

pub contents_good : (s : List ℕ) → sheet_refusal s ≡ 0 → ContentsGood s
unfolding sheet_refusal sheet_wrong contents_refusal in_counts or_else
contents_good s none =
    go (sheet_too_long s) (in_form s) (leb (length (words_on s)) 200) (leb (length (text_on s)) 2000) refl
    (leb (length (finds_on s)) 50) refl (eqb admission 0) refl (some_string_wrong (finds_on s)) refl none
  where
    admission : ℕ
    admission = dictionary_refusal (run_together (words_on s)) (lengths_of (words_on s))

    go :
        (len form words text : Bool) → leb (length (text_on s)) 2000 ≡ text → (finds : Bool) → leb (length (finds_on s)) 50 ≡ finds →
        (b : Bool) → eqb admission 0 ≡ b → (d : Bool) → some_string_wrong (finds_on s) ≡ d →
        cond len 10 (cond (not (form && ((words && text) && finds))) 11 (cond b (cond d 6 0) admission)) ≡ 0 → ContentsGood s
    go true form words text et finds ef b p d q e = absurd (omega arith)
    go false false words text et finds ef b p d q e = absurd (omega arith)
    go false true false text et finds ef b p d q e = absurd (omega arith)
    go false true true false et finds ef b p d q e = absurd (omega arith)
    go false true true true et false ef b p d q e = absurd (omega arith)
    go false true true true et true ef true p true q e = absurd (omega arith)
    go false true true true et true ef true p false q e =
        record {
          admits = eqb-true admission 0 p;
          text_short = leb-true (length (text_on s)) 2000 et;
          finds_few = leb-true (length (finds_on s)) 50 ef;
          tested = q;
        }
    go false true true true et true ef false p d q e = absurd (eqb-false admission 0 p e)

total_lengths : (ws : List (List ℕ)) → total (lengths_of ws) ≡ length (run_together ws)
unfolding total lengths_of run_together
total_lengths [] = refl
total_lengths (w ∷ ws) = omega (arith, length-append w (run_together ws), total_lengths ws)

-- the strings, read from the start of a longer list
pub strings_in_front : (ws : List (List ℕ)) (rest : List ℕ) → words_from (lengths_of ws) (run_together ws ++ rest) ≡ ws
unfolding words_from lengths_of run_together
strings_in_front [] rest = refl
strings_in_front (w ∷ ws) rest =
    rw (
      append_assoc w (run_together ws) rest,
      take_at w (run_together ws ++ rest) (length w) refl,
      drop_at w (run_together ws ++ rest) (length w) refl,
      strings_in_front ws rest,
    )

-- THE PARTS, as they are lent

abbrev pub text_part : (dictionary text : ℕ) → (chars : List ℕ) → List ℕ
text_part d t chars = take (d + t - d) (drop d chars)

abbrev pub strings_part : (dictionary text : ℕ) → (chars : List ℕ) → List ℕ
strings_part d t chars = take (length chars - (d + t)) (drop (d + t) chars)

abbrev pub counts_part : (words finds : ℕ) → (lengths : List ℕ) → List ℕ
counts_part w f lengths = take (w + 1 + f - (w + 1)) (drop (w + 1) lengths)

-- the parts of a job are where these numbers say
pub record PartsThere (words dictionary text finds : ℕ) (chars lengths : List ℕ) : Type 0 where
  pub good :
      PartsGood (take dictionary chars) (take words lengths) (text_part dictionary text chars) (strings_part dictionary text chars)
      (counts_part words finds lengths)
  pub chars_fit : dictionary + text ≤ length chars
  pub lengths_fit : words + 1 + finds ≤ length lengths

abbrev pub printed_there : (words dictionary text finds : ℕ) → (chars lengths : List ℕ) → List ℕ
printed_there words dictionary text finds chars lengths =
    printed_of (take dictionary chars) (take words lengths) (text_part dictionary text chars) (strings_part dictionary text chars)
    (counts_part words finds lengths)

module _ {s : List ℕ} {words dictionary text finds : ℕ} {chars lengths : List ℕ} (none : sheet_refusal s ≡ 0)
    (p : JobParts s words dictionary text finds chars lengths) where
  text_there : text_part dictionary text chars ≡ text_on s
  text_there =
      let z : dictionary + text - dictionary ≡ text = omega arith in
      rw z p.text_is

  counts_there : counts_part words finds lengths ≡ lengths_of (finds_on s)
  counts_there =
      let z : words + 1 + finds - (words + 1) ≡ finds = omega arith in
      rw z p.finds_lengths

  tail : List ℕ
  tail = drop (dictionary + text) chars

  after : List ℕ
  after = drop (length (run_together (finds_on s))) tail

  strings_there : strings_part dictionary text chars ≡ run_together (finds_on s) ++ after
  unfolding tail after
  strings_there =
      take_all (length chars - (dictionary + text)) tail (omega (arith, length-drop (dictionary + text) chars))
      ∙ sym (take-append-drop (length (run_together (finds_on s))) tail)
      ∙ ap (λ (front : List ℕ). front ++ after) p.finds_are

  parts_good :
      PartsGood (take dictionary chars) (take words lengths) (text_part dictionary text chars) (strings_part dictionary text chars)
      (counts_part words finds lengths)
  parts_good =
      rw (p.words_are, p.words_lengths, text_there, strings_there, counts_there)
      (record {
        admits = (contents_good s none).admits;
        short = (contents_good s none).text_short;
        strings =
            record {
              few = omega (arith, length_lengths (finds_on s), (contents_good s none).finds_few);
              tested = sym (strings_by_length (finds_on s)) ∙ (contents_good s none).tested;
              fits = omega (arith, total_lengths (finds_on s), length-append (run_together (finds_on s)) after);
            };
      })

  pub parts_there : PartsThere words dictionary text finds chars lengths
  parts_there =
      record { good = parts_good; chars_fit = omega arith; lengths_fit = p.lengths_fit }

  pub parts_answer : printed_there words dictionary text finds chars lengths ≡ job_answer s
  unfolding printed_of shown job_answer printed lexicon_on
  parts_answer =
      rw (p.words_are, p.words_lengths, text_there, strings_there, counts_there, strings_in_front (finds_on s) after)
      (sym (accepted_yes (sheet_refusal s) (printed s) (refused_line (sheet_refusal s)) none))
