-- Calls that cannot be refused: a text's index and a string's positions are at the start of the slice lent for them. Assumes nothing.
use Rattle.std.specs.Prelude.{◌≡◌, refl, List, ◌++◌, ℕ, ◌+◌, ◌*◌, ◌≤◌, length, take, drop}
use Rattle.std.proofs.Common.{sym, ap, ◌∙◌, length-append, take_at, le-ltb}
use native.Mathlib.Omega.{arith}
use Rattle.spec.specs.declared.Answer.{Answer}
use Rattle.spec.specs.Replaced.{replaced}
use Rattle.spec.specs.Dictionary.{Lexicon, longest_text, lexicon, dictionary_refusal}
use Rattle.spec.specs.Numbers.{index_of}
use Rattle.spec.specs.Index.{header, n_of}
use Rattle.spec.specs.Search.{find}
use Rattle.spec.specs.Calls.{output_short, index_refusal, build_refusal, in_front, Answers, Puts, BuildSays}
use Rattle.laws.specs.Text.WidthFolding.{length_replaced, replaced_chars}
use Rattle.laws.specs.Text.Facts.{Chars, GoodLexicon}
use Rattle.laws.specs.Dictionary.Answering.{accepted_yes}
use Rattle.laws.specs.Numbers.Slices.{Fits}
use Rattle.laws.specs.Readable.LineWalk.{readable_fits}
use Rattle.laws.specs.Readable.IndexOf.{n_of_index, index_readable}
use Rattle.laws.specs.Readable.IndexRefusal.{accepts_index, index_accepted}
use Rattle.laws.specs.Search.Sizing.{IsString, Sized}
use Rattle.laws.specs.Build.Building.{output_fits, build_late, reached_lexicon}
use Rattle.laws.specs.Build.Bounds.{index_short}
use Rattle.laws.specs.JobSheet.PrintedBounds.{find_few}

-- the result of a call is at the start of the slice lent for it
pub record InHand (ys : List ℕ) (count : ℕ) (z : List ℕ) : Type 0 where
  pub room : count ≤ length z
  pub is : take count z ≡ ys

in_hand : (ys : List ℕ) (count : ℕ) (z rest : List ℕ) → count ≡ length ys → z ≡ ys ++ rest → InHand ys count z
in_hand ys count z rest e w =
    record {
      room = rw (w, length-append ys rest) (omega arith);
      is = ap (take count) w ∙ take_at ys rest count (sym e);
    }

pub puts_get : (n : ℕ) (ys : List ℕ) (r : Answer) (o z : List ℕ) → n ≡ 0 → Puts n ys r o z → InHand ys r.count z
unfolding Puts Answers in_front
puts_get n ys r o z none puts =
    in_hand ys r.count z (drop (length ys) o) (puts.0.1 ∙ accepted_yes n (length ys) 0 none)
    (puts.1 ∙ accepted_yes n (in_front ys o) o none)

pub sized_get : (ys : List ℕ) (r : Answer) (o z : List ℕ) → length ys ≤ length o → Sized ys r o z → InHand ys r.count z
unfolding output_short
sized_get ys r o z enough h = puts_get 0 ys r o z refl (rw (le-ltb (length o) (length ys) enough) at h.puts)

-- SEARCH

pub found_in_hand :
    (lex : Lexicon) (xs : List ℕ) {s : List ℕ} (r : Answer) (o z : List ℕ) → IsString s → n_of xs ≤ length o →
    Sized (find lex xs s) r o z →
    InHand (find lex xs s) r.count z
found_in_hand lex xs {s} r o z is room =
    sized_get (find lex xs s) r o z (omega (arith, find_few lex xs s is.some))

-- BUILDING

-- an index that search and printing take
pub record Usable (cs ls xs : List ℕ) : Type 0 where
  pub accepts : index_refusal longest_text cs ls xs ≡ 0
  pub short : n_of xs ≤ 2000
  pub few : length xs ≤ header + 4 * 2000

pub usable_fits : {cs ls xs : List ℕ} → Usable cs ls xs → Fits xs
usable_fits {cs} {ls} {xs} u =
    readable_fits longest_text (lexicon cs ls) xs (index_accepted longest_text cs ls xs u.accepts).is_readable

-- an admitted dictionary and a text as short as one of a job sheet
pub record Buildable (cs ls ts : List ℕ) : Type 0 where
  pub chars : Chars cs
  pub text : Chars ts
  pub admits : dictionary_refusal cs ls ≡ 0
  pub short : length ts ≤ 2000

module _ {cs ls ts : List ℕ} (h : Buildable cs ls ts) where
  good : GoodLexicon (lexicon cs ls)
  good = reached_lexicon cs ls h.chars h.admits

  chars_replaced : Chars (replaced ts)
  chars_replaced = replaced_chars ts h.text

  pub index_usable : Usable cs ls (index_of (lexicon cs ls) (replaced ts))
  index_usable =
      record {
        accepts =
            sym
            (accepts_index longest_text cs ls (index_of (lexicon cs ls) (replaced ts)) h.admits
            (index_readable good (replaced ts) chars_replaced longest_text (omega (arith, length_replaced ts))));
        short = omega (arith, n_of_index (lexicon cs ls) (replaced ts), length_replaced ts);
        few = omega (arith, index_short (lexicon cs ls) (replaced ts) good chars_replaced, length_replaced ts);
      }

  pub build_accepted :
      (r : Answer) (o : List ℕ) {z : List ℕ} (w v : List ℕ) → header + 4 * 2000 ≤ length o → 16000 ≤ length w →
      BuildSays longest_text cs ls ts r o z w v →
      InHand (index_of (lexicon cs ls) (replaced ts)) r.count z
  unfolding BuildSays
  build_accepted r o {z} w v room work says =
      puts_get (build_refusal longest_text cs ls ts (length o) (length w)) (index_of (lexicon cs ls) (replaced ts)) r o z
      (build_late (record { admits = h.admits; short = omega arith; room = omega arith }) (length o)
      ∙ output_fits (length (index_of (lexicon cs ls) (replaced ts))) (length o) (omega (arith, index_usable.few)))
      says.0
