-- What a call has once its index is opened and its string tested: an admitted dictionary with its table of word starts, of which the part
-- that is lent on has the starts, and no more; an index that is readable with it; and the refusal of the call. Assumes nothing.
use Rattle.std.specs.Prelude.{◌≡◌, refl, true, cond, List, ℕ, ◌+◌, length, take}
use Rattle.std.proofs.Common.{ap, arith, sym, ◌∙◌}
use Rattle.basics.specs.Writing.{over}
use Rattle.spec.specs.Dictionary.{lexicon}
use Rattle.spec.specs.Index.{readable}
use Rattle.spec.specs.declared.Refusal.{Refusal}
use Rattle.spec.specs.Calls.{string_wrong, index_refusal, string_refusal}
use Rattle.spec.specs.Refusals.{refusal_number}
use Rattle.models.specs.WordStarts.{starts_from, lexicon_at}
use Rattle.laws.specs.Dictionary.Lexicon.{IsAdmitted, admitted_put}
use Rattle.laws.specs.Dictionary.Answering.{or_else_none}
use Rattle.laws.specs.Dictionary.Refused.{refused_some}
use Rattle.laws.specs.Dictionary.WordStarts.{filled_lengths, filled_words}
use Rattle.laws.specs.Match.MatchTable.{Started}
use Rattle.laws.specs.Search.Sizing.{IsString, string_kept, string_number, string_passes}

module _ (cs ls old : List ℕ) {table : List ℕ} (filled : table ≡ over (starts_from 0 ls) old) where
  -- the words that it gives are those of the dictionary
  pub front_lexicon : lexicon_at cs (take (length ls + 1) table) ≡ lexicon cs ls
  front_lexicon = ap (lexicon cs) (filled_lengths ls old filled)

  pub front_started : IsAdmitted cs ls → Started cs (take (length ls + 1) table)
  front_started a =
      record {
        dictionary = rw (filled_lengths ls old filled) (admitted_put cs ls a);
        words = filled_words ls old filled (omega (arith, a.sum));
      }

  pub front_readable :
      (g : ℕ) (xs : List ℕ) → readable g (lexicon cs ls) xs ≡ true → readable g (lexicon_at cs (take (length ls + 1) table)) xs ≡ true
  front_readable g xs can = rw front_lexicon can

-- the refusal of a call that opens an index and tests a string
module _ (g : ℕ) (cs ls xs s : List ℕ) where
  pub index_refused : (e : Refusal) → refusal_number e ≡ index_refusal g cs ls xs → refusal_number e ≡ string_refusal g cs ls xs s
  index_refused e is = string_number g cs ls xs s is (string_kept (refusal_number e) s (refused_some e))

  -- that of the string, where the index is accepted
  pub string_tested :
      {n : ℕ} → 0 ≡ index_refusal g cs ls xs → n ≡ cond (string_wrong s) 6 0 → n ≡ string_refusal g cs ls xs s
  string_tested none is = string_number g cs ls xs s none (is ∙ sym (or_else_none 0 (cond (string_wrong s) 6 0) refl))

  -- where neither is refused, the string may be searched for
  pub string_is : 0 ≡ index_refusal g cs ls xs → ◌≡◌ {A = ℕ} 0 (cond (string_wrong s) 6 0) → IsString s
  string_is none is = (string_passes g cs ls xs s (sym (string_tested none is))).1
