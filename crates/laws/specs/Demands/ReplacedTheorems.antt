-- The statements of `spec`'s ReplacedTheorems on the replacement, on what stays as before, and on either width, proved. Assumes nothing.
use Rattle.std.specs.Prelude.{◌≡◌, refl, Bool, true, false, ◌&&◌, not, cond, List, ◌∷◌, ◌++◌, ℕ, eqb, length}
use Rattle.std.proofs.Common.{sym, ap, ◌∙◌, arith, eqb-true}
use Rattle.basics.specs.Bools.{iff_eq, and_right}
use Rattle.spec.specs.Replaced.{replaced, holds_full_width}
use Rattle.spec.specs.Dictionary.{Lexicon, words_from, lexicon, total, too_large, lengths_good, lengths_wrong, disordered, some_full_width}
use Rattle.spec.specs.Dictionary.{unreplaced, dictionary_refusal, admitted}
use Rattle.spec.specs.Numbers.{index_of}
use Rattle.spec.specs.Reception.{is_index, received}
use Rattle.spec.specs.Search.{find}
use Rattle.spec.specs.First.{first_position}
use Rattle.spec.specs.Cut.{cut_down}
use Rattle.spec.specs.Calls.{text_too_long, string_wrong, build_refusal, string_refusal, find_refusal, BuildSays, SearchSays, CutSays}
use Rattle.spec.specs.Calls.{FirstSays}
use Rattle.spec.specs.JobAnswer.{index_lines, found_line, found_lines, answer_lines}
use Rattle.spec.specs.ReplacedTheorems.{Replacement, LoneForm, AsBefore, SameLettering, EitherWidth}
use Rattle.laws.specs.Text.WidthFolding.{form_put, below_form, above_form, char_lowered, char_stays, length_replaced, getD_replaced}
use Rattle.laws.specs.Text.WidthFolding.{replaced_none, plain_kept, replaced_chars, words_hold}
use Rattle.laws.specs.Text.Chars.{all_chars_get, replaced_is_text}
use Rattle.laws.specs.Dictionary.Lexicon.{admitted_lexicon}
use Rattle.laws.specs.Receive.FormKeys.{readable_plain}
use Rattle.laws.specs.Receive.Received.{is_index_get, received_get, received_put, index_injective}

-- THE REPLACEMENT

pub replacement : Replacement
replacement =
    record {
      lowered = λ c low high. omega (arith, char_lowered c (form_put c low high));
      below_stays = λ c below. char_stays c (below_form c below);
      above_stays = λ c above. char_stays c (above_form c above);
      each = getD_replaced;
      length_kept = length_replaced;
      idempotent = λ ts. plain_kept (replaced ts) (replaced_none ts);
      none_left = replaced_none;
      kept = plain_kept;
      kept_only = λ ts e. sym (ap holds_full_width e) ∙ replaced_none ts;
      is_a_text = λ g ts chars small. replaced_is_text g ts (all_chars_get ts chars) small;
    }

-- AS BEFORE

-- 12 is tested only if the lengths add up, and then the words hold exactly the characters lent
dictionary_before :
    (cs ls : List ℕ) → holds_full_width cs ≡ false →
    dictionary_refusal cs ls ≡ cond (too_large cs ls) 1 (cond (lengths_wrong cs ls) 2 (cond (disordered cs ls) 3 0))
unfolding dictionary_refusal lengths_wrong unreplaced
dictionary_before cs ls none = by_test (lengths_good ls && eqb (total ls) (length cs)) refl
  where
    by_test :
        (b : Bool) → (lengths_good ls && eqb (total ls) (length cs)) ≡ b →
        ◌≡◌ {A = ℕ} (cond (too_large cs ls) 1 (cond (not b) 2 (cond (disordered cs ls) 3 (cond (some_full_width (words_from ls cs)) 12 0))))
        (cond (too_large cs ls) 1 (cond (not b) 2 (cond (disordered cs ls) 3 0)))
    by_test false t = refl
    by_test true t =
        let sum : total ls ≡ length cs = eqb-true (total ls) (length cs) (and_right (lengths_good ls) (eqb (total ls) (length cs)) t) in
        let plain : some_full_width (words_from ls cs) ≡ false = words_hold ls cs sum ∙ none in
        rw plain

received_before :
    (g : ℕ) (cs ls xs : List ℕ) → admitted cs ls ≡ true → ((c : ℕ) → LoneForm xs c → ⊥) →
    received g (lexicon cs ls) xs ≡ is_index g (lexicon cs ls) xs
received_before g cs ls xs adm none =
    let lex = lexicon cs ls in
    iff_eq (received g lex xs) (is_index g lex xs) (λ t. (received_get g lex xs t).is_own)
    (λ t.
    received_put g lex xs
    (record { is_own = t; plain = readable_plain g (admitted_lexicon cs ls adm) xs (is_index_get g lex xs t).can_read none }))

text_printed :
    (lex : Lexicon) (ts : List ℕ) (fs : List (List ℕ)) → holds_full_width ts ≡ false →
    answer_lines lex ts fs ≡ index_lines (index_of lex ts) ++ found_lines lex (index_of lex ts) fs
text_printed lex ts fs none = rw (plain_kept ts none)

find_printed :
    (lex : Lexicon) (xs s : List ℕ) (fs : List (List ℕ)) → holds_full_width s ≡ false →
    found_lines lex xs (s ∷ fs) ≡ found_line (find lex xs s) ++ found_lines lex xs fs
unfolding found_lines
find_printed lex xs s fs none = rw (plain_kept s none)

pub as_before : AsBefore
as_before =
    record {
      dictionary = dictionary_before;
      built = λ lex ts none. ap (index_of lex) (plain_kept ts none);
      found = λ lex xs s none. ap (find lex xs) (plain_kept s none);
      first = λ lex xs s none. ap (first_position lex xs) (plain_kept s none);
      cut = λ lex xs s none. ap (cut_down lex xs) (plain_kept s none);
      received_as = received_before;
      text_printed = text_printed;
      find_printed = find_printed;
    }

-- EITHER WIDTH

pub same_lettering : SameLettering
unfolding SameLettering
same_lettering cs ls ts us adm chars also = (
  index_injective (admitted_lexicon cs ls adm) (replaced ts) (replaced us)
      (replaced_chars ts (all_chars_get ts chars)) (replaced_chars us (all_chars_get us also)),
  ap (index_of (lexicon cs ls)),
)

-- the two spellings are equally long
same_length : (s t : List ℕ) → replaced s ≡ replaced t → length s ≡ length t
same_length s t e = sym (length_replaced s) ∙ ap length e ∙ length_replaced t

pub either_width : (g : ℕ) → EitherWidth g
unfolding BuildSays build_refusal text_too_long SearchSays CutSays FirstSays find_refusal string_refusal string_wrong
either_width g =
    record {
      builds = λ cs ls ts us r o z w v e says. rw (e, same_length ts us e) at says;
      searches = λ cs ls xs s t r o z e says. rw (e, same_length s t e) at says;
      cuts = λ cs ls xs s t r o z e says. rw (e, same_length s t e) at says;
      firsts = λ cs ls xs s t r e says. rw (e, same_length s t e) at says;
    }
