-- The theorems about full-width forms: the replacement itself, what stays as before where there are none, and an index that has one as a
-- lone key. Each statement is a type; its proof is in the crate `laws`. Assumes nothing.
use Rattle.std.specs.Prelude.{◌≡◌, true, false, cond, List, [], ◌∷◌, ◌++◌, ℕ, ◌+◌, ◌*◌, ◌≤◌, ◌<◌, length, get_or}
use Rattle.basics.specs.Member.{In}
use Rattle.spec.specs.Replaced.{first_form, last_form, form_distance, is_full_width, replaced_char, replaced, holds_full_width}
use Rattle.spec.specs.Dictionary.{Lexicon, all_chars, is_text, lexicon, too_large, lengths_wrong, disordered}
use Rattle.spec.specs.Dictionary.{dictionary_refusal, admitted}
use Rattle.spec.specs.Words.{key, is_word}
use Rattle.spec.specs.Numbers.{Line, index_of}
use Rattle.spec.specs.Index.{n_of, entries_of, lines_in, key_good, readable}
use Rattle.spec.specs.Reception.{is_index, received}
use Rattle.spec.specs.Search.{agrees, find}
use Rattle.spec.specs.First.{first_position}
use Rattle.spec.specs.Cut.{bears, cut_down}
use Rattle.spec.specs.Calls.{BuildSays, ReceiveSays, RecoverSays, SearchSays, CutSays, FirstSays, TallySays}
use Rattle.spec.specs.JobAnswer.{index_lines, found_line, found_lines, answer_lines}
use Rattle.spec.specs.declared.Answer.{Answer}
use Rattle.spec.specs.declared.FirstAnswer.{FirstAnswer}
use Rattle.spec.specs.declared.TallyAnswer.{TallyAnswer}

-- THE REPLACEMENT

pub record Replacement : Type 0 where
  -- "Characters FF01 to FF5E (hexadecimal) are replaced by the character FEE0 lower"; every other one stays, FF00 and FF5F too
  pub lowered : (c : ℕ) → first_form ≤ c → c ≤ last_form → replaced_char c + form_distance ≡ c
  pub below_stays : (c : ℕ) → c < first_form → replaced_char c ≡ c
  pub above_stays : (c : ℕ) → last_form < c → replaced_char c ≡ c
  pub each : (ts : List ℕ) (i : ℕ) → get_or (replaced ts) i 0 ≡ replaced_char (get_or ts i 0)
  pub length_kept : (ts : List ℕ) → length (replaced ts) ≡ length ts
  pub idempotent : (ts : List ℕ) → replaced (replaced ts) ≡ replaced ts
  pub none_left : (ts : List ℕ) → holds_full_width (replaced ts) ≡ false
  -- a text without full-width forms is replaced by itself, and no other is
  pub kept : (ts : List ℕ) → holds_full_width ts ≡ false → replaced ts ≡ ts
  pub kept_only : (ts : List ℕ) → replaced ts ≡ ts → holds_full_width ts ≡ false
  -- a lent text that does not meet line 4 is a text once it is replaced
  pub is_a_text : (g : ℕ) (ts : List ℕ) → all_chars ts ≡ true → length ts ≤ g → is_text g (replaced ts) ≡ true

-- AS BEFORE where there are no full-width forms: a dictionary meets 1, 2, 3 or no line, the text and the string are taken as lent, and
-- reception requires only that the numbers are the index of the text recovered from them.

-- a lone key of the numbers is a full-width form
abbrev pub LoneForm : (index : List ℕ) → (c : ℕ) → Type 0
LoneForm xs c = (is_full_width c ≡ true) × ((l : Line) × In l (lines_in xs) × (l.key_of ≡ key 1 c))

pub record AsBefore : Type 0 where
  pub dictionary :
      (cs ls : List ℕ) → holds_full_width cs ≡ false →
      dictionary_refusal cs ls ≡ cond (too_large cs ls) 1 (cond (lengths_wrong cs ls) 2 (cond (disordered cs ls) 3 0))
  pub built : (lex : Lexicon) (ts : List ℕ) → holds_full_width ts ≡ false → index_of lex (replaced ts) ≡ index_of lex ts
  pub found : (lex : Lexicon) (xs s : List ℕ) → holds_full_width s ≡ false → find lex xs (replaced s) ≡ find lex xs s
  pub first :
      (lex : Lexicon) (xs s : List ℕ) → holds_full_width s ≡ false → first_position lex xs (replaced s) ≡ first_position lex xs s
  pub cut : (lex : Lexicon) (xs s : List ℕ) → holds_full_width s ≡ false → cut_down lex xs (replaced s) ≡ cut_down lex xs s
  pub received_as :
      (g : ℕ) (cs ls xs : List ℕ) → admitted cs ls ≡ true → ((c : ℕ) → LoneForm xs c → ⊥) →
      received g (lexicon cs ls) xs ≡ is_index g (lexicon cs ls) xs
  pub text_printed :
      (lex : Lexicon) (ts : List ℕ) (fs : List (List ℕ)) → holds_full_width ts ≡ false →
      answer_lines lex ts fs ≡ index_lines (index_of lex ts) ++ found_lines lex (index_of lex ts) fs
  pub find_printed :
      (lex : Lexicon) (xs s : List ℕ) (fs : List (List ℕ)) → holds_full_width s ≡ false →
      found_lines lex xs (s ∷ fs) ≡ found_line (find lex xs s) ++ found_lines lex xs fs

-- EITHER WIDTH

-- "No two texts have the same index" is about replaced texts; two lent texts have the same index exactly if they are the same when
-- replaced.
unfoldable pub SameLettering : Type 0
SameLettering =
    (cs ls ts us : List ℕ) → admitted cs ls ≡ true → all_chars ts ≡ true → all_chars us ≡ true →
    (index_of (lexicon cs ls) (replaced ts) ≡ index_of (lexicon cs ls) (replaced us) → replaced ts ≡ replaced us)
    × (replaced ts ≡ replaced us → index_of (lexicon cs ls) (replaced ts) ≡ index_of (lexicon cs ls) (replaced us))

-- "both spellings now count as the same lettering": a call answers the same for a text or a string in the other spelling
pub record EitherWidth (g : ℕ) : Type 0 where
  pub builds :
      (cs ls ts us : List ℕ) (r : Answer) (o z w v : List ℕ) → replaced ts ≡ replaced us → BuildSays g cs ls ts r o z w v →
      BuildSays g cs ls us r o z w v
  pub searches :
      (cs ls xs s t : List ℕ) (r : Answer) (o z : List ℕ) → replaced s ≡ replaced t → SearchSays g cs ls xs s r o z →
      SearchSays g cs ls xs t r o z
  pub cuts :
      (cs ls xs s t : List ℕ) (r : Answer) (o z : List ℕ) → replaced s ≡ replaced t → CutSays g cs ls xs s r o z →
      CutSays g cs ls xs t r o z
  pub firsts :
      (cs ls xs s t : List ℕ) (r : FirstAnswer) → replaced s ≡ replaced t → FirstSays g cs ls xs s r → FirstSays g cs ls xs t r

-- A FULL-WIDTH FORM AS A LONE KEY: "the numbers of an index are never replaced, so a lone FF21 agrees with no string and is never a word"

pub record FormAsKey (g : ℕ) : Type 0 where
  pub never_word :
      (cs ls : List ℕ) (c : ℕ) → admitted cs ls ≡ true → is_full_width c ≡ true → is_word (lexicon cs ls) (c ∷ []) ≡ false
  -- so such a key does not make an index unreadable
  pub is_key : (cs ls : List ℕ) (c : ℕ) → admitted cs ls ≡ true → is_full_width c ≡ true → key_good (lexicon cs ls) (key 1 c) ≡ true
  pub agrees_never : (s : List ℕ) (a c b : ℕ) → is_full_width c ≡ true → agrees (replaced s) a (c ∷ []) b ≡ false
  -- every key bears on the empty string, which it contains; line 6 refuses that string
  pub bears_never : (s : List ℕ) (c : ℕ) → 1 ≤ length s → is_full_width c ≡ true → bears (c ∷ []) (replaced s) ≡ false
  -- no cut-down index has it, and the cut-down index finds what the index itself finds
  pub cut_out :
      (lex : Lexicon) (xs s : List ℕ) (c : ℕ) → 1 ≤ length s → LoneForm (cut_down lex xs (replaced s)) c → ⊥
  pub found_without :
      (lex : Lexicon) (xs s : List ℕ) → readable g lex xs ≡ true →
      find lex xs (replaced s) ≡ find lex (cut_down lex xs (replaced s)) (replaced s)
  -- no text has such an index
  pub unreceived :
      (cs ls xs : List ℕ) (c : ℕ) → admitted cs ls ≡ true → readable g (lexicon cs ls) xs ≡ true → LoneForm xs c →
      received g (lexicon cs ls) xs ≡ false

-- The calls on such an index, readable and under an admitted dictionary: the tally counts it; reception and recovery answer 9.
pub record FormCalls (g : ℕ) : Type 0 where
  pub tallied :
      (cs ls xs : List ℕ) (r : TallyAnswer) → admitted cs ls ≡ true → readable g (lexicon cs ls) xs ≡ true →
      TallySays g cs ls xs r → (r.refusal ≡ 0) × (r.count ≡ entries_of xs)
  pub not_received :
      (cs ls xs : List ℕ) (c : ℕ) (r : Answer) (w v : List ℕ) → admitted cs ls ≡ true → readable g (lexicon cs ls) xs ≡ true →
      LoneForm xs c → 8 * n_of xs ≤ length w → ReceiveSays g cs ls xs r w v → r.refusal ≡ 9
  pub not_recovered :
      (cs ls xs : List ℕ) (c : ℕ) (r : Answer) (o z w v : List ℕ) → admitted cs ls ≡ true →
      readable g (lexicon cs ls) xs ≡ true → LoneForm xs c → 8 * n_of xs ≤ length w → RecoverSays g cs ls xs r o z w v →
      r.refusal ≡ 9
