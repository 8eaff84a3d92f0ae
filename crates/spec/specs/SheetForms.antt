-- A job sheet rendered from its parts, the form of a sheet as a relation, and the statement that the test `in_form` decides it. Assumes
-- nothing.
use Rattle.std.specs.Prelude.{◌≡◌, refl, true, false, List, [], ◌∷◌, ◌++◌, ℕ, ◌≤◌, ◌<◌, length}
use Rattle.basics.specs.Member.{In}
use Rattle.spec.specs.Dictionary.{lexicon}
use Rattle.spec.specs.Words.{same}
use Rattle.spec.specs.JobSheet.{space, word_head, text_head, find_head, digit, is_digit, character, is_spaced, ends_well, characters}
use Rattle.spec.specs.JobSheet.{is_form, string_in, onto_first, lines, forms, after, nothing_left, words_on, texts_on, finds_on}
use Rattle.spec.specs.JobSheet.{left_on, text_on, in_form, run_together, lengths_of}
use Rattle.spec.specs.JobAnswer.{digit_byte, hexadecimal, ending}
use Rattle.spec.specs.Bytes.{bytes}

-- RENDERING

-- "one space before each H"
unfoldable pub spelled : (chars : List ℕ) → List ℕ
spelled [] = []
spelled (c ∷ cs) = (space ∷ hexadecimal c) ++ spelled cs

-- "one form a line, each line ended by LF"
unfoldable pub form : (head chars : List ℕ) → List ℕ
form h cs = h ++ spelled cs ++ ending

-- "zero or more"
unfoldable pub form_lines : (head : List ℕ) → (strings : List (List ℕ)) → List ℕ
form_lines h [] = []
form_lines h (s ∷ ss) = form h s ++ form_lines h ss

-- "zero or more `(word H ..)`, one `(text H ..)`, zero or more `(find H ..)`, in that order [..] nothing else"
unfoldable pub rendered : (words : List (List ℕ)) → (text : List ℕ) → (finds : List (List ℕ)) → List ℕ
rendered ws t fs = form_lines word_head ws ++ form text_head t ++ form_lines find_head fs

-- FORM AND COUNTS

-- "A character is a 16-bit number."
abbrev pub Characters : List ℕ → Type 0
Characters cs = (c : ℕ) → In c cs → c < 65536

abbrev pub AllCharacters : List (List ℕ) → Type 0
AllCharacters ss = (s : List ℕ) → In s ss → Characters s

-- the sheet is these parts, rendered
pub record SheetOf (words : List (List ℕ)) (text : List ℕ) (finds : List (List ℕ)) (sheet : List ℕ) : Type 0 where
  pub words_chars : AllCharacters words
  pub text_chars : Characters text
  pub finds_chars : AllCharacters finds
  pub bytes : sheet ≡ rendered words text finds

-- the sheet is in form
abbrev pub IsSheet : (sheet : List ℕ) → Type 0
IsSheet s = (ws : List (List ℕ)) × (t : List ℕ) × (fs : List (List ℕ)) × SheetOf ws t fs s

-- "At most 200 words, 2,000 text characters, 50 finds."
pub record WithinCounts (words : List (List ℕ)) (text : List ℕ) (finds : List (List ℕ)) : Type 0 where
  pub few_words : length words ≤ 200
  pub short_text : length text ≤ 2000
  pub few_finds : length finds ≤ 50

-- THE STATEMENT: a sheet is in form exactly if it passes the test; a sheet that passes is rendered from what is read on it; what is read
-- on a rendered sheet is what it was rendered from. The dictionary lent for a sheet has exactly its words.
pub record FormTested : Type 0 where
  pub passes : (s : List ℕ) → IsSheet s → in_form s ≡ true
  pub rendered_again : (s : List ℕ) → in_form s ≡ true → SheetOf (words_on s) (text_on s) (finds_on s) s
  pub words_read : (ws : List (List ℕ)) (t : List ℕ) (fs : List (List ℕ)) (s : List ℕ) → SheetOf ws t fs s → words_on s ≡ ws
  pub text_read : (ws : List (List ℕ)) (t : List ℕ) (fs : List (List ℕ)) (s : List ℕ) → SheetOf ws t fs s → text_on s ≡ t
  pub finds_read : (ws : List (List ℕ)) (t : List ℕ) (fs : List (List ℕ)) (s : List ℕ) → SheetOf ws t fs s → finds_on s ≡ fs
  pub words_lent : (ws : List (List ℕ)) → (lexicon (run_together ws) (lengths_of ws)).words ≡ ws

-- EXAMPLES

abbrev word_line : List ℕ
word_line = bytes "(word 0061 FFFF)\n"

abbrev text_line : List ℕ
text_line = bytes "(text)\n"

abbrev find_line : List ℕ
find_line = bytes "(find 004A)\n"

pub record FormExamples : Type 0 where
  pub three_forms : rendered ((97 ∷ 65535 ∷ []) ∷ []) [] ((74 ∷ []) ∷ []) ≡ word_line ++ text_line ++ find_line
  pub one_form : rendered [] [] [] ≡ text_line
  pub text_alone : in_form text_line ≡ true
  pub two_texts : in_form (text_line ++ text_line) ≡ false
  pub find_before_text : in_form (find_line ++ text_line) ≡ false
  pub word_after_text : in_form (text_line ++ word_line) ≡ false

pub form_examples : FormExamples
unfolding bytes same digit is_digit character is_spaced ends_well characters is_form string_in onto_first lines forms after nothing_left
    texts_on left_on in_form digit_byte hexadecimal spelled form form_lines rendered
form_examples =
    record { three_forms = refl; one_form = refl; text_alone = refl; two_texts = refl; find_before_text = refl; word_after_text = refl }
