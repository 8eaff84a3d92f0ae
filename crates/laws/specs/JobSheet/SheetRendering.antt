-- The test `in_form` decides the form of a job sheet: rendering what is read gives the sheet back, and reading what is rendered gives its
-- parts. Assumes nothing.
use Rattle.std.specs.Prelude.{◌≡◌, refl, Bool, true, false, cond, eqb, length}
use Rattle.std.proofs.Math.Path.{sym, ap}
use Rattle.std.proofs.Common.{◌∙◌, inl, inr, arith}
use mathlib.Core.List.{List, [], ◌∷◌, ◌++◌, append_assoc, append-nil}
use Prim.Native.Nat.{ℕ}
use Rattle.std.proofs.Math.ListN.{get_or}
use borrow.Author.Tests.{eqb-true}
use Rattle.basics.specs.Bools.{clash, and_left, and_right}
use Rattle.spec.specs.Dictionary.{lexicon, words_from}
use Rattle.spec.specs.Words.{same}
use Rattle.spec.specs.JobSheet.{line_feed, word_head, text_head, find_head, is_form, string_in, onto_first, lines, forms, after}
use Rattle.spec.specs.JobSheet.{nothing_left, words_on, texts_on, finds_on, left_on, text_on, in_form, run_together, lengths_of}
use Rattle.spec.specs.SheetForms.{form, form_lines, rendered, AllCharacters, SheetOf, FormTested}
use Rattle.laws.specs.JobSheet.LineReading.{lines_some}
use Rattle.laws.specs.JobSheet.JobParts.{strings_in_front}
use Rattle.laws.specs.JobSheet.SheetChars.{forms_chars, first_chars}
use Rattle.laws.specs.JobSheet.FormRendering.{Head, plain_get, form_then, form_back, form_first, other_first}

-- READ WHAT IS RENDERED

word_is_head : Head word_head
word_is_head = record { five = refl; plain = plain_get word_head refl }

text_is_head : Head text_head
text_is_head = record { five = refl; plain = plain_get text_head refl }

find_is_head : Head find_head
find_is_head = record { five = refl; plain = plain_get find_head refl }

module _ {h : List ℕ} (head : Head h) where
  forms_all :
      (ss : List (List ℕ)) (rest : List ℕ) → AllCharacters ss →
      (forms h (lines (form_lines h ss ++ rest)) ≡ ss ++ forms h (lines rest))
      × (after h (lines (form_lines h ss ++ rest)) ≡ after h (lines rest))
  unfolding form_lines
  forms_all [] rest chars = (refl, refl)
  forms_all (s ∷ ss) rest chars =
      let one = form_first s (form_lines h ss ++ rest) head (chars s (inl refl)) in
      let more = forms_all ss rest (λ x m. chars x (inr m)) in
      let grouped : (form h s ++ form_lines h ss) ++ rest ≡ form h s ++ (form_lines h ss ++ rest) =
      append_assoc (form h s) (form_lines h ss) rest in (
        ap (λ (l : List ℕ). forms h (lines l)) grouped ∙ one.0 ∙ ap (λ (ls : List (List ℕ)). s ∷ ls) more.0,
        ap (λ (l : List ℕ). after h (lines l)) grouped ∙ one.1 ∙ more.1,
      )

-- forms with another head
forms_other :
    {g : List ℕ} (h : List ℕ) (ss : List (List ℕ)) → Head g → same g h ≡ false →
    (forms h (lines (form_lines g ss)) ≡ []) × (after h (lines (form_lines g ss)) ≡ lines (form_lines g ss))
unfolding form_lines forms after lines
forms_other h [] head other = (refl, refl)
forms_other {g} h (s ∷ ss) head other = other_first s (form_lines g ss) head h other

module _ (ws : List (List ℕ)) (t : List ℕ) (fs : List (List ℕ)) (s : List ℕ) (sheet : SheetOf ws t fs s) where
  abbrev past_words : List ℕ
  past_words = form text_head t ++ form_lines find_head fs

  whole : s ≡ form_lines word_head ws ++ past_words
  unfolding rendered
  whole = sheet.bytes ∙ append_assoc (form_lines word_head ws) (form text_head t) (form_lines find_head fs)

  words_back : words_on s ≡ ws
  unfolding words_on same
  words_back =
      ap (λ (l : List ℕ). forms word_head (lines l)) whole
      ∙ (forms_all word_is_head ws past_words sheet.words_chars).0
      ∙ ap (λ (l : List (List ℕ)). ws ++ l) (other_first t (form_lines find_head fs) text_is_head word_head refl).0
      ∙ append-nil ws

  after_words : after word_head (lines s) ≡ lines past_words
  unfolding same
  after_words =
      ap (λ (l : List ℕ). after word_head (lines l)) whole
      ∙ (forms_all word_is_head ws past_words sheet.words_chars).1
      ∙ (other_first t (form_lines find_head fs) text_is_head word_head refl).1

  texts_back : texts_on s ≡ t ∷ []
  unfolding texts_on same
  texts_back =
      ap (forms text_head) after_words
      ∙ (form_first t (form_lines find_head fs) text_is_head sheet.text_chars).0
      ∙ ap (λ (l : List (List ℕ)). t ∷ l) (forms_other text_head fs find_is_head refl).0

  after_text : after text_head (after word_head (lines s)) ≡ lines (form_lines find_head fs ++ [])
  unfolding same
  after_text =
      ap (after text_head) after_words
      ∙ (form_first t (form_lines find_head fs) text_is_head sheet.text_chars).1
      ∙ (forms_other text_head fs find_is_head refl).1
      ∙ ap lines (sym (append-nil (form_lines find_head fs)))

  finds_back : finds_on s ≡ fs
  unfolding finds_on forms lines
  finds_back =
      ap (forms find_head) after_text ∙ (forms_all find_is_head fs [] sheet.finds_chars).0 ∙ append-nil fs

  left_back : left_on s ≡ [] ∷ []
  unfolding left_on after lines
  left_back = ap (after find_head) after_text ∙ (forms_all find_is_head fs [] sheet.finds_chars).1

  text_back : text_on s ≡ t
  unfolding text_on
  text_back = ap (λ (ts : List (List ℕ)). get_or ts 0 []) texts_back

  test_passes : in_form s ≡ true
  unfolding in_form nothing_left
  test_passes = rw (texts_back, left_back)

-- RENDER WHAT IS READ

-- lines with LF between
unfoldable joined : List (List ℕ) → List ℕ
joined [] = []
joined (l ∷ []) = l
joined (l ∷ m ∷ ls) = l ++ line_feed ∷ joined (m ∷ ls)

joined_lines : (bs : List ℕ) → joined (lines bs) ≡ bs
unfolding joined lines onto_first
joined_lines [] = refl
joined_lines (b ∷ bs) =
    let some = lines_some bs in
    rw some.2 (pick (eqb b line_feed) refl some.0 some.1 (ap joined (sym some.2) ∙ joined_lines bs))
  where
    pick :
        (t : Bool) → eqb b line_feed ≡ t → (m : List ℕ) (ls : List (List ℕ)) → joined (m ∷ ls) ≡ bs →
        joined (cond t ([] ∷ m ∷ ls) (onto_first b (m ∷ ls))) ≡ b ∷ bs
    pick true e m ls j = ap (λ (l : List ℕ). line_feed ∷ l) j ∙ ap (λ (x : ℕ). x ∷ bs) (sym (eqb-true b line_feed e))
    pick false e m [] j = ap (λ (l : List ℕ). b ∷ l) j
    pick false e m (n ∷ ls) j = ap (λ (l : List ℕ). b ∷ l) j

-- the forms with a head, rendered, and after them the lines that are left
joined_forms : (h : List ℕ) (ls : List (List ℕ)) → joined ls ≡ form_lines h (forms h ls) ++ joined (after h ls)
unfolding joined forms after form_lines
joined_forms h [] = refl
joined_forms h (l ∷ []) = refl
joined_forms h (l ∷ m ∷ ls) = pick (is_form h l) refl (joined_forms h (m ∷ ls))
  where
    pick :
        (t : Bool) → is_form h l ≡ t → joined (m ∷ ls) ≡ form_lines h (forms h (m ∷ ls)) ++ joined (after h (m ∷ ls)) →
        l ++ line_feed ∷ joined (m ∷ ls)
        ≡ form_lines h (cond t (string_in l ∷ forms h (m ∷ ls)) []) ++ joined (cond t (after h (m ∷ ls)) (l ∷ m ∷ ls))
    pick true e j =
        let more : List ℕ = form_lines h (forms h (m ∷ ls)) in
        let rest : List ℕ = joined (after h (m ∷ ls)) in
        ap (λ (x : List ℕ). l ++ line_feed ∷ x) j
        ∙ ap (λ (k : List ℕ). k ++ line_feed ∷ (more ++ rest)) (sym (form_back h l e))
        ∙ sym (form_then h (string_in l) (more ++ rest))
        ∙ sym (append_assoc (form h (string_in l)) more rest)
    pick false e j = refl

joined_nothing : (ls : List (List ℕ)) → nothing_left ls ≡ true → joined ls ≡ []
unfolding nothing_left joined
joined_nothing [] t = clash t refl
joined_nothing ([] ∷ []) t = refl
joined_nothing ([] ∷ m ∷ ls) t = clash t refl
joined_nothing ((b ∷ bs) ∷ ls) t = clash t refl

one_form : (h : List ℕ) (ts : List (List ℕ)) → length ts ≡ 1 → form_lines h ts ≡ form h (get_or ts 0 [])
unfolding form_lines
one_form h [] e = absurd (omega arith)
one_form h (t ∷ []) e = append-nil (form h t)
one_form h (t ∷ u ∷ us) e = absurd (omega arith)

module _ (s : List ℕ) (test : in_form s ≡ true) where
  one : length (texts_on s) ≡ 1
  unfolding in_form
  one = eqb-true (length (texts_on s)) 1 (and_left (eqb (length (texts_on s)) 1) (nothing_left (left_on s)) test)

  nothing : joined (left_on s) ≡ []
  unfolding in_form
  nothing = joined_nothing (left_on s) (and_right (eqb (length (texts_on s)) 1) (nothing_left (left_on s)) test)

  sheet_back : s ≡ rendered (words_on s) (text_on s) (finds_on s)
  unfolding words_on texts_on finds_on left_on text_on rendered
  sheet_back =
      let past_words : List (List ℕ) = after word_head (lines s) in
      let past_text : List (List ℕ) = after text_head past_words in
      let words : List ℕ = form_lines word_head (forms word_head (lines s)) in
      let texts : List ℕ = form_lines text_head (forms text_head past_words) in
      let finds : List ℕ = form_lines find_head (forms find_head past_text) in
      let last : joined past_text ≡ finds = joined_forms find_head past_text ∙ ap (λ (l : List ℕ). finds ++ l) nothing ∙ append-nil finds in
      let middle : joined past_words ≡ form text_head (get_or (forms text_head past_words) 0 []) ++ finds =
      joined_forms text_head past_words
      ∙ ap (λ (l : List ℕ). texts ++ l) last
      ∙ ap (λ (l : List ℕ). l ++ finds) (one_form text_head (forms text_head past_words) one) in
      sym (joined_lines s)
      ∙ joined_forms word_head (lines s)
      ∙ ap (λ (l : List ℕ). words ++ l) middle
      ∙ sym (append_assoc words (form text_head (get_or (forms text_head past_words) 0 [])) finds)

  sheet_read : SheetOf (words_on s) (text_on s) (finds_on s) s
  unfolding words_on texts_on finds_on text_on
  sheet_read =
      record {
        words_chars = forms_chars word_head (lines s);
        text_chars = first_chars (texts_on s) (forms_chars text_head (after word_head (lines s)));
        finds_chars = forms_chars find_head (after text_head (after word_head (lines s)));
        bytes = sheet_back;
      }

words_lent : (ws : List (List ℕ)) → (lexicon (run_together ws) (lengths_of ws)).words ≡ ws
unfolding lexicon
words_lent ws = ap (words_from (lengths_of ws)) (sym (append-nil (run_together ws))) ∙ strings_in_front ws []

pub form_tested : FormTested
form_tested =
    record {
      passes = λ s (ws, t, fs, sheet). test_passes ws t fs s sheet;
      rendered_again = sheet_read;
      words_read = words_back;
      text_read = text_back;
      finds_read = finds_back;
      words_lent = words_lent;
    }
