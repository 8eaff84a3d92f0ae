-- The characters on a job sheet, in form or not, have 16 bits. Assumes nothing.
use Rattle.std.specs.Prelude.{◌≡◌, refl, Bool, true, false, cond, List, [], ◌∷◌, ℕ, get_or}
use Rattle.std.proofs.Common.{inl, inr, ⊎_elim}
use Rattle.basics.specs.Member.{In, in_append_get, in_getD, all_cons}
use Rattle.spec.specs.JobSheet.{word_head, text_head, is_form, string_in, lines, forms, after, words_on, texts_on, text_on, run_together}
use Rattle.spec.specs.SheetForms.{Characters, AllCharacters}
use Rattle.laws.specs.Text.Facts.{Chars}
use Rattle.laws.specs.JobSheet.FormRendering.{form_chars}

pub forms_chars : (h : List ℕ) (ls : List (List ℕ)) → AllCharacters (forms h ls)
unfolding forms
forms_chars h [] = λ s m. absurd m
forms_chars h (l ∷ []) = λ s m. absurd m
forms_chars h (l ∷ m ∷ ls) = pick (is_form h l) refl (forms_chars h (m ∷ ls))
  where
    pick :
        (t : Bool) → is_form h l ≡ t → AllCharacters (forms h (m ∷ ls)) →
        AllCharacters (cond t (string_in l ∷ forms h (m ∷ ls)) [])
    pick true e more = all_cons Characters (string_in l) (forms h (m ∷ ls)) (form_chars h l e) more
    pick false e more = λ s m. absurd m

pub first_chars : (ss : List (List ℕ)) → AllCharacters ss → Characters (get_or ss 0 [])
first_chars [] chars = λ c m. absurd m
first_chars (s ∷ ss) chars = chars s (inl refl)

together_chars : (ss : List (List ℕ)) → AllCharacters ss → Characters (run_together ss)
unfolding run_together
together_chars [] chars = λ c m. absurd m
together_chars (s ∷ ss) chars =
    λ c m.
    ⊎_elim (λ (i : In c s). chars s (inl refl) c i) (λ (j : In c (run_together ss)). together_chars ss (λ x n. chars x (inr n)) c j)
    (in_append_get c s (run_together ss) m)

chars_at : (cs : List ℕ) → Characters cs → Chars cs
chars_at cs chars i below = chars (get_or cs i 0) (in_getD cs i 0 below)

pub words_on_chars : (s : List ℕ) → Chars (run_together (words_on s))
unfolding words_on
words_on_chars s = chars_at (run_together (words_on s)) (together_chars (words_on s) (forms_chars word_head (lines s)))

pub text_on_chars : (s : List ℕ) → Chars (text_on s)
unfolding text_on texts_on
text_on_chars s = chars_at (text_on s) (first_chars (texts_on s) (forms_chars text_head (after word_head (lines s))))
