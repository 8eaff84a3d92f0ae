-- One form of a job sheet, rendered and read: its characters, its line, and the lines it begins. Assumes nothing.
use Rattle.std.specs.Prelude.{◌≡◌, refl, Bool, true, false, ◌&&◌, not, List, [], ◌∷◌, ◌++◌, ℕ, ◌/◌, ◌%◌, ◌<◌, eqb, length, take, drop}
use Rattle.std.proofs.Common.{sym, ap, ◌∙◌, inl, inr, ⊎_elim, append_assoc, arith, take-append-drop, take_at, ne_eqb, eqb-true}
use Rattle.std.proofs.Math.Seq.{drop_at}
use Rattle.std.proofs.lemmas.Bool.{eqb-false}
use Rattle.basics.specs.Bools.{clash, not_get, and_put, and_left, and_right}
use Rattle.basics.specs.Member.{In, in_append_get, all_cons}
use Rattle.spec.specs.Words.{same}
use Rattle.spec.specs.JobSheet.{line_feed, space, closing, head_length, character, is_spaced, ends_well, characters, is_form, string_in}
use Rattle.spec.specs.JobSheet.{onto_first, lines, forms, after}
use Rattle.spec.specs.JobAnswer.{digit_byte, hexadecimal}
use Rattle.spec.specs.SheetForms.{spelled, form, Characters}
use Rattle.laws.specs.Text.Strings.{same_get, same_self}
use Rattle.laws.specs.JobSheet.Hexadecimal.{written_is_digit, digit_no_feed, character_small, character_read, character_written}
use Rattle.laws.specs.JobSheet.FormReading.{form_ends}
use Rattle.laws.specs.JobSheet.Digits.{Spaced, spaced_get}
use Rattle.laws.specs.JobSheet.LineReading.{forms_some, forms_none}

-- WHAT FOLLOWS THE HEAD, without the LF

abbrev pub tail_of : (chars : List ℕ) → List ℕ
tail_of cs = spelled cs ++ closing ∷ []

-- what ends well is rendered from its characters
tail_back : (rest : List ℕ) → ends_well rest ≡ true → tail_of (characters rest) ≡ rest
unfolding ends_well characters spelled
tail_back [] t = clash t refl
tail_back (x ∷ []) t = ap (λ (b : ℕ). b ∷ []) (sym (eqb-true x closing t))
tail_back (x ∷ a ∷ []) t = clash t refl
tail_back (x ∷ a ∷ b ∷ []) t = clash t refl
tail_back (x ∷ a ∷ b ∷ c ∷ []) t = clash t refl
tail_back (x ∷ a ∷ b ∷ c ∷ d ∷ bs) t =
    let s : Spaced x a b c d = spaced_get x a b c d (and_left (is_spaced x a b c d) (ends_well bs) t) in
    let four = character_read a b c d s.first s.second s.third s.fourth in
    ap (λ (h : List ℕ). ((space ∷ h) ++ spelled (characters bs)) ++ closing ∷ []) four
    ∙ ap (λ (l : List ℕ). space ∷ a ∷ b ∷ c ∷ d ∷ l) (tail_back bs (and_right (is_spaced x a b c d) (ends_well bs) t))
    ∙ ap (λ (y : ℕ). y ∷ a ∷ b ∷ c ∷ d ∷ bs) (sym s.gap)

tail_chars : (rest : List ℕ) → ends_well rest ≡ true → Characters (characters rest)
unfolding ends_well characters
tail_chars [] t = λ c m. absurd m
tail_chars (x ∷ []) t = λ c m. absurd m
tail_chars (x ∷ a ∷ []) t = λ c m. absurd m
tail_chars (x ∷ a ∷ b ∷ []) t = λ c m. absurd m
tail_chars (x ∷ a ∷ b ∷ c ∷ []) t = λ c m. absurd m
tail_chars (x ∷ a ∷ b ∷ c ∷ d ∷ bs) t =
    let s : Spaced x a b c d = spaced_get x a b c d (and_left (is_spaced x a b c d) (ends_well bs) t) in
    all_cons (λ (n : ℕ). n < 65536) (character a b c d) (characters bs)
    (character_small a b c d s.first s.second s.third s.fourth)
    (tail_chars bs (and_right (is_spaced x a b c d) (ends_well bs) t))

spaced_written :
    (c : ℕ) →
    is_spaced space (digit_byte (c / 4096 % 16)) (digit_byte (c / 256 % 16)) (digit_byte (c / 16 % 16)) (digit_byte (c % 16)) ≡ true
unfolding is_spaced
spaced_written c =
    rw (
      written_is_digit (c / 4096 % 16) (omega arith),
      written_is_digit (c / 256 % 16) (omega arith),
      written_is_digit (c / 16 % 16) (omega arith),
      written_is_digit (c % 16) (omega arith),
    )

tail_good : (cs : List ℕ) → Characters cs → (ends_well (tail_of cs) ≡ true) × (characters (tail_of cs) ≡ cs)
unfolding ends_well characters spelled hexadecimal
tail_good [] chars = (refl, refl)
tail_good (c ∷ cs) chars =
    let more = tail_good cs (λ x m. chars x (inr m)) in
    (and_put (spaced_written c) more.0, rw (character_written c (chars c (inl refl)), more.1))

-- THE LINE, without the LF

abbrev pub form_line : (head chars : List ℕ) → List ℕ
form_line h cs = h ++ tail_of cs

pub form_then : (h cs rest : List ℕ) → form h cs ++ rest ≡ form_line h cs ++ line_feed ∷ rest
unfolding form
form_then h cs rest = simp append_assoc

pub form_back : (h l : List ℕ) → is_form h l ≡ true → form_line h (string_in l) ≡ l
unfolding is_form string_in
form_back h l t =
    let heads : take head_length l ≡ h = same_get (take head_length l) h
    (and_left (same (take head_length l) h) (ends_well (drop head_length l)) t) in
    ap (λ (r : List ℕ). h ++ r) (tail_back (drop head_length l) (form_ends h l t))
    ∙ ap (λ (g : List ℕ). g ++ drop head_length l) (sym heads)
    ∙ take-append-drop head_length l

pub form_chars : (h l : List ℕ) → is_form h l ≡ true → Characters (string_in l)
unfolding string_in
form_chars h l t = tail_chars (drop head_length l) (form_ends h l t)

module _ (g cs : List ℕ) (five : length g ≡ head_length) where
  form_good : Characters cs → (is_form g (form_line g cs) ≡ true) × (string_in (form_line g cs) ≡ cs)
  unfolding is_form string_in
  form_good chars =
      let good = tail_good cs chars in
      rw (take_at g (tail_of cs) head_length five, drop_at g (tail_of cs) head_length five)
      (and_put (same_self g) good.0, good.1)

  form_not : (h : List ℕ) → same g h ≡ false → is_form h (form_line g cs) ≡ false
  unfolding is_form
  form_not h other = rw (take_at g (tail_of cs) head_length five, other)

-- LINES: LF is at their ends alone

abbrev pub Plain : List ℕ → Type 0
Plain l = (b : ℕ) → In b l → b ≡ line_feed → ⊥

abbrev no_feed : List ℕ → Bool
no_feed [] = true
no_feed (b ∷ bs) = not (eqb b line_feed) && no_feed bs

pub plain_get : (l : List ℕ) → no_feed l ≡ true → Plain l
plain_get [] t = λ b m. absurd m
plain_get (x ∷ xs) t =
    all_cons (λ (b : ℕ). b ≡ line_feed → ⊥) x xs
    (eqb-false x line_feed (not_get (eqb x line_feed) (and_left (not (eqb x line_feed)) (no_feed xs) t)))
    (plain_get xs (and_right (not (eqb x line_feed)) (no_feed xs) t))

plain_append : (xs ys : List ℕ) → Plain xs → Plain ys → Plain (xs ++ ys)
plain_append xs ys p q b m e = ⊎_elim (λ (i : In b xs). p b i e) (λ (j : In b ys). q b j e) (in_append_get b xs ys m)

spelled_plain : (cs : List ℕ) → Plain (spelled cs)
unfolding spelled hexadecimal
spelled_plain [] b m e = absurd m
spelled_plain (c ∷ cs) b (inl i) e = omega arith
spelled_plain (c ∷ cs) b (inr (inl i)) e = digit_no_feed (c / 4096 % 16) (sym i ∙ e)
spelled_plain (c ∷ cs) b (inr (inr (inl i))) e = digit_no_feed (c / 256 % 16) (sym i ∙ e)
spelled_plain (c ∷ cs) b (inr (inr (inr (inl i)))) e = digit_no_feed (c / 16 % 16) (sym i ∙ e)
spelled_plain (c ∷ cs) b (inr (inr (inr (inr (inl i))))) e = digit_no_feed (c % 16) (sym i ∙ e)
spelled_plain (c ∷ cs) b (inr (inr (inr (inr (inr m))))) e = spelled_plain cs b m e

line_plain : (h cs : List ℕ) → Plain h → Plain (form_line h cs)
line_plain h cs plain =
    plain_append h (tail_of cs) plain (plain_append (spelled cs) (closing ∷ []) (spelled_plain cs) (plain_get (closing ∷ []) refl))

lines_line : (l rest : List ℕ) → Plain l → lines (l ++ line_feed ∷ rest) ≡ l ∷ lines rest
unfolding lines onto_first
lines_line [] rest plain = refl
lines_line (b ∷ l) rest plain =
    rw (ne_eqb b line_feed (plain b (inl refl)), lines_line l rest (λ x m. plain x (inr m)))

-- a head: five bytes, no LF among them
pub record Head (h : List ℕ) : Type 0 where
  pub five : length h ≡ head_length
  pub plain : Plain h

module _ {g : List ℕ} (cs rest : List ℕ) (head : Head g) where
  first_line : lines (form g cs ++ rest) ≡ form_line g cs ∷ lines rest
  first_line = ap lines (form_then g cs rest) ∙ lines_line (form_line g cs) rest (line_plain g cs head.plain)

  -- a form with the head looked for
  pub form_first :
      Characters cs →
      (forms g (lines (form g cs ++ rest)) ≡ cs ∷ forms g (lines rest)) × (after g (lines (form g cs ++ rest)) ≡ after g (lines rest))
  form_first chars =
      let good = form_good g cs head.five chars in
      let some = forms_some g (form_line g cs) rest good.0 in (
        ap (forms g) first_line ∙ some.0 ∙ ap (λ (s : List ℕ). s ∷ forms g (lines rest)) good.1,
        ap (after g) first_line ∙ some.1,
      )

  -- a form with another head
  pub other_first :
      (h : List ℕ) → same g h ≡ false →
      (forms h (lines (form g cs ++ rest)) ≡ []) × (after h (lines (form g cs ++ rest)) ≡ lines (form g cs ++ rest))
  other_first h other =
      let none = forms_none h (form_line g cs) rest (form_not g cs head.five h other) in
      (ap (forms h) first_line ∙ none.0, ap (after h) first_line ∙ none.1 ∙ sym first_line)
