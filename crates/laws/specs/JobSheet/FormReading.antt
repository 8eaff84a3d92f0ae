-- Reading one form: its head, its characters, its end. Assumes nothing.
use Rattle.std.specs.Prelude.{◌≡◌, refl, true, false, ◌&&◌, List, [], ◌∷◌, ℕ, suc, ◌+◌, ◌*◌, ◌≤◌, ◌<◌, eqb, length, get_or, take, drop, set}
use Rattle.std.proofs.Common.{sym, ◌∙◌, arith, length-take, length-drop, drop_of_length-le, get_or-take, length-take-le, eq-eqb, ne_eqb}
use Rattle.std.proofs.Math.Path.{ap}
use Rattle.basics.specs.Bools.{clash, false_put, and_left, and_right}
use Rattle.basics.specs.Placed.{Wrote, Writing, writing_start, writing_as, writing_one, writing_end}
use Rattle.spec.specs.Words.{same}
use Rattle.spec.specs.JobSheet.{closing, head_length, is_spaced, ends_well, characters, is_form, string_in}
use Rattle.basics.specs.PlacedCopies.{drop_next}
use Rattle.models.specs.JobSheet.{spaced_at, character_at}

-- THE HEAD

pub same_next :
    (a b : List ℕ) (i : ℕ) → i < length a → i < length b → get_or a i 0 ≡ get_or b i 0 →
    same (drop i a) (drop i b) ≡ same (drop (i + 1) a) (drop (i + 1) b)
unfolding same
same_next a b i ha hb e = rw (drop_next a i ha, drop_next b i hb, eq-eqb (get_or a i 0) (get_or b i 0) e)

pub same_not :
    (a b : List ℕ) (i : ℕ) → i < length a → i < length b → (get_or a i 0 ≡ get_or b i 0 → ⊥) → same (drop i a) (drop i b) ≡ false
unfolding same
same_not a b i ha hb ne = rw (drop_next a i ha, drop_next b i hb, ne_eqb (get_or a i 0) (get_or b i 0) ne)

pub same_end : (a b : List ℕ) (i : ℕ) → length a ≤ i → length b ≤ i → same (drop i a) (drop i b) ≡ true
unfolding same
same_end a b i ha hb = rw (drop_of_length-le a ha, drop_of_length-le b hb)

same_length : (a b : List ℕ) → same a b ≡ true → length a ≡ length b
unfolding same
same_length [] [] t = refl
same_length [] (y ∷ ys) t = clash t refl
same_length (x ∷ xs) [] t = clash t refl
same_length (x ∷ xs) (y ∷ ys) t = ap suc (same_length xs ys (and_right (eqb x y) (same xs ys) t))

-- a line is compared with a head: the first i bytes are equal
pub record HeadRead (l h : List ℕ) (i : ℕ) : Type 0 where
  pub within : i ≤ length h
  pub room : length h ≤ length l
  pub tested : same (drop i (take (length h) l)) (drop i h) ≡ same (take (length h) l) h

pub head_short : (l h : List ℕ) → length l < length h → same (take (length h) l) h ≡ false
head_short l h short =
    false_put (same (take (length h) l) h)
    (λ (t : same (take (length h) l) h ≡ true).
    let e : length (take (length h) l) ≡ length h = same_length (take (length h) l) h t in omega (arith, length-take (length h) l))

pub head_start : (l h : List ℕ) → length h ≤ length l → HeadRead l h 0
head_start l h room = record { within = omega arith; room = room; tested = refl }

module _ {l h : List ℕ} {i : ℕ} (r : HeadRead l h i) where
  taken : length (take (length h) l) ≡ length h
  taken = length-take-le (length h) l r.room

  pub head_end : length h ≤ i → same (take (length h) l) h ≡ true
  head_end past = sym r.tested ∙ same_end (take (length h) l) h i (omega (arith, taken)) past

  module _ (below : i < length h) where
    pub head_step : get_or l i 0 ≡ get_or h i 0 → HeadRead l h (i + 1)
    head_step e =
        record {
          within = omega arith;
          room = r.room;
          tested =
              sym (same_next (take (length h) l) h i (omega (arith, taken)) below (get_or-take (length h) l i 0 below ∙ e)) ∙ r.tested;
        }

    pub head_stop : (get_or l i 0 ≡ get_or h i 0 → ⊥) → same (take (length h) l) h ≡ false
    head_stop ne =
        sym r.tested
        ∙ same_not (take (length h) l) h i (omega (arith, taken)) below
        (λ (e : get_or (take (length h) l) i 0 ≡ get_or h i 0). ne (sym (get_or-take (length h) l i 0 below) ∙ e))

-- THE CHARACTERS

drop_to : (l : List ℕ) (i j : ℕ) → j ≡ i + 1 → i < length l → drop i l ≡ get_or l i 0 ∷ drop j l
drop_to l i j e h = rw e (drop_next l i h)

five :
    (l : List ℕ) (at : ℕ) → at + 5 ≤ length l →
    drop at l ≡ get_or l at 0 ∷ get_or l (at + 1) 0 ∷ get_or l (at + 2) 0 ∷ get_or l (at + 3) 0 ∷ get_or l (at + 4) 0 ∷ drop (at + 5) l
five l at room =
    rw (
      drop_to l at (at + 1) refl (omega arith),
      drop_to l (at + 1) (at + 2) (omega arith) (omega arith),
      drop_to l (at + 2) (at + 3) (omega arith) (omega arith),
      drop_to l (at + 3) (at + 4) (omega arith) (omega arith),
      drop_to l (at + 4) (at + 5) (omega arith) (omega arith),
    )

pub ends_next : (l : List ℕ) (at : ℕ) → at + 5 ≤ length l → ends_well (drop at l) ≡ (spaced_at l at && ends_well (drop (at + 5) l))
unfolding ends_well spaced_at
ends_next l at room = rw (five l at room)

pub characters_next : (l : List ℕ) (at : ℕ) → at + 5 ≤ length l → characters (drop at l) ≡ character_at l at ∷ characters (drop (at + 5) l)
unfolding characters character_at
characters_next l at room = rw (five l at room)

characters_few : (l : List ℕ) → length l < 5 → characters l ≡ []
unfolding characters
characters_few [] h = refl
characters_few (x ∷ []) h = refl
characters_few (x ∷ a ∷ []) h = refl
characters_few (x ∷ a ∷ b ∷ []) h = refl
characters_few (x ∷ a ∷ b ∷ c ∷ []) h = refl
characters_few (x ∷ a ∷ b ∷ c ∷ d ∷ bs) h = absurd (omega arith)

pub characters_end : (l : List ℕ) (at : ℕ) → length l < at + 5 → at ≤ length l → characters (drop at l) ≡ []
characters_end l at past within = characters_few (drop at l) (omega (arith, length-drop at l))

-- one byte is left, and it is `)`
ends_few : (l : List ℕ) → length l < 5 → (length l ≡ 1 → ⊥) → ends_well l ≡ false
unfolding ends_well
ends_few [] h n = refl
ends_few (x ∷ []) h n = absurd (n refl)
ends_few (x ∷ a ∷ []) h n = refl
ends_few (x ∷ a ∷ b ∷ []) h n = refl
ends_few (x ∷ a ∷ b ∷ c ∷ []) h n = refl
ends_few (x ∷ a ∷ b ∷ c ∷ d ∷ bs) h n = absurd (omega arith)

pub ends_other : (l : List ℕ) (at : ℕ) → length l < at + 5 → at ≤ length l → (at + 1 ≡ length l → ⊥) → ends_well (drop at l) ≡ false
ends_other l at past within n =
    ends_few (drop at l) (omega (arith, length-drop at l)) (λ (e : length (drop at l) ≡ 1). n (omega (arith, length-drop at l)))

pub ends_last : (l : List ℕ) (at : ℕ) → at + 1 ≡ length l → ends_well (drop at l) ≡ eqb (get_or l at 0) closing
unfolding ends_well
ends_last l at e =
    let past : length l ≤ at + 1 = omega arith in
    rw (drop_next l at (omega arith), drop_of_length-le l past)

-- the characters before `from` are written
pub record StringRead (l : List ℕ) (start : ℕ) (old : List ℕ) (from end : ℕ) (now : List ℕ) : Type 0 where
  pub within : from ≤ length l
  pub good : ends_well (drop from l) ≡ true
  pub writing : Writing (string_in l) start old (characters (drop from l)) end now

pub string_start :
    (l : List ℕ) (start : ℕ) (old : List ℕ) → 5 ≤ length l → ends_well (drop 5 l) ≡ true → start + length (string_in l) ≤ length old →
    StringRead l start old 5 start old
unfolding string_in
string_start l start old some good room =
    record { within = some; good = good; writing = writing_start (characters (drop 5 l)) start old room }

module _ {l : List ℕ} {start : ℕ} {old : List ℕ} {from end : ℕ} {now : List ℕ} (h : StringRead l start old from end now) where
  pub string_end : length l < from + 5 → Wrote (string_in l) start old end now
  string_end past = writing_end (writing_as (characters_end l from past h.within) h.writing)

  module _ (inside : from + 5 ≤ length l) where
    both : (spaced_at l from && ends_well (drop (from + 5) l)) ≡ true
    both = sym (ends_next l from inside) ∙ h.good

    pub spaced_here : spaced_at l from ≡ true
    spaced_here = and_left (spaced_at l from) (ends_well (drop (from + 5) l)) both

    next : Writing (string_in l) start old (character_at l from ∷ characters (drop (from + 5) l)) end now
    next = writing_as (characters_next l from inside) h.writing

    pub string_room : end < length now
    string_room = omega (arith, next.room)

    pub string_step : (x : ℕ) → x ≡ character_at l from → StringRead l start old (from + 5) (end + 1) (set now end x)
    string_step x e =
        record {
          within = inside;
          good = and_right (spaced_at l from) (ends_well (drop (from + 5) l)) both;
          writing = rw e (writing_one (character_at l from) (characters (drop (from + 5) l)) next);
        }

-- THE FORM

end_len : (l : List ℕ) → ends_well l ≡ true → length l ≡ 1 + 5 * length (characters l)
unfolding ends_well characters
end_len [] t = clash t refl
end_len (x ∷ []) t = refl
end_len (x ∷ a ∷ []) t = clash t refl
end_len (x ∷ a ∷ b ∷ []) t = clash t refl
end_len (x ∷ a ∷ b ∷ c ∷ []) t = clash t refl
end_len (x ∷ a ∷ b ∷ c ∷ d ∷ bs) t = omega (arith, end_len bs (and_right (is_spaced x a b c d) (ends_well bs) t))

-- a form has five bytes for each character, and six more
pub form_ends : (h l : List ℕ) → is_form h l ≡ true → ends_well (drop 5 l) ≡ true
unfolding is_form
form_ends h l t = and_right (same (take head_length l) h) (ends_well (drop head_length l)) t

pub form_len : (h l : List ℕ) → is_form h l ≡ true → length l ≡ 6 + 5 * length (string_in l)
unfolding string_in
form_len h l t = omega (arith, end_len (drop 5 l) (form_ends h l t), length-drop 5 l)

module _ (l h : List ℕ) (five_bytes : length h ≡ 5) where
  pub form_short : length l < 5 → is_form h l ≡ false
  unfolding is_form
  form_short short =
      ap (λ (n : ℕ). same (take n l) h && ends_well (drop 5 l)) (sym five_bytes) ∙ rw (head_short l h (omega arith))

  pub form_other : same (take (length h) l) h ≡ false → is_form h l ≡ false
  unfolding is_form
  form_other f = ap (λ (n : ℕ). same (take n l) h && ends_well (drop 5 l)) (sym five_bytes) ∙ rw f

  pub form_headed : same (take (length h) l) h ≡ true → is_form h l ≡ ends_well (drop 5 l)
  unfolding is_form
  form_headed t = ap (λ (n : ℕ). same (take n l) h && ends_well (drop 5 l)) (sym five_bytes) ∙ rw t
