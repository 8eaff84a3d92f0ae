-- Full-width forms and the replaced text: the tests as facts, and the loops over a text. Assumes nothing.
use Rattle.std.specs.Prelude.{◌≡◌, refl, Bool, true, false, ◌||◌, List, [], ◌∷◌, ℕ}
use Rattle.std.specs.Prelude.{zero, suc, ◌+◌, ◌-◌, ◌≤◌, ◌<◌, length, get_or, take, drop}
use Rattle.std.proofs.Common.{sym, ap, ◌∙◌, inl, inr, ⊎_elim, arith, add-one, length-drop, drop_of_length-le, drop-cons, ext_get_or, le-leb}
use Rattle.std.specs.Int.Bits.{bit_and, bit_or, or_add_and}
use Rattle.std.proofs.lemmas.Nat.{and_le_l, and_le_r}
use Rattle.basics.specs.Bools.{clash, true_or_false, false_put, and_put, between_get, or_none, or_false}
use Rattle.basics.specs.Member.{In}
use Rattle.spec.specs.Replaced.{first_form, last_form, form_distance, is_full_width, replaced_char, replaced, holds_full_width}
use Rattle.spec.specs.Dictionary.{words_from, total, some_full_width}
use Rattle.laws.specs.Text.Facts.{Chars, Plain}

-- ONE CHARACTER

module _ (c : ℕ) where
  pub form_get : is_full_width c ≡ true → (first_form ≤ c) × (c ≤ last_form)
  unfolding is_full_width
  form_get t = between_get c t

  pub form_put : first_form ≤ c → c ≤ last_form → is_full_width c ≡ true
  unfolding is_full_width
  form_put low high = and_put (le-leb first_form c low) (le-leb c last_form high)

  pub below_form : c < first_form → is_full_width c ≡ false
  below_form h = false_put (is_full_width c) (λ t. omega (arith, (form_get t).0))

  pub above_form : last_form < c → is_full_width c ≡ false
  above_form h = false_put (is_full_width c) (λ t. omega (arith, (form_get t).1))

  pub char_lowered : is_full_width c ≡ true → replaced_char c ≡ c - form_distance
  unfolding replaced_char
  char_lowered t = rw t

  pub char_stays : is_full_width c ≡ false → replaced_char c ≡ c
  unfolding replaced_char
  char_stays f = rw f

pub char_plain : (c : ℕ) → is_full_width (replaced_char c) ≡ false
char_plain c =
    ⊎_elim
    (λ (t : is_full_width c ≡ true).
    rw (char_lowered c t) (below_form (c - form_distance) (omega (arith, form_get c t))))
    (λ (f : is_full_width c ≡ false). rw (char_stays c f) f) (true_or_false (is_full_width c))

pub char_no_greater : (c : ℕ) → replaced_char c ≤ c
char_no_greater c =
    ⊎_elim (λ (t : is_full_width c ≡ true). omega (arith, char_lowered c t))
    (λ (f : is_full_width c ≡ false). omega (arith, char_stays c f)) (true_or_false (is_full_width c))

-- A TEXT

or_neither : (a b : Bool) → (a || b) ≡ false → (a ≡ false) × (b ≡ false)
or_neither true b t = clash refl t
or_neither false b t = (refl, t)

pub plain_get : (xs : List ℕ) → holds_full_width xs ≡ false → Plain xs
unfolding holds_full_width
plain_get [] f i h = absurd (omega arith)
plain_get (x ∷ xs) f zero h = (or_neither (is_full_width x) (holds_full_width xs) f).0
plain_get (x ∷ xs) f (suc i) h = plain_get xs (or_neither (is_full_width x) (holds_full_width xs) f).1 i (omega arith)

pub plain_put : (xs : List ℕ) → Plain xs → holds_full_width xs ≡ false
unfolding holds_full_width
plain_put [] h = refl
plain_put (x ∷ xs) h = or_none (h 0 (omega arith)) (plain_put xs (λ i b. h (suc i) (omega arith)))

pub length_replaced : (ts : List ℕ) → length (replaced ts) ≡ length ts
unfolding replaced
length_replaced [] = refl
length_replaced (c ∷ cs) = ap suc (length_replaced cs)

pub getD_replaced : (ts : List ℕ) (i : ℕ) → get_or (replaced ts) i 0 ≡ replaced_char (get_or ts i 0)
unfolding replaced
getD_replaced [] i = sym (char_stays 0 (below_form 0 (omega arith)))
getD_replaced (c ∷ cs) zero = refl
getD_replaced (c ∷ cs) (suc i) = getD_replaced cs i

pub replaced_plain : (ts : List ℕ) → Plain (replaced ts)
replaced_plain ts i h = rw (getD_replaced ts i) (char_plain (get_or ts i 0))

pub replaced_none : (ts : List ℕ) → holds_full_width (replaced ts) ≡ false
replaced_none ts = plain_put (replaced ts) (replaced_plain ts)

pub plain_kept : (ts : List ℕ) → holds_full_width ts ≡ false → replaced ts ≡ ts
plain_kept ts f =
    ext_get_or 0 (replaced ts) ts (length_replaced ts)
    (λ i h. getD_replaced ts i ∙ char_stays (get_or ts i 0) (plain_get ts f i (omega (arith, length_replaced ts))))

pub replaced_chars : (ts : List ℕ) → Chars ts → Chars (replaced ts)
replaced_chars ts chars i h =
    omega (arith, getD_replaced ts i, char_no_greater (get_or ts i 0), chars i (omega (arith, length_replaced ts)))

-- A LOOP OVER A TEXT

or_assoc : (a b c : Bool) → ((a || b) || c) ≡ (a || (b || c))
or_assoc true b c = refl
or_assoc false b c = refl

-- the characters from i on: the one at i, and those after it
pub holds_step :
    (xs : List ℕ) (i : ℕ) → i < length xs →
    holds_full_width (drop i xs) ≡ (is_full_width (get_or xs i 0) || holds_full_width (drop (i + 1) xs))
unfolding holds_full_width
holds_step xs i h = ap holds_full_width (drop-cons xs i 0 h) ∙ rw (add-one i)

pub holds_end : (xs : List ℕ) (i : ℕ) → length xs ≤ i → holds_full_width (drop i xs) ≡ false
unfolding holds_full_width
holds_end xs i h = rw (drop_of_length-le xs h)

-- if `all` is 0, no form lies before i: each excess over FF00 is combined into it with a bitwise or
abbrev pub Exceeds : (text : List ℕ) → (all i : ℕ) → Type 0
Exceeds xs all i = (i ≤ length xs) × (all ≡ 0 → holds_full_width (drop i xs) ≡ holds_full_width xs)

pub exceeds_step :
    (xs : List ℕ) (all i : ℕ) → i < length xs → Exceeds xs all i → Exceeds xs (bit_or all (get_or xs i 0 - 65280)) (i + 1)
exceeds_step xs all i below h = (
  omega arith,
  λ e.
      let sum : bit_or all (get_or xs i 0 - 65280) + bit_and all (get_or xs i 0 - 65280) ≡ all + (get_or xs i 0 - 65280) =
      or_add_and all (get_or xs i 0 - 65280) in
      let none : all ≡ 0 = omega (arith, and_le_r all (get_or xs i 0 - 65280)) in
      let low : get_or xs i 0 < first_form = omega (arith, and_le_l all (get_or xs i 0 - 65280)) in
      ap (λ (b : Bool). b || holds_full_width (drop (i + 1) xs)) (sym (below_form (get_or xs i 0) low))
      ∙ sym (holds_step xs i below)
      ∙ h.1 none,
)

pub exceeds_end : (xs : List ℕ) (all i : ℕ) → length xs ≤ i → Exceeds xs all i → all ≡ 0 → holds_full_width xs ≡ false
exceeds_end xs all i past h e = sym (h.1 e) ∙ holds_end xs i past

-- a form lies before i, as `held` says, or from i on, exactly if one lies in the text
abbrev pub Held : (text : List ℕ) → (held : Bool) → (i : ℕ) → Type 0
Held xs held i = (i ≤ length xs) × ((held || holds_full_width (drop i xs)) ≡ holds_full_width xs)

pub held_step :
    (xs : List ℕ) (held : Bool) (i : ℕ) → i < length xs → Held xs held i → Held xs (held || is_full_width (get_or xs i 0)) (i + 1)
held_step xs held i below h = (
  omega arith,
  or_assoc held (is_full_width (get_or xs i 0)) (holds_full_width (drop (i + 1) xs))
      ∙ ap (λ (b : Bool). held || b) (sym (holds_step xs i below))
      ∙ h.1,
)

pub held_end : (xs : List ℕ) (held : Bool) (i : ℕ) → length xs ≤ i → Held xs held i → held ≡ holds_full_width xs
held_end xs held i past h =
    sym (or_false held) ∙ ap (λ (b : Bool). held || b) (sym (holds_end xs i past)) ∙ h.1

-- WORDS

holds_parts : (l : ℕ) (cs : List ℕ) → holds_full_width cs ≡ (holds_full_width (take l cs) || holds_full_width (drop l cs))
unfolding holds_full_width
holds_parts zero cs = refl
holds_parts (suc l) [] = refl
holds_parts (suc l) (c ∷ cs) =
    ap (λ (b : Bool). is_full_width c || b) (holds_parts l cs)
    ∙ sym (or_assoc (is_full_width c) (holds_full_width (take l cs)) (holds_full_width (drop l cs)))

-- if the lengths add up, the words have a full-width form exactly if the characters lent do
pub words_hold : (ls cs : List ℕ) → total ls ≡ length cs → some_full_width (words_from ls cs) ≡ holds_full_width cs
unfolding some_full_width words_from total
words_hold [] cs sum = sym (holds_none cs (omega arith))
  where
    holds_none : (cs : List ℕ) → length cs ≡ 0 → holds_full_width cs ≡ false
    holds_none cs e = plain_put cs (λ i h. absurd (omega arith))
words_hold (l ∷ ls) cs sum =
    ap (λ (b : Bool). holds_full_width (take l cs) || b) (words_hold ls (drop l cs) (omega (arith, length-drop l cs)))
    ∙ sym (holds_parts l cs)

-- no word of a list has a full-width form
pub words_plain_get :
    (ws : List (List ℕ)) → some_full_width ws ≡ false → (w : List ℕ) → In w ws → Plain w
unfolding some_full_width
words_plain_get [] f w m = absurd m
words_plain_get (v ∷ vs) f w (inl e) =
    rw e (plain_get v (or_neither (holds_full_width v) (some_full_width vs) f).0)
words_plain_get (v ∷ vs) f w (inr m) = words_plain_get vs (or_neither (holds_full_width v) (some_full_width vs) f).1 w m
