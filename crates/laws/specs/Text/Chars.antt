-- Characters and texts: the tests, and parts of a list of characters. Assumes nothing.
use Rattle.std.specs.Prelude.{◌≡◌, refl, true, ◌&&◌, not, List, [], ◌∷◌, ℕ, zero, suc, ◌+◌, ◌≤◌, ◌<◌, ltb, leb, length, get_or, take, drop}
use Rattle.std.proofs.Common.{arith, length-take, length-drop, get_or-take, get_or-drop, Fits, lt-ltb, le-leb, ltb-true, leb-true}
use Rattle.std.specs.Int.{w16}
use Rattle.basics.specs.Bools.{and_put, and_left, and_right, not_get, not_put}
use Rattle.spec.specs.Replaced.{replaced, holds_full_width}
use Rattle.spec.specs.Dictionary.{is_char, all_chars, is_text}
use Rattle.laws.specs.Text.Facts.{Chars, Plain}
use Rattle.laws.specs.Text.WidthFolding.{plain_get, plain_put, length_replaced, replaced_chars, replaced_plain}

pub all_chars_get : (xs : List ℕ) → all_chars xs ≡ true → Chars xs
unfolding all_chars is_char
all_chars_get [] t i h = absurd (omega arith)
all_chars_get (c ∷ cs) t zero h = ltb-true c 65536 (and_left (ltb c 65536) (all_chars cs) t)
all_chars_get (c ∷ cs) t (suc i) h = all_chars_get cs (and_right (ltb c 65536) (all_chars cs) t) i (omega arith)

pub all_chars_put : (xs : List ℕ) → Chars xs → all_chars xs ≡ true
unfolding all_chars is_char
all_chars_put [] h = refl
all_chars_put (c ∷ cs) h = and_put (lt-ltb c 65536 (h 0 (omega arith))) (all_chars_put cs (λ i b. h (suc i) (omega arith)))

-- Every element of a lent `&[u16]` fits 16 bits, as a proof of code knows by the type of the slice: it holds characters.
pub lent_chars : (xs : List ℕ) → ((i : ℕ) → Fits w16 (get_or xs i 0)) → all_chars xs ≡ true
lent_chars xs fits = all_chars_put xs (λ i h. (fits i).fits)

pub is_text_get : (g : ℕ) (ts : List ℕ) → is_text g ts ≡ true → Chars ts × (length ts ≤ g) × Plain ts
unfolding is_text
is_text_get g ts t =
    let lent : (all_chars ts && leb (length ts) g) ≡ true = and_left (all_chars ts && leb (length ts) g) (not (holds_full_width ts)) t in (
      all_chars_get ts (and_left (all_chars ts) (leb (length ts) g) lent),
      leb-true (length ts) g (and_right (all_chars ts) (leb (length ts) g) lent),
      plain_get ts (not_get (holds_full_width ts) (and_right (all_chars ts && leb (length ts) g) (not (holds_full_width ts)) t)),
    )

pub is_text_put : (g : ℕ) (ts : List ℕ) → Chars ts → length ts ≤ g → Plain ts → is_text g ts ≡ true
unfolding is_text
is_text_put g ts cs h plain = and_put (and_put (all_chars_put ts cs) (le-leb (length ts) g h)) (not_put (plain_put ts plain))

-- a lent text, replaced, is a text
pub replaced_is_text : (g : ℕ) (ts : List ℕ) → Chars ts → length ts ≤ g → is_text g (replaced ts) ≡ true
replaced_is_text g ts chars small =
    is_text_put g (replaced ts) (replaced_chars ts chars) (omega (arith, length_replaced ts)) (replaced_plain ts)

pub chars_take : (l : ℕ) (xs : List ℕ) → Chars xs → Chars (take l xs)
chars_take l xs h i b =
    let len : i < l = omega (arith, length-take l xs) in
    rw (get_or-take l xs i 0 len) (h i (omega (arith, length-take l xs)))

pub chars_drop : (l : ℕ) (xs : List ℕ) → Chars xs → Chars (drop l xs)
chars_drop l xs h i b = rw (get_or-drop l xs i 0) (h (l + i) (omega (arith, length-drop l xs)))
