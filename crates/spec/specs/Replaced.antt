-- Full-width forms, and a text with each of them replaced. Assumes nothing: these are definitions.
use Rattle.std.specs.Prelude.{Bool, false, ◌&&◌, ◌||◌, cond, List, [], ◌∷◌, ℕ, ◌-◌, leb}

-- FF01 and FF5E, the first and the last full-width form
abbrev pub first_form : ℕ
first_form = 65281

abbrev pub last_form : ℕ
last_form = 65374

-- FEE0: how far a full-width form lies above the character it stands for
abbrev pub form_distance : ℕ
form_distance = 65248

-- "Characters FF01 to FF5E (hexadecimal)"
unfoldable pub is_full_width : (c : ℕ) → Bool
is_full_width c = leb first_form c && leb c last_form

-- Replaced, document 02's term (the field's: width folding). "are replaced by the character FEE0 lower"
unfoldable pub replaced_char : (c : ℕ) → ℕ
replaced_char c = cond (is_full_width c) (c - form_distance) c

-- a text or string with each character replaced
unfoldable pub replaced : (text : List ℕ) → List ℕ
replaced [] = []
replaced (c ∷ cs) = replaced_char c ∷ replaced cs

-- one of the characters is a full-width form; a text that holds none is a replaced text
unfoldable pub holds_full_width : (text : List ℕ) → Bool
holds_full_width [] = false
holds_full_width (c ∷ cs) = is_full_width c || holds_full_width cs
