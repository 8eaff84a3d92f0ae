-- The job sheet: its form, what it says, and its refusal. Bytes are numbers below 256. Assumes nothing: these are definitions.
use Rattle.std.specs.Prelude.{Bool, true, false, ◌&&◌, ◌||◌, not, cond, List, [], ◌∷◌, ◌++◌}
use Rattle.std.specs.Prelude.{ℕ, ◌+◌, ◌*◌, ◌-◌, ltb, leb, eqb, length, get_or, take, drop}
use Rattle.spec.specs.Dictionary.{dictionary_refusal}
use Rattle.spec.specs.Words.{same}
use Rattle.spec.specs.Calls.{string_wrong, or_else}

-- BYTES

abbrev pub line_feed : ℕ
line_feed = 10

abbrev pub space : ℕ
space = 32

abbrev pub closing : ℕ
closing = 41

-- `(word`, `(text`, `(find`
abbrev pub word_head : List ℕ
word_head = 40 ∷ 119 ∷ 111 ∷ 114 ∷ 100 ∷ []

abbrev pub text_head : List ℕ
text_head = 40 ∷ 116 ∷ 101 ∷ 120 ∷ 116 ∷ []

abbrev pub find_head : List ℕ
find_head = 40 ∷ 102 ∷ 105 ∷ 110 ∷ 100 ∷ []

-- how many bytes each head has
abbrev pub head_length : ℕ
head_length = 5

-- ONE CHARACTER: "H below is one character as four upper-case hexadecimal digits"

-- the value of every byte that is no digit
abbrev pub no_digit : ℕ
no_digit = 16

-- "A hexadecimal digit's value": 0 to 9 for the bytes `0` to `9`, 10 to 15 for `A` to `F`
unfoldable pub digit : (byte : ℕ) → ℕ
digit b = cond (leb 48 b && leb b 57) (b - 48) (cond (leb 65 b && leb b 70) (b - 55) no_digit)

unfoldable pub is_digit : (byte : ℕ) → Bool
is_digit b = ltb (digit b) no_digit

-- the character of four digits, the highest first
unfoldable pub character : (a b c d : ℕ) → ℕ
character a b c d = ((digit a * 16 + digit b) * 16 + digit c) * 16 + digit d

-- "one space before each H"
unfoldable pub is_spaced : (x a b c d : ℕ) → Bool
is_spaced x a b c d = eqb x space && is_digit a && is_digit b && is_digit c && is_digit d

-- ONE FORM: `(word H ..)`, `(text H ..)` or `(find H ..)`

-- what follows the head: zero or more times a space and H, then `)` and nothing else
unfoldable pub ends_well : (rest : List ℕ) → Bool
ends_well [] = false
ends_well (x ∷ []) = eqb x closing
ends_well (x ∷ a ∷ []) = false
ends_well (x ∷ a ∷ b ∷ []) = false
ends_well (x ∷ a ∷ b ∷ c ∷ []) = false
ends_well (x ∷ a ∷ b ∷ c ∷ d ∷ bs) = is_spaced x a b c d && ends_well bs

-- the characters in it. "A form may have no H"
unfoldable pub characters : (rest : List ℕ) → List ℕ
characters [] = []
characters (x ∷ []) = []
characters (x ∷ a ∷ []) = []
characters (x ∷ a ∷ b ∷ []) = []
characters (x ∷ a ∷ b ∷ c ∷ []) = []
characters (x ∷ a ∷ b ∷ c ∷ d ∷ bs) = character a b c d ∷ characters bs

-- a line is the form with this head
unfoldable pub is_form : (head line : List ℕ) → Bool
is_form h l = same (take head_length l) h && ends_well (drop head_length l)

unfoldable pub string_in : (line : List ℕ) → List ℕ
string_in l = characters (drop head_length l)

-- THE FORMS: "one form a line, each line ended by LF"

-- a byte put before the first line
unfoldable pub onto_first : (byte : ℕ) → List (List ℕ) → List (List ℕ)
onto_first b [] = (b ∷ []) ∷ []
onto_first b (l ∷ ls) = (b ∷ l) ∷ ls

-- the lines, without their LF, and after them what follows the last LF
unfoldable pub lines : (bytes : List ℕ) → List (List ℕ)
lines [] = [] ∷ []
lines (b ∷ bs) = cond (eqb b line_feed) ([] ∷ lines bs) (onto_first b (lines bs))

-- the strings of the leading lines that are forms with this head; what follows the last LF is no line
unfoldable pub forms : (head : List ℕ) → (lines : List (List ℕ)) → List (List ℕ)
forms h [] = []
forms h (l ∷ []) = []
forms h (l ∷ m ∷ ls) = cond (is_form h l) (string_in l ∷ forms h (m ∷ ls)) []

-- the lines after those forms, and what follows the last LF
unfoldable pub after : (head : List ℕ) → (lines : List (List ℕ)) → List (List ℕ)
after h [] = []
after h (l ∷ []) = l ∷ []
after h (l ∷ m ∷ ls) = cond (is_form h l) (after h (m ∷ ls)) (l ∷ m ∷ ls)

-- no line is left, and no byte after the last LF
unfoldable pub nothing_left : List (List ℕ) → Bool
nothing_left [] = false
nothing_left ([] ∷ []) = true
nothing_left ([] ∷ m ∷ ls) = false
nothing_left ((b ∷ bs) ∷ ls) = false

-- THE SHEET: "zero or more `(word H ..)`, one `(text H ..)`, zero or more `(find H ..)`, in that order [..] nothing else"

unfoldable pub words_on : (sheet : List ℕ) → List (List ℕ)
words_on s = forms word_head (lines s)

unfoldable pub texts_on : (sheet : List ℕ) → List (List ℕ)
texts_on s = forms text_head (after word_head (lines s))

unfoldable pub finds_on : (sheet : List ℕ) → List (List ℕ)
finds_on s = forms find_head (after text_head (after word_head (lines s)))

unfoldable pub left_on : (sheet : List ℕ) → List (List ℕ)
left_on s = after find_head (after text_head (after word_head (lines s)))

unfoldable pub text_on : (sheet : List ℕ) → List ℕ
text_on s = get_or (texts_on s) 0 []

unfoldable pub in_form : (sheet : List ℕ) → Bool
in_form s = eqb (length (texts_on s)) 1 && nothing_left (left_on s)

-- "At most 200 words, 2,000 text characters, 50 finds."
unfoldable pub in_counts : (sheet : List ℕ) → Bool
in_counts s = leb (length (words_on s)) 200 && leb (length (text_on s)) 2000 && leb (length (finds_on s)) 50

-- THE REFUSAL

-- Line 10: "job sheet longer than 32,768 bytes"
unfoldable pub sheet_too_long : (sheet : List ℕ) → Bool
sheet_too_long s = ltb 32768 (length s)

-- Line 11: "job sheet breaks its form or counts"
unfoldable pub sheet_wrong : (sheet : List ℕ) → Bool
sheet_wrong s = not (in_form s && in_counts s)

-- words as a dictionary is lent: "all characters run together and a list of lengths"
unfoldable pub run_together : (words : List (List ℕ)) → List ℕ
run_together [] = []
run_together (w ∷ ws) = w ++ run_together ws

unfoldable pub lengths_of : (words : List (List ℕ)) → List ℕ
lengths_of [] = []
lengths_of (w ∷ ws) = length w ∷ lengths_of ws

-- "Every find is tested": line 6 for one of them
unfoldable pub some_string_wrong : (finds : List (List ℕ)) → Bool
some_string_wrong [] = false
some_string_wrong (s ∷ ss) = string_wrong s || some_string_wrong ss

-- the first line met by the dictionary and then by every find
unfoldable pub contents_refusal : (words finds : List (List ℕ)) → ℕ
contents_refusal ws fs = or_else (dictionary_refusal (run_together ws) (lengths_of ws)) (cond (some_string_wrong fs) 6 0)

-- "The program tests 10, then 11, then the rest."
unfoldable pub sheet_refusal : (sheet : List ℕ) → ℕ
sheet_refusal s =
    cond (sheet_too_long s) 10
    (cond (sheet_wrong s) 11
    (contents_refusal (words_on s) (finds_on s)))
