-- What the program prints: numbers, lists of positions, the lines of the answer, and the answer to a job sheet. Assumes nothing:
-- these are definitions.
use Rattle.std.specs.Prelude.{cond, List, [], ◌∷◌, ◌++◌, ℕ, zero, suc, ◌+◌, ◌/◌, ◌%◌, ltb, eqb, length}
use Rattle.spec.specs.Replaced.{replaced}
use Rattle.spec.specs.Dictionary.{Lexicon, lexicon}
use Rattle.spec.specs.Words.{Key}
use Rattle.spec.specs.Numbers.{Line, index_of}
use Rattle.spec.specs.Index.{n_of, keys_of, entries_of, lines_in}
use Rattle.spec.specs.Search.{find}
use Rattle.spec.specs.declared.Answer.{Answer}
use Rattle.spec.specs.Calls.{output_short, accepted, Puts}
use Rattle.spec.specs.JobSheet.{line_feed, space, closing, words_on, text_on, finds_on, run_together, lengths_of, sheet_refusal}

-- NUMBERS: "H below is one character as four upper-case hexadecimal digits; other numbers are decimal."

-- decimal digits, without leading zeros: those of n / 10 unless n is below 10, then the last
unfoldable pub decimal_within : (steps n : ℕ) → List ℕ
decimal_within zero n = []
decimal_within (suc k) n = cond (ltb n 10) [] (decimal_within k (n / 10)) ++ (48 + n % 10) ∷ []

unfoldable pub decimal : ℕ → List ℕ
decimal n = decimal_within (suc n) n

-- the byte of a hexadecimal digit: `0` to `9`, `A` to `F`
unfoldable pub digit_byte : (value : ℕ) → ℕ
digit_byte v = cond (ltb v 10) (48 + v) (55 + v)

unfoldable pub hexadecimal : (character : ℕ) → List ℕ
hexadecimal c = digit_byte (c / 4096 % 16) ∷ digit_byte (c / 256 % 16) ∷ digit_byte (c / 16 % 16) ∷ digit_byte (c % 16) ∷ []

-- HEADS

-- `(index `
abbrev pub index_head : List ℕ
index_head = 40 ∷ 105 ∷ 110 ∷ 100 ∷ 101 ∷ 120 ∷ 32 ∷ []

-- `(key word `
abbrev pub key_word_head : List ℕ
key_word_head = 40 ∷ 107 ∷ 101 ∷ 121 ∷ 32 ∷ 119 ∷ 111 ∷ 114 ∷ 100 ∷ 32 ∷ []

-- `(key lone `
abbrev pub key_lone_head : List ℕ
key_lone_head = 40 ∷ 107 ∷ 101 ∷ 121 ∷ 32 ∷ 108 ∷ 111 ∷ 110 ∷ 101 ∷ 32 ∷ []

-- `(found `
abbrev pub found_head : List ℕ
found_head = 40 ∷ 102 ∷ 111 ∷ 117 ∷ 110 ∷ 100 ∷ 32 ∷ []

-- `(refused `
abbrev pub refused_head : List ℕ
refused_head = 40 ∷ 114 ∷ 101 ∷ 102 ∷ 117 ∷ 115 ∷ 101 ∷ 100 ∷ 32 ∷ []

-- ` `, ` (`, `)` and LF, `))` and LF
abbrev pub gap : List ℕ
gap = space ∷ []

abbrev pub opening_list : List ℕ
opening_list = space ∷ 40 ∷ []

abbrev pub ending : List ℕ
ending = closing ∷ line_feed ∷ []

abbrev pub ending_list : List ℕ
ending_list = closing ∷ closing ∷ line_feed ∷ []

-- LINES. "Each line ends with LF."

-- positions with a space between
unfoldable pub spaced : (positions : List ℕ) → List ℕ
spaced [] = []
spaced (p ∷ []) = decimal p
spaced (p ∷ q ∷ ps) = decimal p ++ gap ++ spaced (q ∷ ps)

-- `(index n K M)`
unfoldable pub index_line : (n k m : ℕ) → List ℕ
index_line n k m = index_head ++ decimal n ++ gap ++ decimal k ++ gap ++ decimal m ++ ending

-- `(key word I (p p ..))`, or `(key lone H (p p ..))`: "with the word number or H of the lone character and the positions"
unfoldable pub key_name : Key → List ℕ
key_name k = cond (eqb k.kind 0) (key_word_head ++ decimal k.value) (key_lone_head ++ hexadecimal k.value)

unfoldable pub key_line : Line → List ℕ
key_line l = key_name l.key_of ++ opening_list ++ spaced l.positions ++ ending_list

-- "a line for each key in order"
unfoldable pub key_lines : List Line → List ℕ
key_lines [] = []
key_lines (l ∷ ls) = key_line l ++ key_lines ls

-- the lines that print an index
unfoldable pub index_lines : (numbers : List ℕ) → List ℕ
index_lines xs = index_line (n_of xs) (keys_of xs) (entries_of xs) ++ key_lines (lines_in xs)

-- `(found C (p p ..))`: "the count and the positions"
unfoldable pub found_line : (positions : List ℕ) → List ℕ
found_line ps = found_head ++ decimal (length ps) ++ opening_list ++ spaced ps ++ ending_list

-- "then for each find", replaced
unfoldable pub found_lines : Lexicon → (numbers : List ℕ) → (finds : List (List ℕ)) → List ℕ
found_lines lex xs [] = []
found_lines lex xs (s ∷ ss) = found_line (find lex xs (replaced s)) ++ found_lines lex xs ss

-- `(refused N)`
unfoldable pub refused_line : (refusal : ℕ) → List ℕ
refused_line r = refused_head ++ decimal r ++ ending

-- THE ANSWER

-- the dictionary on a sheet
unfoldable pub lexicon_on : (sheet : List ℕ) → Lexicon
lexicon_on s = lexicon (run_together (words_on s)) (lengths_of (words_on s))

-- what is printed if nothing is refused; the text is replaced first
abbrev pub answer_lines : Lexicon → (text : List ℕ) → (finds : List (List ℕ)) → List ℕ
answer_lines lex ts fs = let index = index_of lex (replaced ts) in index_lines index ++ found_lines lex index fs

unfoldable pub printed : (sheet : List ℕ) → List ℕ
printed s = answer_lines (lexicon_on s) (text_on s) (finds_on s)

-- "Every find is tested before anything is printed. A refused sheet prints only `(refused N)`."
unfoldable pub job_answer : (sheet : List ℕ) → List ℕ
job_answer s = accepted (sheet_refusal s) (printed s) (refused_line (sheet_refusal s))

-- THE CALL: the answer's bytes at the start of the output, or 8 if it is too short for them. The line of a refused sheet is an answer
-- like any other.
unfoldable pub JobSays : (sheet : List ℕ) → Answer → (out out_now : List ℕ) → Type 0
JobSays s r o z = Puts (cond (output_short (length (job_answer s)) (length o)) 8 0) (job_answer s) r o z
