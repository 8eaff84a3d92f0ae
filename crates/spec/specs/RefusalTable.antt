-- The lines of the refusal table as facts about what is lent, the lines that each operation tests, and what a call leaves. Assumes
-- nothing: these are definitions.
use Rattle.std.specs.Prelude.{◌≡◌, true, false, ◌⊎◌, List, [], ◌∷◌, ◌++◌, ℕ, ◌*◌, ◌≤◌, ◌<◌, length, take, drop, replicate}
use Rattle.basics.specs.Member.{In}
use Rattle.spec.specs.Replaced.{first_form, last_form, replaced}
use Rattle.spec.specs.Dictionary.{Lexicon, lexicon, total, words_from, ascend}
use Rattle.spec.specs.Numbers.{index_of}
use Rattle.spec.specs.Index.{n_of, readable}
use Rattle.spec.specs.FurtherTheorems.{TextOf}
use Rattle.spec.specs.declared.Answer.{Answer}

-- WHAT COMES BACK

-- The result is at the start of the output, the count is its length, and "output past that count is unchanged".
pub record Written (result : List ℕ) (r : Answer) (out out_now : List ℕ) : Type 0 where
  pub count : r.count ≡ length result
  pub front : take r.count out_now ≡ result
  pub rest : drop r.count out_now ≡ drop r.count out
  pub len : length out_now ≡ length out

-- "After a refusal every output slice is unchanged."
pub record Untouched (r : Answer) (out out_now : List ℕ) : Type 0 where
  pub count : r.count ≡ 0
  pub same : out_now ≡ out

-- "The work slice is all zeros after every call, refused or not."
abbrev pub Cleared : (work work_now : List ℕ) → Type 0
Cleared w v = v ≡ replicate (length w) 0

-- THE REFUSAL TABLE, each line as a fact about what is lent; g is the greatest length of a text

-- 1: "more than 4,096 words or 65,535 dictionary characters"
abbrev pub TooLarge : (chars lengths : List ℕ) → Type 0
TooLarge cs ls = (4096 < length ls) ⊎ (65535 < length cs)

-- 2: "a word length is 0 or above 32, or the lengths do not add up to the characters lent"
abbrev pub LengthsWrong : (chars lengths : List ℕ) → Type 0
LengthsWrong cs ls = ((l : ℕ) × In l ls × ((l ≡ 0) ⊎ (32 < l))) ⊎ (total ls ≡ length cs → ⊥)

-- 3: "words do not ascend strictly"
abbrev pub Disordered : (chars lengths : List ℕ) → Type 0
Disordered cs ls = ascend (words_from ls cs) ≡ false

-- 12: "a word holds a character from FF01 to FF5E"
abbrev pub Unreplaced : (chars lengths : List ℕ) → Type 0
Unreplaced cs ls = (w : List ℕ) × In w (words_from ls cs) × ((c : ℕ) × In c w × ((first_form ≤ c) × (c ≤ last_form)))

-- 4: "text longer than 65,535"
abbrev pub TextTooLong : (g : ℕ) → (text : List ℕ) → Type 0
TextTooLong g ts = g < length ts

-- 5: "index not readable"
abbrev pub Unreadable : (g : ℕ) → Lexicon → (index : List ℕ) → Type 0
Unreadable g lex xs = readable g lex xs ≡ false

-- 6: "search string empty or longer than 256"
abbrev pub StringWrong : (string : List ℕ) → Type 0
StringWrong s = (length s ≡ 0) ⊎ (256 < length s)

-- 7: "work slice, of 16-bit numbers, shorter than 8n of them"
abbrev pub WorkShort : (n : ℕ) → (work : List ℕ) → Type 0
WorkShort n w = length w < 8 * n

-- 8: "output shorter than the whole result"
abbrev pub OutputShort : (result out : List ℕ) → Type 0
OutputShort xs o = length o < length xs

-- some text of the stated length has these numbers as its index
abbrev pub HasText : (g : ℕ) → Lexicon → (index : List ℕ) → Type 0
HasText g lex xs = (ts : List ℕ) × TextOf g lex xs ts

-- 8 of recovery: "for recovery, shorter than n; where no result exists, 8 is not given"
abbrev pub RecoveryShort : (g : ℕ) → Lexicon → (index out : List ℕ) → Type 0
RecoveryShort g lex xs o = (length o < n_of xs) × HasText g lex xs

-- 9: "index readable, but no text has it"
abbrev pub NoText : (g : ℕ) → Lexicon → (index : List ℕ) → Type 0
NoText g lex xs = (readable g lex xs ≡ true) × (HasText g lex xs → ⊥)

-- a line of the table, "Returned" and "Exactly when"
pub record Row : Type 1 where
  pub returned : ℕ
  pub when : Type 0

abbrev pub row : (returned : ℕ) → (when : Type 0) → Row
row n fact = record { returned = n; when = fact }

-- THE LINES OF EACH OPERATION, in the order in which they are tested: "an operation tests only what it is handed". 12 is "tested right
-- after 3".
abbrev pub dictionary_rows : (chars lengths : List ℕ) → List Row
dictionary_rows cs ls =
    row 1 (TooLarge cs ls) ∷ row 2 (LengthsWrong cs ls) ∷ row 3 (Disordered cs ls) ∷ row 12 (Unreplaced cs ls) ∷ []

abbrev pub build_rows : (g : ℕ) → (chars lengths text out work : List ℕ) → List Row
build_rows g cs ls ts o w =
    dictionary_rows cs ls
    ++ (row 4 (TextTooLong g ts) ∷ row 7 (WorkShort (length ts) w)
    ∷ row 8 (OutputShort (index_of (lexicon cs ls) (replaced ts)) o) ∷ [])

abbrev pub index_rows : (g : ℕ) → (chars lengths index : List ℕ) → List Row
index_rows g cs ls xs = dictionary_rows cs ls ++ (row 5 (Unreadable g (lexicon cs ls) xs) ∷ [])

abbrev pub reception_rows : (g : ℕ) → (chars lengths index work : List ℕ) → List Row
reception_rows g cs ls xs w =
    index_rows g cs ls xs ++ (row 7 (WorkShort (n_of xs) w) ∷ row 9 (NoText g (lexicon cs ls) xs) ∷ [])

abbrev pub recovery_rows : (g : ℕ) → (chars lengths index out work : List ℕ) → List Row
recovery_rows g cs ls xs o w = reception_rows g cs ls xs w ++ (row 8 (RecoveryShort g (lexicon cs ls) xs o) ∷ [])

abbrev pub string_rows : (g : ℕ) → (chars lengths index string : List ℕ) → List Row
string_rows g cs ls xs s = index_rows g cs ls xs ++ (row 6 (StringWrong s) ∷ [])

abbrev pub find_rows : (g : ℕ) → (chars lengths index string result out : List ℕ) → List Row
find_rows g cs ls xs s found o = string_rows g cs ls xs s ++ (row 8 (OutputShort found o) ∷ [])

abbrev pub gaps_rows : (g : ℕ) → (chars lengths index result out : List ℕ) → List Row
gaps_rows g cs ls xs ys o = index_rows g cs ls xs ++ (row 8 (OutputShort ys o) ∷ [])

-- WHAT IS DECIDED

-- the line with number n is one of these, and is met
abbrev pub Meets : List Row → (n : ℕ) → Type 0
Meets [] n = ⊥
Meets (l ∷ ls) n = ((l.returned ≡ n) × l.when) ⊎ Meets ls n

-- no line is met: the answer is 0, and `ends` holds
pub record Accepts (rows : List Row) (n : ℕ) (ends : Type 0) : Type 0 where
  pub none_met : (k : ℕ) → Meets rows k → ⊥
  pub number : n ≡ 0
  pub result : ends

-- the line with number n is met, and no line before it is
abbrev pub FirstMet : List Row → (n : ℕ) → Type 0
FirstMet [] n = ⊥
FirstMet (l ∷ ls) n = (l.when × (l.returned ≡ n)) ⊎ ((l.when → ⊥) × FirstMet ls n)

-- the number of the first line met is returned, and `ends` holds
pub record Refuses (rows : List Row) (n : ℕ) (ends : Type 0) : Type 0 where
  pub first : FirstMet rows n
  pub number : n ≡ 0 → ⊥
  pub result : ends

-- Exactly one of the two: in the first the number is 0, in the second it is not.
abbrev pub Decides : List Row → (n : ℕ) → (accepted refused : Type 0) → Type 0
Decides rows n result unchanged = Accepts rows n result ⊎ Refuses rows n unchanged
