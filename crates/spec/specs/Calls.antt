-- What each operation answers and leaves in every lent slice: the refusal table and the contracts. Assumes nothing: these are
-- definitions.
use Rattle.std.specs.Prelude.{◌≡◌, Bool, ◌||◌, not, cond, List, ◌++◌, ℕ, ◌*◌, ltb, eqb, length, drop, replicate}
use Rattle.spec.specs.Replaced.{replaced}
use Rattle.spec.specs.Dictionary.{Lexicon, lexicon, dictionary_refusal}
use Rattle.spec.specs.Numbers.{index_of}
use Rattle.spec.specs.Index.{n_of, entries_of, readable}
use Rattle.spec.specs.Reception.{recovered, received}
use Rattle.spec.specs.Search.{find}
use Rattle.spec.specs.First.{first_position}
use Rattle.spec.specs.Cut.{cut_down}
use Rattle.spec.specs.Tally.{tally}
use Rattle.spec.specs.Gaps.{gap_form, restored}
use Rattle.spec.specs.declared.Answer.{Answer}
use Rattle.spec.specs.declared.FirstAnswer.{FirstAnswer}
use Rattle.spec.specs.declared.TallyAnswer.{TallyAnswer}

-- THE LINES OF THE REFUSAL TABLE other than 1 to 3 and 12, which `dictionary_refusal` tests. g is the greatest length of a text: document
-- 01's 65,535 is `longest_text`.

-- Line 4: "text longer than 65,535"
unfoldable pub text_too_long : (g : ℕ) → (text : List ℕ) → Bool
text_too_long g ts = ltb g (length ts)

-- Line 5: "index not readable"
unfoldable pub unreadable : (g : ℕ) → Lexicon → (index : List ℕ) → Bool
unreadable g lex xs = not (readable g lex xs)

-- Line 6: "search string empty or longer than 256"
unfoldable pub string_wrong : (string : List ℕ) → Bool
string_wrong s = eqb (length s) 0 || ltb 256 (length s)

-- Line 7: "work slice, of 16-bit numbers, shorter than 8n of them"
unfoldable pub work_short : (n work : ℕ) → Bool
work_short n w = ltb w (8 * n)

-- Line 8: "output shorter than the whole result"
unfoldable pub output_short : (result output : ℕ) → Bool
output_short r o = ltb o r

-- Line 9: "index readable, but no text has it"
unfoldable pub no_text : (g : ℕ) → Lexicon → (index : List ℕ) → Bool
no_text g lex xs = not (received g lex xs)

-- THE ORDER: "an operation tests only what it is handed", and the number of the first line met is returned. Document 01's order is that of
-- the numbers; 12 is "tested right after 3".

-- the first number, or the second if the first is 0
unfoldable pub or_else : (a b : ℕ) → ℕ
or_else a b = cond (eqb a 0) b a

-- 1 to 3, 12, 4, 7, 8
unfoldable pub build_refusal : (g : ℕ) → (chars lengths text : List ℕ) → (output work : ℕ) → ℕ
build_refusal g cs ls ts o w =
    or_else (dictionary_refusal cs ls)
    (cond (text_too_long g ts) 4
    (cond (work_short (length ts) w) 7
    (cond (output_short (length (index_of (lexicon cs ls) (replaced ts))) o) 8 0)))

-- 1 to 3, 12, 5: what every operation on an index tests first
unfoldable pub index_refusal : (g : ℕ) → (chars lengths index : List ℕ) → ℕ
index_refusal g cs ls xs = or_else (dictionary_refusal cs ls) (cond (unreadable g (lexicon cs ls) xs) 5 0)

-- 1 to 3, 12, 5, 7, 9
unfoldable pub reception_refusal : (g : ℕ) → (chars lengths index : List ℕ) → (work : ℕ) → ℕ
reception_refusal g cs ls xs w =
    or_else (index_refusal g cs ls xs) (cond (work_short (n_of xs) w) 7 (cond (no_text g (lexicon cs ls) xs) 9 0))

-- "for recovery, shorter than n; where no result exists, 8 is not given": 8 only where no line of reception is met
unfoldable pub recovery_refusal : (g : ℕ) → (chars lengths index : List ℕ) → (output work : ℕ) → ℕ
recovery_refusal g cs ls xs o w = or_else (reception_refusal g cs ls xs w) (cond (output_short (n_of xs) o) 8 0)

-- 1 to 3, 12, 5, 6: what every operation on an index and a string tests first
unfoldable pub string_refusal : (g : ℕ) → (chars lengths index string : List ℕ) → ℕ
string_refusal g cs ls xs s = or_else (index_refusal g cs ls xs) (cond (string_wrong s) 6 0)

-- search and the cut-down index, with the length of their result
unfoldable pub find_refusal : (g : ℕ) → (chars lengths index string : List ℕ) → (result output : ℕ) → ℕ
find_refusal g cs ls xs s r o = or_else (string_refusal g cs ls xs s) (cond (output_short r o) 8 0)

-- 1 to 3, 12, 5, 8: the gap form and its inverse, with the index that 5 is tested on and the length of the result
unfoldable pub gaps_refusal : (g : ℕ) → (chars lengths index : List ℕ) → (result output : ℕ) → ℕ
gaps_refusal g cs ls xs r o = or_else (index_refusal g cs ls xs) (cond (output_short r o) 8 0)

-- ANSWERS AND SLICES

-- the first value if no line is met, the second on a refusal
unfoldable pub accepted {ℓ} : {A : Type ℓ} → (refusal : ℕ) → A → A → A
accepted r x y = cond (eqb r 0) x y

-- the number that the table fixes, and the count of an accepted call; on a refusal the count is 0
unfoldable pub Answers : (refusal count : ℕ) → Answer → Type 0
Answers n c r = (r.refusal ≡ n) × (r.count ≡ accepted n c 0)

-- "output past that count is unchanged"
unfoldable pub in_front : (new old : List ℕ) → List ℕ
in_front new old = new ++ drop (length new) old

-- "An accepted call returns the count of numbers written"; "After a refusal every output slice is unchanged."
unfoldable pub Puts : (refusal : ℕ) → (result : List ℕ) → Answer → (out out_now : List ℕ) → Type 0
Puts n xs r o z = Answers n (length xs) r × (z ≡ accepted n (in_front xs o) o)

-- "The work slice is all zeros after every call, refused or not."
unfoldable pub zeros : List ℕ → List ℕ
zeros xs = replicate (length xs) 0

-- THE OPERATIONS. "An accepted call returns the count of numbers written (reception: n; admission: the number of words; tally: M)".
-- Document 02: full-width forms are replaced "in texts and search strings, before anything else"; "the numbers of an index are never
-- replaced".

unfoldable pub AdmitSays : (chars lengths : List ℕ) → Answer → Type 0
AdmitSays cs ls r = Answers (dictionary_refusal cs ls) (length ls) r

unfoldable pub BuildSays : (g : ℕ) → (chars lengths text : List ℕ) → Answer → (out out_now work work_now : List ℕ) → Type 0
BuildSays g cs ls ts r o z w v =
    Puts (build_refusal g cs ls ts (length o) (length w)) (index_of (lexicon cs ls) (replaced ts)) r o z × (v ≡ zeros w)

unfoldable pub ReceiveSays : (g : ℕ) → (chars lengths index : List ℕ) → Answer → (work work_now : List ℕ) → Type 0
ReceiveSays g cs ls xs r w v = Answers (reception_refusal g cs ls xs (length w)) (n_of xs) r × (v ≡ zeros w)

unfoldable pub RecoverSays : (g : ℕ) → (chars lengths index : List ℕ) → Answer → (out out_now work work_now : List ℕ) → Type 0
RecoverSays g cs ls xs r o z w v =
    Puts (recovery_refusal g cs ls xs (length o) (length w)) (recovered (lexicon cs ls) xs) r o z × (v ≡ zeros w)

unfoldable pub SearchSays : (g : ℕ) → (chars lengths index string : List ℕ) → Answer → (out out_now : List ℕ) → Type 0
SearchSays g cs ls xs s r o z =
    let found = find (lexicon cs ls) xs (replaced s) in Puts (find_refusal g cs ls xs s (length found) (length o)) found r o z

unfoldable pub CutSays : (g : ℕ) → (chars lengths index string : List ℕ) → Answer → (out out_now : List ℕ) → Type 0
CutSays g cs ls xs s r o z =
    let cut = cut_down (lexicon cs ls) xs (replaced s) in Puts (find_refusal g cs ls xs s (length cut) (length o)) cut r o z

-- Document 02: "the first found position, or that there is none", which is 0. "No output slice is lent, so 8 cannot occur."
unfoldable pub FirstSays : (g : ℕ) → (chars lengths index string : List ℕ) → FirstAnswer → Type 0
FirstSays g cs ls xs s r =
    let n = string_refusal g cs ls xs s in
    (r.refusal ≡ n) × (r.position ≡ accepted n (first_position (lexicon cs ls) xs (replaced s)) 0)

-- "A refusal gives its number and 32 zeros."
unfoldable pub TallySays : (g : ℕ) → (chars lengths index : List ℕ) → TallyAnswer → Type 0
TallySays g cs ls xs r =
    let n = index_refusal g cs ls xs in
    (r.refusal ≡ n)
    × (r.count ≡ accepted n (entries_of xs) 0)
    × (r.by_length ≡ accepted n (tally (lexicon cs ls) xs) (replicate 32 0))

-- Document 02: "under each key the first position stays and each later one becomes its distance from the one before"
unfoldable pub ToGapsSays : (g : ℕ) → (chars lengths index : List ℕ) → Answer → (out out_now : List ℕ) → Type 0
ToGapsSays g cs ls xs r o z =
    let form = gap_form xs in Puts (gaps_refusal g cs ls xs (length form) (length o)) form r o z

-- "The inverse restores the index exactly [..]. A gap form that restores to no readable index meets 5".
unfoldable pub FromGapsSays : (g : ℕ) → (chars lengths gaps : List ℕ) → Answer → (out out_now : List ℕ) → Type 0
FromGapsSays g cs ls ds r o z =
    let index = restored ds in Puts (gaps_refusal g cs ls index (length index) (length o)) index r o z
