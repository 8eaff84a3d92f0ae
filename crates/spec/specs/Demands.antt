-- The three demands, as statements about what the public operations and the program are lent and what comes back. `XSays` is the
-- contract of operation X (`Calls`, `JobAnswer`); a statement supposes only that the call satisfies it. Each is a type; its proof is in
-- the crate `laws`. Lists are required to be characters only where that matters: a slice of 16-bit numbers holds nothing else, and the
-- contracts of the three operations concerned say so. g is the greatest length of a text: document 01's demands are `Demands longest_text`.
-- Assumes nothing.
use Rattle.std.specs.Prelude.{◌≡◌, true, List, ℕ, ◌*◌, ◌≤◌, length, take, replicate}
use Rattle.spec.specs.Replaced.{replaced}
use Rattle.spec.specs.Dictionary.{Lexicon, all_chars, lexicon, admitted}
use Rattle.spec.specs.Words.{Key, spells}
use Rattle.spec.specs.Numbers.{index_of}
use Rattle.spec.specs.Index.{n_of, entries_of, readable}
use Rattle.spec.specs.Reception.{recovered}
use Rattle.spec.specs.Search.{find}
use Rattle.spec.specs.First.{first_position}
use Rattle.spec.specs.Cut.{cut_down}
use Rattle.spec.specs.Tally.{tally}
use Rattle.spec.specs.Gaps.{gap_form, restored}
use Rattle.spec.specs.Theorems.{positions, Query}
use Rattle.spec.specs.FurtherTheorems.{Under, TextOf, ExactlyPositions, FirstStands}
use Rattle.spec.specs.Published.{Item, item, maximal_items}
use Rattle.spec.specs.JobAnswer.{JobSays}
use Rattle.spec.specs.Calls.{AdmitSays, BuildSays, ReceiveSays, RecoverSays, SearchSays, CutSays, FirstSays, TallySays}
use Rattle.spec.specs.Calls.{ToGapsSays, FromGapsSays}
use Rattle.spec.specs.RefusalTable.{Written, Untouched, Cleared, HasText, dictionary_rows, build_rows, index_rows, reception_rows}
use Rattle.spec.specs.RefusalTable.{recovery_rows, string_rows, find_rows, Decides, gaps_rows}
use Rattle.spec.specs.ProgramDemand.{Answered}
use Rattle.spec.specs.declared.Answer.{Answer}
use Rattle.spec.specs.declared.FirstAnswer.{FirstAnswer}
use Rattle.spec.specs.declared.TallyAnswer.{TallyAnswer}

-- THE FIRST DEMAND: "Every operation accepts exactly the inputs that no line of the refusal table meets and ends with the stated
-- result; everything else gets the one number that the table fixes. Apart from work space, which is cleared, a refusal changes no
-- lent slice." The number that the table fixes is that of the first line met in the operation's list (`RefusalTable`).

pub record FirstDemand (g : ℕ) : Type 0 where
  pub admits :
      (cs ls : List ℕ) (r : Answer) → AdmitSays cs ls r →
      Decides (dictionary_rows cs ls) r.refusal (r.count ≡ length ls) (r.count ≡ 0)
  pub builds :
      (cs ls ts : List ℕ) (r : Answer) (o z w v : List ℕ) → BuildSays g cs ls ts r o z w v →
      Decides (build_rows g cs ls ts o w) r.refusal (Written (index_of (lexicon cs ls) (replaced ts)) r o z) (Untouched r o z)
      × Cleared w v
  pub receives :
      (cs ls xs : List ℕ) (r : Answer) (w v : List ℕ) → all_chars cs ≡ true → ReceiveSays g cs ls xs r w v →
      Decides (reception_rows g cs ls xs w) r.refusal (r.count ≡ n_of xs) (r.count ≡ 0) × Cleared w v
  pub recovers :
      (cs ls xs : List ℕ) (r : Answer) (o z w v : List ℕ) → all_chars cs ≡ true → RecoverSays g cs ls xs r o z w v →
      Decides (recovery_rows g cs ls xs o w) r.refusal (Written (recovered (lexicon cs ls) xs) r o z) (Untouched r o z) × Cleared w v
  pub searches :
      (cs ls xs s : List ℕ) (r : Answer) (o z : List ℕ) → SearchSays g cs ls xs s r o z →
      let found = find (lexicon cs ls) xs (replaced s) in
      Decides (find_rows g cs ls xs s found o) r.refusal (Written found r o z) (Untouched r o z)
  pub cuts :
      (cs ls xs s : List ℕ) (r : Answer) (o z : List ℕ) → CutSays g cs ls xs s r o z →
      let kept = cut_down (lexicon cs ls) xs (replaced s) in
      Decides (find_rows g cs ls xs s kept o) r.refusal (Written kept r o z) (Untouched r o z)
  pub firsts :
      (cs ls xs s : List ℕ) (r : FirstAnswer) → FirstSays g cs ls xs s r →
      Decides (string_rows g cs ls xs s) r.refusal (r.position ≡ first_position (lexicon cs ls) xs (replaced s)) (r.position ≡ 0)
  pub tallies :
      (cs ls xs : List ℕ) (r : TallyAnswer) → TallySays g cs ls xs r →
      Decides (index_rows g cs ls xs) r.refusal
      ((r.count ≡ entries_of xs) × (r.by_length ≡ tally (lexicon cs ls) xs))
      ((r.count ≡ 0) × (r.by_length ≡ replicate 32 0))
  pub rearranges :
      (cs ls xs : List ℕ) (r : Answer) (o z : List ℕ) → ToGapsSays g cs ls xs r o z →
      let form = gap_form xs in
      Decides (gaps_rows g cs ls xs form o) r.refusal (Written form r o z) (Untouched r o z)
  pub restores :
      (cs ls ds : List ℕ) (r : Answer) (o z : List ℕ) → FromGapsSays g cs ls ds r o z →
      let index = restored ds in
      Decides (gaps_rows g cs ls index index o) r.refusal (Written index r o z) (Untouched r o z)
  pub prints : (s : List ℕ) (r : Answer) (o z : List ℕ) → JobSays s r o z → Answered s r o z

-- THE SECOND DEMAND: "The index built from a text and a dictionary is exactly the complete maximal word index of the published
-- definition, and the same text is recovered from it." From request 2 on "text" is the replaced text.

-- the numbers hold this pair of a word and a position
abbrev pub Holds : Lexicon → (numbers : List ℕ) → Item → Type 0
Holds lex xs i = (k : Key) × (p : ℕ) × Under k p xs × (item (spells lex k) p ≡ i)

-- xs is readable, states the text's length and holds exactly the pairs of source 000's definition 7.
pub record PublishedIndex (g : ℕ) (lex : Lexicon) (ts xs : List ℕ) : Type 0 where
  pub can_read : readable g lex xs ≡ true
  pub n_is : n_of xs ≡ length ts
  pub only : (i : Item) → Holds lex xs i → maximal_items lex ts i
  pub all : (i : Item) → maximal_items lex ts i → Holds lex xs i

-- Reception accepts the numbers whenever it is called with enough work space.
abbrev pub ReceivedFor : (g : ℕ) → (chars lengths index text : List ℕ) → Type 0
ReceivedFor g cs ls xs ts =
    (r : Answer) (w v : List ℕ) → 8 * length ts ≤ length w → ReceiveSays g cs ls xs r w v →
    (r.refusal ≡ 0) × (r.count ≡ length ts)

-- Recovery writes the text whenever it is called with enough work space and output.
abbrev pub RecoveredFor : (g : ℕ) → (chars lengths index text : List ℕ) → Type 0
RecoveredFor g cs ls xs ts =
    (r : Answer) (o z w v : List ℕ) → 8 * length ts ≤ length w → length ts ≤ length o → RecoverSays g cs ls xs r o z w v →
    (r.refusal ≡ 0) × Written ts r o z

-- What an accepted call of building wrote, ts being the replaced text.
pub record Built (g : ℕ) (cs ls ts xs : List ℕ) : Type 0 where
  pub published : PublishedIndex g (lexicon cs ls) ts xs
  pub only_one : (ys : List ℕ) → PublishedIndex g (lexicon cs ls) ts ys → ys ≡ xs
  pub is_received : ReceivedFor g cs ls xs ts
  pub is_recovered : RecoveredFor g cs ls xs ts

unfoldable pub SecondDemand : (g : ℕ) → Type 0
SecondDemand g =
    (cs ls ts : List ℕ) (r : Answer) (o z w v : List ℕ) → all_chars cs ≡ true → all_chars ts ≡ true →
    BuildSays g cs ls ts r o z w v → r.refusal ≡ 0 → Built g cs ls (replaced ts) (take r.count z)

-- THE THIRD DEMAND: "Whatever numbers are delivered, they pass reception exactly when some text of their stated length has them as
-- its index, and that text is the only one. Any string of 1 to 256 characters is then searched for without the text, and exactly
-- its positions come back, each once, ascending; from the cut-down index too."

-- Every search of the numbers for s with enough output accepts, and writes exactly the positions at which s, replaced, stands in ts.
abbrev pub FoundFor : (g : ℕ) → (chars lengths index text string : List ℕ) → Type 0
FoundFor g cs ls xs ts s =
    let found = positions (replaced s) ts in
    (r : Answer) (o z : List ℕ) → length found ≤ length o → SearchSays g cs ls xs s r o z →
    (r.refusal ≡ 0) × Written found r o z × ExactlyPositions (replaced s) ts (take r.count z)

-- Every call of first for s accepts, and answers the first position at which s, replaced, stands in ts, 0 if it stands nowhere.
abbrev pub FirstFor : (g : ℕ) → (chars lengths index text string : List ℕ) → Type 0
FirstFor g cs ls xs ts s =
    (r : FirstAnswer) → FirstSays g cs ls xs s r → (r.refusal ≡ 0) × FirstStands (replaced s) ts r.position

-- Every call of cut for s with enough output accepts and writes the cut-down index; on it, search and first for s answer as above.
abbrev pub CutFor : (g : ℕ) → (chars lengths index text string : List ℕ) → Type 0
CutFor g cs ls xs ts s =
    let kept = cut_down (lexicon cs ls) xs (replaced s) in
    (r : Answer) (o z : List ℕ) → length kept ≤ length o → CutSays g cs ls xs s r o z →
    (r.refusal ≡ 0) × Written kept r o z × FoundFor g cs ls (take r.count z) ts s × FirstFor g cs ls (take r.count z) ts s

-- What holds for numbers xs that are the index of text ts. `accepted_cut` requires nothing of the output: a call that answers 0 is
-- enough.
pub record Delivered (g : ℕ) (cs ls xs ts : List ℕ) : Type 0 where
  pub text : TextOf g (lexicon cs ls) xs ts
  pub only_text : (us : List ℕ) → TextOf g (lexicon cs ls) xs us → us ≡ ts
  pub is_recovered : RecoveredFor g cs ls xs ts
  pub searched : (s : List ℕ) → Query s → FoundFor g cs ls xs ts s
  pub first : (s : List ℕ) → Query s → FirstFor g cs ls xs ts s
  pub cut : (s : List ℕ) → Query s → CutFor g cs ls xs ts s
  pub accepted_cut :
      (s : List ℕ) → Query s → (r : Answer) (o z : List ℕ) → CutSays g cs ls xs s r o z → r.refusal ≡ 0 →
      FoundFor g cs ls (take r.count z) ts s × FirstFor g cs ls (take r.count z) ts s

-- Reception, called with enough work space, accepts exactly if the dictionary is admitted and some text has the numbers as its index.
-- Then they are readable, and every guarantee of `Delivered` holds for them.
unfoldable pub ThirdDemand : (g : ℕ) → Type 0
ThirdDemand g =
    (cs ls xs : List ℕ) (r : Answer) (w v : List ℕ) → all_chars cs ≡ true → 8 * n_of xs ≤ length w → ReceiveSays g cs ls xs r w v →
    (admitted cs ls ≡ true → HasText g (lexicon cs ls) xs → r.refusal ≡ 0)
    × (r.refusal ≡ 0 →
    (admitted cs ls ≡ true) × (readable g (lexicon cs ls) xs ≡ true) × ((ts : List ℕ) × Delivered g cs ls xs ts))

-- THE THREE

pub record Demands (g : ℕ) : Type 0 where
  pub first : FirstDemand g
  pub second : SecondDemand g
  pub third : ThirdDemand g
