-- The theorems about the gap form, for any lexicon and numbers, and about the calls of to_gaps and from_gaps. Each statement is a type;
-- its proof is in the crate `laws`. Assumes nothing.
use Rattle.std.specs.Prelude.{◌≡◌, true, false, List, [], ◌∷◌, ℕ, suc, ◌-◌, ◌≤◌, ◌<◌, length, get_or, take}
use Rattle.spec.specs.Dictionary.{Lexicon, lexicon, dictionary_refusal, admitted}
use Rattle.spec.specs.Numbers.{Line, line, numbers}
use Rattle.spec.specs.Index.{n_of, lines_in, readable}
use Rattle.spec.specs.Gaps.{gaps, gap_form, restored}
use Rattle.spec.specs.Calls.{ToGapsSays, FromGapsSays}
use Rattle.spec.specs.declared.Answer.{Answer}

-- ONE LIST

pub record GapList : Type 0 where
  -- "the first position stays"
  pub first : (ps : List ℕ) → get_or (gaps ps) 0 0 ≡ get_or ps 0 0
  -- "each later one becomes its distance from the one before"
  pub later : (ps : List ℕ) (i : ℕ) → suc i < length ps → get_or (gaps ps) (suc i) 0 ≡ get_or ps (suc i) 0 - get_or ps i 0
  pub same_len : (ps : List ℕ) → length (gaps ps) ≡ length ps

-- THE FORM OF AN INDEX

-- lines with their keys unchanged and f applied to each list
unfoldable pub lines_with : (f : List ℕ → List ℕ) → List Line → List Line
lines_with f [] = []
lines_with f (l ∷ ls) = line l.key_of (f l.positions) ∷ lines_with f ls

-- The gap form of a readable index has its n and its keys, with each key's gaps in place of its positions.
unfoldable pub GapsUnderKeys : (g : ℕ) → Type 0
GapsUnderKeys g =
    (lex : Lexicon) (xs : List ℕ) → readable g lex xs ≡ true → gap_form xs ≡ numbers (n_of xs) (lines_with gaps (lines_in xs))

-- THERE AND BACK

pub record GapsThereAndBack (g : ℕ) : Type 0 where
  -- "The rearranged slice has the same length."
  pub same_len : (xs : List ℕ) → length (gap_form xs) ≡ length xs
  pub same_len_back : (ds : List ℕ) → length (restored ds) ≡ length ds
  -- "The inverse restores the index exactly"
  pub exactly : (lex : Lexicon) (xs : List ℕ) → readable g lex xs ≡ true → restored (gap_form xs) ≡ xs
  -- "every gap form whose restored form is readable comes back unchanged": so do all numbers, readable or not
  pub unchanged : (ds : List ℕ) → gap_form (restored ds) ≡ ds
  -- What restores to a readable index is the gap form of exactly one; so 5 meets exactly what is the gap form of none.
  pub only :
      (lex : Lexicon) (ds : List ℕ) → readable g lex (restored ds) ≡ true →
      (xs : List ℕ) × (readable g lex xs ≡ true) × (gap_form xs ≡ ds)
  pub all : (lex : Lexicon) (xs : List ℕ) → readable g lex xs ≡ true → readable g lex (restored (gap_form xs)) ≡ true
  pub one : (lex : Lexicon) (xs ys : List ℕ) → readable g lex xs ≡ true → readable g lex ys ≡ true → gap_form xs ≡ gap_form ys → xs ≡ ys

-- No sum wraps: with an admitted dictionary, numbers of at most e that restore to an index readable for texts of at most e characters
-- restore to numbers of at most e.
unfoldable pub SumsFit : Type 0
SumsFit =
    (e : ℕ) (cs ls ds : List ℕ) → admitted cs ls ≡ true → readable e (lexicon cs ls) (restored ds) ≡ true →
    ((i : ℕ) → get_or ds i 0 ≤ e) → (i : ℕ) → get_or (restored ds) i 0 ≤ e

-- OVER THE CALLS. `XSays` is the contract of operation X.

pub record GapCalls (g : ℕ) : Type 0 where
  -- From what an accepted call of to_gaps wrote, every call of from_gaps with enough output restores the index.
  pub restores :
      (cs ls xs : List ℕ) (r s : Answer) (o z p q : List ℕ) → ToGapsSays g cs ls xs r o z → r.refusal ≡ 0 →
      length xs ≤ length p → FromGapsSays g cs ls (take r.count z) s p q →
      (s.refusal ≡ 0) × (s.count ≡ length xs) × (take s.count q ≡ xs)
  -- From what an accepted call of from_gaps wrote, every call of to_gaps with enough output gives the gap form back.
  pub comes_back :
      (cs ls ds : List ℕ) (r s : Answer) (o z p q : List ℕ) → FromGapsSays g cs ls ds r o z → r.refusal ≡ 0 →
      length ds ≤ length p → ToGapsSays g cs ls (take r.count z) s p q →
      (s.refusal ≡ 0) × (s.count ≡ length ds) × (take s.count q ≡ ds)
  -- "A gap form that restores to no readable index meets 5"; with an admitted dictionary, nothing else does.
  pub five :
      (cs ls ds : List ℕ) (r : Answer) (o z : List ℕ) → dictionary_refusal cs ls ≡ 0 → FromGapsSays g cs ls ds r o z →
      (readable g (lexicon cs ls) (restored ds) ≡ false → r.refusal ≡ 5)
      × (r.refusal ≡ 5 → readable g (lexicon cs ls) (restored ds) ≡ false)
