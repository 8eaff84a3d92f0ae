-- The theorems about the first found position, for any lexicon and numbers, and about the calls of first. Each statement is a type; its
-- proof is in the crate `laws`. Assumes nothing.
use Rattle.std.specs.Prelude.{◌≡◌, true, ◌⊎◌, List, [], ℕ, ◌+◌, ◌-◌, ◌≤◌, length, take}
use Rattle.basics.specs.Member.{In}
use Rattle.spec.specs.Dictionary.{Lexicon, lexicon}
use Rattle.spec.specs.Words.{Key}
use Rattle.spec.specs.Index.{n_of, readable}
use Rattle.spec.specs.Search.{find}
use Rattle.spec.specs.First.{first_of, first_position, index_to}
use Rattle.spec.specs.Calls.{SearchSays, CutSays, FirstSays}
use Rattle.spec.specs.FurtherTheorems.{Under}
use Rattle.spec.specs.declared.Answer.{Answer}
use Rattle.spec.specs.declared.FirstAnswer.{FirstAnswer}

-- THE HEAD OF THE LIST

-- p is the least of the positions ps, 0 if there is none.
pub record IsFirst (ps : List ℕ) (p : ℕ) : Type 0 where
  pub none : p ≡ 0 → ps ≡ []
  pub empty : ps ≡ [] → p ≡ 0
  pub among : 1 ≤ p → In p ps
  pub least : (a : ℕ) → In a ps → p ≤ a

-- Document 02: "the first found position, or that there is none. It must equal the head of the full list."
unfoldable pub FirstHeads : Type 0
FirstHeads = (lex : Lexicon) (xs s : List ℕ) → IsFirst (find lex xs s) (first_position lex xs s)

-- THE INDEX UP TO A POSITION

-- ys is readable, and has the n of xs and exactly its entries that start at or before q.
pub record KeptTo (g : ℕ) (lex : Lexicon) (q : ℕ) (xs ys : List ℕ) : Type 0 where
  pub can_read : readable g lex ys ≡ true
  pub n_is : n_of ys ≡ n_of xs
  pub only : (k : Key) (b : ℕ) → Under k b ys → Under k b xs × (b ≤ q)
  pub all : (k : Key) (b : ℕ) → Under k b xs → b ≤ q → Under k b ys

-- Document 02: "the index without its entries that start after p + m − 1 (keys left empty are dropped)"; for any position q, and it is
-- the only such slice.
unfoldable pub IndexTo : (g : ℕ) → Type 0
IndexTo g =
    (lex : Lexicon) (xs : List ℕ) (q : ℕ) → readable g lex xs ≡ true →
    KeptTo g lex q xs (index_to q xs) × ((ys : List ℕ) → KeptTo g lex q xs ys → ys ≡ index_to q xs)

-- WHERE A READER MAY STOP

-- Two slices have one n and the same entries that start at or before q.
pub record SameTo (q : ℕ) (xs ys : List ℕ) : Type 0 where
  pub n_is : n_of xs ≡ n_of ys
  pub there : (k : Key) (b : ℕ) → b ≤ q → Under k b xs → Under k b ys
  pub back : (k : Key) (b : ℕ) → b ≤ q → Under k b ys → Under k b xs

-- A first position p depends on n and on the entries that start at or before p + m − 1, and on nothing else.
unfoldable pub FirstLocal : Type 0
FirstLocal =
    (lex : Lexicon) (xs ys s : List ℕ) →
    let p = first_position lex xs s in 1 ≤ p → SameTo (p + length s - 1) xs ys → first_position lex ys s ≡ p

-- Document 02: "When it finds p for a string of length m, the same answer must come from the index without its entries that start
-- after p + m − 1 (keys left empty are dropped), so the reader may stop there."
unfoldable pub FirstKept : (g : ℕ) → Type 0
FirstKept g =
    (lex : Lexicon) (xs s : List ℕ) → readable g lex xs ≡ true →
    let p = first_position lex xs s in 1 ≤ p →
    let kept = index_to (p + length s - 1) xs in (readable g lex kept ≡ true) × (first_position lex kept s ≡ p)

-- OVER THE CALLS, of any index and string. `XSays` is the contract of operation X.

pub record FirstCalls (g : ℕ) : Type 0 where
  -- "It must equal the head of the full list."
  pub heads_search :
      (cs ls xs s : List ℕ) (f : FirstAnswer) (r : Answer) (o z : List ℕ) → FirstSays g cs ls xs s f → SearchSays g cs ls xs s r o z →
      r.refusal ≡ 0 → (f.refusal ≡ 0) × (f.position ≡ first_of (take r.count z))
  -- "No output slice is lent, so 8 cannot occur": first answers the number that a search answers, or 0 where that is 8.
  pub refuses_as_search :
      (cs ls xs s : List ℕ) (f : FirstAnswer) (r : Answer) (o z : List ℕ) → FirstSays g cs ls xs s f → SearchSays g cs ls xs s r o z →
      (f.refusal ≡ r.refusal) ⊎ ((f.refusal ≡ 0) × (r.refusal ≡ 8))
  pub never_eight : (cs ls xs s : List ℕ) (f : FirstAnswer) → FirstSays g cs ls xs s f → f.refusal ≡ 8 → ⊥
  -- Any readable slice with the same n and the same entries that start at or before p + m − 1 gives the same answer.
  pub from_same :
      (cs ls xs ys s : List ℕ) (f h : FirstAnswer) → FirstSays g cs ls xs s f → 1 ≤ f.position →
      readable g (lexicon cs ls) ys ≡ true → SameTo (f.position + length s - 1) xs ys → FirstSays g cs ls ys s h →
      (h.refusal ≡ 0) × (h.position ≡ f.position)
  -- "the same answer must come from the index without its entries that start after p + m − 1"
  pub from_kept :
      (cs ls xs s : List ℕ) (f h : FirstAnswer) → FirstSays g cs ls xs s f → 1 ≤ f.position →
      FirstSays g cs ls (index_to (f.position + length s - 1) xs) s h → (h.refusal ≡ 0) × (h.position ≡ f.position)
  -- What an accepted call of cut wrote gives the same answer.
  pub from_cut :
      (cs ls xs s : List ℕ) (f h : FirstAnswer) (r : Answer) (o z : List ℕ) → FirstSays g cs ls xs s f → CutSays g cs ls xs s r o z →
      r.refusal ≡ 0 → FirstSays g cs ls (take r.count z) s h → (h.refusal ≡ 0) × (h.position ≡ f.position)
