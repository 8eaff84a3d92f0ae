-- The theorems about indexes, reception and search. Each statement is a type; its proof is in the crate `laws`. Each is about replaced
-- texts of up to any greatest length g, 65,535 for indexes of 16-bit numbers, and about any search string, which is replaced. Assumes
-- nothing.
use Rattle.std.specs.Prelude.{◌≡◌, Bool, true, false, ◌||◌, cond, List, [], ◌∷◌, ℕ, zero, suc, ◌≤◌, length}
use Rattle.spec.specs.Replaced.{replaced}
use Rattle.spec.specs.Dictionary.{all_chars, is_text, lexicon, total, admitted}
use Rattle.spec.specs.Words.{stands, Entry, entries}
use Rattle.spec.specs.Numbers.{index_of}
use Rattle.spec.specs.Index.{n_of, entries_of, readable}
use Rattle.spec.specs.Reception.{lies_on, recovered, received}
use Rattle.spec.specs.Search.{find}
use Rattle.spec.specs.Cut.{cut_down}
use Rattle.spec.specs.Tally.{tally}

-- the positions from p on at which a string stands in a text
unfoldable pub positions_from : (left p : ℕ) → (string text : List ℕ) → List ℕ
positions_from zero p s ts = []
positions_from (suc n) p s ts = cond (stands s ts p) (p ∷ positions_from n (suc p) s ts) (positions_from n (suc p) s ts)

-- the positions at which a string stands in a text, ascending
unfoldable pub positions : (string text : List ℕ) → List ℕ
positions s ts = positions_from (length ts) 1 s ts

-- A search string that does not meet line 6.
pub record Query (s : List ℕ) : Type 0 where
  pub chars : all_chars s ≡ true
  pub nonempty : 1 ≤ length s
  pub short : length s ≤ 256

-- THE THIRD DEMAND

-- Whatever numbers are delivered, they pass reception exactly when some text of their stated length has them as its index.
unfoldable pub ReceivedExactly : (g : ℕ) → Type 0
ReceivedExactly g =
    (cs ls xs : List ℕ) → admitted cs ls ≡ true →
    (received g (lexicon cs ls) xs ≡ true →
    (ts : List ℕ) × (is_text g ts ≡ true) × (length ts ≡ n_of xs) × (index_of (lexicon cs ls) ts ≡ xs))
    × ((ts : List ℕ) → is_text g ts ≡ true → length ts ≡ n_of xs → index_of (lexicon cs ls) ts ≡ xs →
    received g (lexicon cs ls) xs ≡ true)

-- That text is the only one.
unfoldable pub OneText : (g : ℕ) → Type 0
OneText g =
    (cs ls ts us : List ℕ) → admitted cs ls ≡ true → is_text g ts ≡ true → is_text g us ≡ true →
    index_of (lexicon cs ls) ts ≡ index_of (lexicon cs ls) us → ts ≡ us

-- The search of an index gives exactly the positions where the replaced string stands in the text.
unfoldable pub SearchExact : (g : ℕ) → Type 0
SearchExact g =
    (cs ls ts s : List ℕ) → admitted cs ls ≡ true → is_text g ts ≡ true → Query s →
    find (lexicon cs ls) (index_of (lexicon cs ls) ts) (replaced s) ≡ positions (replaced s) ts

-- So does the search of the cut-down index, which is readable.
unfoldable pub CutSame : (g : ℕ) → Type 0
CutSame g =
    (cs ls ts s : List ℕ) → admitted cs ls ≡ true → is_text g ts ≡ true → Query s →
    let cut = cut_down (lexicon cs ls) (index_of (lexicon cs ls) ts) (replaced s) in
    (readable g (lexicon cs ls) cut ≡ true) × (find (lexicon cs ls) cut (replaced s) ≡ positions (replaced s) ts)

-- THE SECOND DEMAND

-- The index is readable, and the same text is recovered from it.
unfoldable pub Recovers : (g : ℕ) → Type 0
Recovers g =
    (cs ls ts : List ℕ) → admitted cs ls ≡ true → is_text g ts ≡ true →
    (readable g (lexicon cs ls) (index_of (lexicon cs ls) ts) ≡ true)
    × (recovered (lexicon cs ls) (index_of (lexicon cs ls) ts) ≡ ts)

-- p lies on an entry of the list
unfoldable pub covers_position : (p : ℕ) → List Entry → Bool
covers_position p [] = false
covers_position p (e ∷ es) = lies_on e.at e.len p || covers_position p es

-- Every position of a text lies in some entry of its index.
unfoldable pub AllCovered : (g : ℕ) → Type 0
AllCovered g =
    (cs ls ts : List ℕ) (p : ℕ) → admitted cs ls ≡ true → is_text g ts ≡ true → 1 ≤ p → p ≤ length ts →
    covers_position p (entries (lexicon cs ls) ts) ≡ true

-- THE TALLY: "Their sum is M."
unfoldable pub TallySums : (g : ℕ) → Type 0
TallySums g =
    (cs ls xs : List ℕ) → admitted cs ls ≡ true → readable g (lexicon cs ls) xs ≡ true →
    total (tally (lexicon cs ls) xs) ≡ entries_of xs
