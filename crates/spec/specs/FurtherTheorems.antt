-- Statements beyond those of `Theorems`: the third demand as one statement over delivered numbers, and sentences of document 01 that
-- `Theorems` does not state as a type. Each is a type; its proof is in the crate `laws`. Assumes nothing.
use Rattle.std.specs.Prelude.{◌≡◌, true, false, List, ℕ, ◌≤◌, ◌<◌, ltb, ℤ, length, get_or}
use Rattle.basics.specs.Member.{In}
use Rattle.basics.specs.Order.{Ascend}
use Rattle.spec.specs.Replaced.{replaced, holds_full_width}
use Rattle.spec.specs.Dictionary.{Lexicon, all_chars, is_text, lexicon, admitted}
use Rattle.spec.specs.Words.{Key, stands, Entry, entries}
use Rattle.spec.specs.Numbers.{Line, index_of}
use Rattle.spec.specs.Index.{n_of, entries_of, lines_in, readable}
use Rattle.spec.specs.Reception.{recovered, received}
use Rattle.spec.specs.Search.{in_offsets, agrees_at, find}
use Rattle.spec.specs.First.{first_position}
use Rattle.spec.specs.Cut.{bears, cut_down}
use Rattle.spec.specs.Theorems.{positions, Query}

-- THE INDEX

-- the entry of key k at position p is in a list of entries
unfoldable pub Among : Key → (p : ℕ) → List Entry → Type 0
Among k p es = (e : Entry) × In e es × (e.key_of ≡ k) × (e.at ≡ p)

-- the entry of key k at position p is in an index: p is a position under k
unfoldable pub Under : Key → (p : ℕ) → (numbers : List ℕ) → Type 0
Under k p xs = (l : Line) × In l (lines_in xs) × (l.key_of ≡ k) × In p l.positions

-- A readable slice "with the text's n and exactly the entries of its complete maximal word index".
pub record Tells (g : ℕ) (lex : Lexicon) (ts xs : List ℕ) : Type 0 where
  pub can_read : readable g lex xs ≡ true
  pub n_is : n_of xs ≡ length ts
  pub only : (k : Key) (p : ℕ) → Under k p xs → Among k p (entries lex ts)
  pub all : (k : Key) (p : ℕ) → Among k p (entries lex ts) → Under k p xs

-- "As numbers, a text's index is the one readable slice, by the rules that follow, with the text's n and exactly the entries of its
-- complete maximal word index; the same entries in another order are not its index."
unfoldable pub OnlyReadable : (g : ℕ) → Type 0
OnlyReadable g =
    (cs ls ts : List ℕ) → admitted cs ls ≡ true → is_text g ts ≡ true →
    Tells g (lexicon cs ls) ts (index_of (lexicon cs ls) ts)
    × ((xs : List ℕ) → Tells g (lexicon cs ls) ts xs → xs ≡ index_of (lexicon cs ls) ts)

-- THE THIRD DEMAND, AS ONE STATEMENT OVER DELIVERED NUMBERS

-- ts is a text of the stated length that has these numbers as its index.
pub record TextOf (g : ℕ) (lex : Lexicon) (xs ts : List ℕ) : Type 0 where
  pub is_a_text : is_text g ts ≡ true
  pub length_is : length ts ≡ n_of xs
  pub index_is : index_of lex ts ≡ xs

-- The positions ps are exactly those at which s stands in ts, ascending strictly, each once.
pub record ExactlyPositions (s ts ps : List ℕ) : Type 0 where
  pub are_positions : ps ≡ positions s ts
  pub only : (p : ℕ) → In p ps → stands s ts p ≡ true
  pub all : (p : ℕ) → stands s ts p ≡ true → In p ps
  pub ascending : Ascend ltb ps
  pub once : (i j : ℕ) → i < length ps → j < length ps → get_or ps i 0 ≡ get_or ps j 0 → i ≡ j

-- p is the first position at which s stands in ts, 0 if it stands nowhere.
pub record FirstStands (s ts : List ℕ) (p : ℕ) : Type 0 where
  pub none : p ≡ 0 → (a : ℕ) → stands s ts a ≡ false
  pub nowhere : ((a : ℕ) → stands s ts a ≡ false) → p ≡ 0
  pub at_it : 1 ≤ p → stands s ts p ≡ true
  pub least : (a : ℕ) → stands s ts a ≡ true → p ≤ a

-- What holds for numbers xs that are the index of text ts. A search string is replaced first.
pub record Serves (g : ℕ) (lex : Lexicon) (xs ts : List ℕ) : Type 0 where
  pub text : TextOf g lex xs ts
  pub only_text : (us : List ℕ) → TextOf g lex xs us → us ≡ ts
  pub search_exact : (s : List ℕ) → Query s → ExactlyPositions (replaced s) ts (find lex xs (replaced s))
  pub cut_readable : (s : List ℕ) → Query s → readable g lex (cut_down lex xs (replaced s)) ≡ true
  pub cut_exact :
      (s : List ℕ) → Query s → ExactlyPositions (replaced s) ts (find lex (cut_down lex xs (replaced s)) (replaced s))
  pub first_exact : (s : List ℕ) → Query s → FirstStands (replaced s) ts (first_position lex xs (replaced s))
  pub cut_first_exact :
      (s : List ℕ) → Query s → FirstStands (replaced s) ts (first_position lex (cut_down lex xs (replaced s)) (replaced s))

-- Whatever numbers are delivered, they are received exactly if some text of their stated length has them as its index. Then the recovered
-- text is that text, and every guarantee of the demand holds for it.
unfoldable pub DemandThree : (g : ℕ) → Type 0
DemandThree g =
    (cs ls xs : List ℕ) → admitted cs ls ≡ true →
    (received g (lexicon cs ls) xs ≡ true → Serves g (lexicon cs ls) xs (recovered (lexicon cs ls) xs))
    × ((ts : List ℕ) → TextOf g (lexicon cs ls) xs ts → received g (lexicon cs ls) xs ≡ true)

-- RECEPTION BY COUNTING

-- us has the stated length, each of its entries is in the slice, and there are as many as the slice has.
pub record Accounts (lex : Lexicon) (xs us : List ℕ) : Type 0 where
  pub length_is : length us ≡ n_of xs
  pub each : (k : Key) (p : ℕ) → Among k p (entries lex us) → Under k p xs
  pub count : length (entries lex us) ≡ entries_of xs

-- Readable numbers are received if some characters, none of them a full-width form, account for them, and these are then the recovered
-- text. If numbers are received, the recovered text accounts for them.
unfoldable pub ReceivedByCount : (g : ℕ) → Type 0
ReceivedByCount g =
    (cs ls xs : List ℕ) → admitted cs ls ≡ true → readable g (lexicon cs ls) xs ≡ true →
    ((us : List ℕ) → all_chars us ≡ true → holds_full_width us ≡ false → Accounts (lexicon cs ls) xs us →
    (received g (lexicon cs ls) xs ≡ true) × (recovered (lexicon cs ls) xs ≡ us))
    × (received g (lexicon cs ls) xs ≡ true → Accounts (lexicon cs ls) xs (recovered (lexicon cs ls) xs))

-- ANY READABLE INDEX, received or not

-- The cut-down index of any readable index is readable, and its search gives what the index's own does.
unfoldable pub CutAny : (g : ℕ) → Type 0
CutAny g =
    (lex : Lexicon) (xs s : List ℕ) → readable g lex xs ≡ true →
    (readable g lex (cut_down lex xs s) ≡ true) × (find lex (cut_down lex xs s) s ≡ find lex xs s)

-- An index with fewer entries finds no more positions.
unfoldable pub FewerFindLess : Type 0
FewerFindLess =
    (lex : Lexicon) (xs ys : List ℕ) → n_of xs ≤ n_of ys → ((k : Key) (p : ℕ) → Under k p xs → Under k p ys) → (s : List ℕ) (p : ℕ) →
    In p (find lex xs s) → In p (find lex ys s)

-- KEYS AND STRINGS

-- A key bears on a string exactly if it agrees with it at some offset from minus its length, plus 1, up to m − 1.
unfoldable pub BearsByOffset : Type 0
BearsByOffset =
    (k s : List ℕ) → 1 ≤ length k → 1 ≤ length s →
    (bears k s ≡ true → (o : ℤ) × (in_offsets k s o ≡ true) × (agrees_at k s o ≡ true))
    × ((o : ℤ) → in_offsets k s o ≡ true → agrees_at k s o ≡ true → bears k s ≡ true)
