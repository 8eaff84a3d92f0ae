-- Source 000's definitions 1 to 7, its claims 1 and 2, and the algorithms of sources 000 and 001, over pairs of a word and a position.
-- Each statement is a type; its proof is in the crate `laws`. Assumes nothing.
use Rattle.std.specs.Prelude.{◌≡◌, true, ◌&&◌, cond, ◌⊎◌, List, [], ◌∷◌, ℕ, zero, suc, ◌+◌, ◌-◌, ◌≤◌, ◌<◌, ltb, eqb, length, get_or}
use Rattle.basics.specs.Member.{In}
use Rattle.spec.specs.Dictionary.{Lexicon, is_char, is_text, lexicon, admitted}
use Rattle.spec.specs.Words.{is_word, spells, stands, Entry, entries}

-- "add every single character as a word to DICT, forming DICT'" (figure 1, line 1): a word below is a word of DICT'
unfoldable pub IsWord : Lexicon → (string : List ℕ) → Type 0
IsWord lex w = (is_word lex w ≡ true) ⊎ ((c : ℕ) × (is_char c ≡ true) × (w ≡ c ∷ []))

-- Definition 1: "a is an extension word of b ⇔ b is a substring of a"
unfoldable pub ExtendsWord : (a b : List ℕ) → Type 0
ExtendsWord a b = (k : ℕ) × (stands b a k ≡ true)

-- Definition 2: "2-tuples of the form (w, n)"
pub record Item : Type 0 where
  pub word : List ℕ
  pub position : ℕ

unfoldable pub item : (word : List ℕ) (position : ℕ) → Item
item w n = record { word = w; position = n }

-- Definition 2: "w is a word in DICT, n is a character position of DOC, and w is a prefix word of DOC [n:|DOC|-n+1]". The end
-- printed there is a slip: meant is the rest of DOC, to |DOC|.
pub record IsItem (lex : Lexicon) (doc : List ℕ) (i : Item) : Type 0 where
  pub is_word : IsWord lex i.word
  pub stand : stands i.word doc i.position ≡ true

-- Definition 3: "An index [..] is a finite set of index items": here a set is a predicate on items. It need not be finite, so a statement
-- about every such set says more.
abbrev pub Items : Type 1
Items = Item → Type 0

-- Definition 4: "I1 is an extension index item of I2 ⇔ (w1 is an extension word of w2) ∧ (n1 ≤ n2) ∧ (n1 + |w1| ≥ n2 + |w2|)"
pub record Extends (i j : Item) : Type 0 where
  pub extends_word : ExtendsWord i.word j.word
  pub starts : i.position ≤ j.position
  pub ends : j.position + length j.word ≤ i.position + length i.word

-- Definition 5: "An index item in IND is a maximal index item ⇔ it has no extension index items in IND except for itself."
pub record MaximalItem (ind : Items) (i : Item) : Type 0 where
  pub member : ind i
  pub alone : (j : Item) → ind j → Extends j i → j ≡ i

-- Definition 6: "a set of all possible index items of DOC with respect to DICT"
abbrev pub complete_items : Lexicon → (doc : List ℕ) → Items
complete_items lex doc i = IsItem lex doc i

-- Definition 7: "the set of all maximal index items in the complete index of DOC with respect to DICT"
abbrev pub maximal_items : Lexicon → (doc : List ℕ) → Items
maximal_items lex doc i = MaximalItem (complete_items lex doc) i

-- an entry as a pair of a word and a position
unfoldable pub item_of : Lexicon → Entry → Item
item_of lex e = item (spells lex e.key_of) e.at

-- Definition 7's index is the complete maximal word index of document 01, which compares entries by their starts and ends alone.
unfoldable pub SameIndex : (g : ℕ) → Type 0
SameIndex g =
    (cs ls ts : List ℕ) → admitted cs ls ≡ true → is_text g ts ≡ true →
    ((i : Item) → maximal_items (lexicon cs ls) ts i →
    (e : Entry) × In e (entries (lexicon cs ls) ts) × (item_of (lexicon cs ls) e ≡ i))
    × ((e : Entry) → In e (entries (lexicon cs ls) ts) → maximal_items (lexicon cs ls) ts (item_of (lexicon cs ls) e))

-- "It is obvious that the extension relation among index items of some document is a partial order relation"
unfoldable pub PartialOrder : Type 0
PartialOrder =
    (lex : Lexicon) (doc : List ℕ) (i j k : Item) → IsItem lex doc i → IsItem lex doc j → IsItem lex doc k →
    Extends i i × (Extends i j → Extends j k → Extends i k) × (Extends i j → Extends j i → i ≡ j)

-- Claim 1: "for each occurrence position n in DOC of a word w in DICT, either (a) or (b) holds: (a) (w, n) ∈ IND. (b) ∃(w', n') ∈
-- IND s.t. (w', n') is an extension index item of (w, n)."
unfoldable pub Claim1 : (g : ℕ) → Type 0
Claim1 g =
    (cs ls ts : List ℕ) → admitted cs ls ≡ true → is_text g ts ≡ true → (w : List ℕ) (n : ℕ) → IsWord (lexicon cs ls) w →
    stands w ts n ≡ true →
    maximal_items (lexicon cs ls) ts (item w n) ⊎ ((i : Item) × maximal_items (lexicon cs ls) ts i × Extends i (item w n))

-- "the set of possible occurrence positions PP of W": "PP(W) = {p | ((w, n) ∈ IND) ∧ (w ∈ W) ∧ (n", where the copy at hand
-- breaks off. Read here as n ≤ p < n + |w|, the positions that w takes up; were the first bound strict, the claim would fail.
pub record Possible (ind : Items) (W : List ℕ → Type 0) (p : ℕ) : Type 0 where
  pub of : Item
  pub member : ind of
  pub word_in : W of.word
  pub starts : of.position ≤ p
  pub ends : p < of.position + length of.word

-- "E(str) = {w' | w' is an extension word of str in DICT}"
pub record ExtensionWords (lex : Lexicon) (str w : List ℕ) : Type 0 where
  pub is_word : IsWord lex w
  pub extends_word : ExtendsWord w str

-- Claim 2: "all the occurrence positions of w in DOC are included in PP(E(w))"
unfoldable pub Claim2 : (g : ℕ) → Type 0
Claim2 g =
    (cs ls ts : List ℕ) → admitted cs ls ≡ true → is_text g ts ≡ true → (w : List ℕ) → IsWord (lexicon cs ls) w → (p : ℕ) →
    stands w ts p ≡ true → Possible (maximal_items (lexicon cs ls) ts) (ExtensionWords (lexicon cs ls) w) p

-- THE ALGORITHMS

-- Figure 1 of 000: "W := {w | w is a prefix word of DOC[head:l] in DICT'}; l_prefix := the longest word in W"
pub record LongestPrefix (lex : Lexicon) (doc : List ℕ) (head : ℕ) (w : List ℕ) : Type 0 where
  pub is_item : IsItem lex doc (item w head)
  pub longest : (v : List ℕ) → IsItem lex doc (item v head) → length v ≤ length w

-- "if head + |l_prefix| > tail then begin register (l_prefix, head) to IND; tail := head + |l_prefix|"
unfoldable pub figure_1 : (l_prefix : ℕ → List ℕ) (left head tail : ℕ) → List Item
figure_1 l_prefix zero head tail = []
figure_1 l_prefix (suc n) head tail =
    let w = l_prefix head in
    cond (ltb tail (head + length w)) (item w head ∷ figure_1 l_prefix n (suc head) (head + length w))
    (figure_1 l_prefix n (suc head) tail)

-- "each registered index item is maximal, and that all the maximal index items are indeed registered by this algorithm"
unfoldable pub Figure1 : (g : ℕ) → Type 0
Figure1 g =
    (cs ls ts : List ℕ) → admitted cs ls ≡ true → is_text g ts ≡ true → (l_prefix : ℕ → List ℕ) →
    ((p : ℕ) → 1 ≤ p → p ≤ length ts → LongestPrefix (lexicon cs ls) ts p (l_prefix p)) → (i : Item) →
    (In i (figure_1 l_prefix (length ts) 1 1) → maximal_items (lexicon cs ls) ts i)
    × (maximal_items (lexicon cs ls) ts i → In i (figure_1 l_prefix (length ts) 1 1))

-- 001: the longest word of a dictionary that stands at p; if there is none, the empty string
unfoldable pub longest_word : (dict : List (List ℕ)) (text : List ℕ) (p : ℕ) → List ℕ
longest_word [] ts p = []
longest_word (w ∷ ws) ts p =
    cond (stands w ts p && ltb (length (longest_word ws ts p)) (length w)) w (longest_word ws ts p)

-- 001: "if W = φ then", the character at p goes into the dictionary
unfoldable pub grown : (dict : List (List ℕ)) (text : List ℕ) (p : ℕ) → List (List ℕ)
grown dict ts p = cond (eqb (length (longest_word dict ts p)) 0) ((get_or ts (p - 1) 0 ∷ []) ∷ dict) dict

-- 001's loop, which is 000's but for the dictionary
unfoldable pub growing_scan : (left p last : ℕ) (dict : List (List ℕ)) (text : List ℕ) → List Item
growing_scan zero p last dict ts = []
growing_scan (suc n) p last dict ts =
    let d = grown dict ts p in
    let w = longest_word d ts p in
    cond (ltb last (p + length w)) (item w p ∷ growing_scan n (suc p) (p + length w) d ts) (growing_scan n (suc p) last d ts)

-- 001 starts with the dictionary alone, and registers the same items.
unfoldable pub GrowingSame : (g : ℕ) → Type 0
GrowingSame g =
    (cs ls ts : List ℕ) → admitted cs ls ≡ true → is_text g ts ≡ true → (i : Item) →
    (In i (growing_scan (length ts) 1 1 (lexicon cs ls).words ts) → maximal_items (lexicon cs ls) ts i)
    × (maximal_items (lexicon cs ls) ts i → In i (growing_scan (length ts) 1 1 (lexicon cs ls).words ts))
