-- The Boolean definitions as facts: lexicons, keys, entries, lines, and lines that match a text. The theorems are stated over these
-- records; each file of laws that has a `_get` and a `_put` ties one of them to its test. Assumes nothing.
use Rattle.std.specs.Prelude.{◌≡◌, true, false, List, [], ◌∷◌, ℕ, suc, ◌+◌, ◌≤◌, ◌<◌, length, get_or}
use Rattle.basics.specs.Member.{In}
use Rattle.spec.specs.Replaced.{is_full_width}
use Rattle.spec.specs.Dictionary.{Lexicon}
use Rattle.spec.specs.Words.{Key, spells, Entry}
use Rattle.spec.specs.Numbers.{Line, key_before}
use Rattle.spec.specs.Index.{key_good}
use Rattle.models.specs.Entries.{flat}
use Rattle.laws.specs.Text.Strings.{Stand}

-- every number of a list is a character
abbrev pub Chars : List ℕ → Type 0
Chars xs = (i : ℕ) → i < length xs → get_or xs i 0 < 65536

-- no character of a list is a full-width form
abbrev pub Plain : List ℕ → Type 0
Plain xs = (i : ℕ) → i < length xs → is_full_width (get_or xs i 0) ≡ false

-- an admitted lexicon: words of 1 to 32 characters, none with a full-width form, no word twice
pub record GoodLexicon (lex : Lexicon) : Type 0 where
  pub few : length lex.words ≤ 4096
  pub nonempty : (w : List ℕ) → In w lex.words → 1 ≤ length w
  pub short : (w : List ℕ) → In w lex.words → length w ≤ 32
  pub chars : (w : List ℕ) → In w lex.words → Chars w
  pub plain : (w : List ℕ) → In w lex.words → Plain w
  pub distinct :
      (i j : ℕ) → i < length lex.words → j < length lex.words → get_or lex.words i [] ≡ get_or lex.words j [] → i ≡ j

-- keys and entries with equal parts are equal
pub key_eq : (j k : Key) → j.kind ≡ k.kind → j.value ≡ k.value → j ≡ k
key_eq j k p q = λ i. record { kind = p i; value = q i }

pub entry_eq : (e f : Entry) → e.key_of ≡ f.key_of → e.at ≡ f.at → e.len ≡ f.len → e ≡ f
entry_eq e f p q r = λ i. record { key_of = p i; at = q i; len = r i }

-- a key of the lexicon: a word, or a lone character that is no word
pub record IsKey (lex : Lexicon) (k : Key) : Type 0 where
  pub kind_small : k.kind ≤ 1
  pub good : key_good lex k ≡ true

-- an entry of a text's complete index
pub record IsEntry (lex : Lexicon) (ts : List ℕ) (e : Entry) : Type 0 where
  pub is_key : IsKey lex e.key_of
  pub len_is : e.len ≡ length (spells lex e.key_of)
  pub stand : Stand (spells lex e.key_of) ts e.at

-- an entry that a readable index of n characters may have
pub record SoundEntry (lex : Lexicon) (n : ℕ) (e : Entry) : Type 0 where
  pub is_key : IsKey lex e.key_of
  pub len_is : e.len ≡ length (spells lex e.key_of)
  pub from : 1 ≤ e.at
  pub within : e.at + e.len ≤ suc n

abbrev pub Sound : Lexicon → (n : ℕ) → List Entry → Type 0
Sound lex n es = (e : Entry) → In e es → SoundEntry lex n e

-- no two entries start at the same position
abbrev pub OwnPositions : List Entry → Type 0
OwnPositions es = (e f : Entry) → In e es → In f es → e.at ≡ f.at → e ≡ f

-- one entry contains another
pub record Contains (e f : Entry) : Type 0 where
  pub starts : e.at ≤ f.at
  pub ends : f.at + f.len ≤ e.at + e.len

-- an entry of a text's complete maximal word index
pub record IsMaximal (lex : Lexicon) (ts : List ℕ) (e : Entry) : Type 0 where
  pub is_entry : IsEntry lex ts e
  pub alone : (f : Entry) → IsEntry lex ts f → Contains f e → f ≡ e

-- a strictly ascending list of positions, each at least `least`
abbrev pub Rise : (least : ℕ) → List ℕ → Type 0
Rise a [] = Unit
Rise a (p ∷ ps) = (a ≤ p) × Rise (suc p) ps

-- a directory line that a readable index of a text of n characters may have
pub record GoodLine (lex : Lexicon) (n : ℕ) (l : Line) : Type 0 where
  pub is_key : IsKey lex l.key_of
  pub some : 1 ≤ length l.positions
  pub rise : Rise 1 l.positions
  pub fits : (p : ℕ) → In p l.positions → p + length (spells lex l.key_of) ≤ suc n

-- keys ascend strictly
abbrev pub KeysRise : List Line → Type 0
KeysRise [] = Unit
KeysRise (l ∷ ls) = ((m : Line) → In m ls → key_before l.key_of m.key_of ≡ true) × KeysRise ls

-- the lines of a readable index of n characters
pub record GoodLines (lex : Lexicon) (n : ℕ) (ls : List Line) : Type 0 where
  pub each : (l : Line) → In l ls → GoodLine lex n l
  pub order : KeysRise ls

-- every entry of the lines stands in the text
abbrev pub AllStand : Lexicon → List Line → (text : List ℕ) → Type 0
AllStand lex ls ts = (e : Entry) → In e (flat lex ls) → Stand (spells lex e.key_of) ts e.at

-- lines that match a text: each entry stands in it, and each position is covered
pub record LinesMatch (lex : Lexicon) (ls : List Line) (ts : List ℕ) : Type 0 where
  pub stand : AllStand lex ls ts
  pub cover : (p : ℕ) → 1 ≤ p → p ≤ length ts → (e : Entry) × In e (flat lex ls) × (e.at ≤ p) × (p < e.at + e.len)
