-- The one-pass scan of a text: the longest entry at each position, registered if it ends after the last one; and what is claimed of
-- it. Assumes nothing.
use Rattle.std.specs.Prelude.{cond, true, List, [], ◌∷◌, ◌≡◌, suc, zero, ℕ, ◌+◌, ◌≤◌, ltb, length}
use Rattle.basics.specs.Member.{In}
use Rattle.spec.specs.Dictionary.{Lexicon, admitted, is_text, lexicon}
use Rattle.spec.specs.Numbers.{index_of, lines_of, numbers, sorted}
use Rattle.spec.specs.Words.{Entry, complete, entries}
use Rattle.models.specs.Entries.{longest_at}

-- from p on: the entry at p is registered if it ends after the last end, which its end then becomes
unfoldable pub scan : (longest : ℕ → Entry) (left p last : ℕ) → List Entry
scan longest zero p last = []
scan longest (suc n) p last =
    cond (ltb last (p + (longest p).len)) (longest p ∷ scan longest n (suc p) (p + (longest p).len)) (scan longest n (suc p) last)

-- the longest entry at p of the complete index
pub record LongestEntry (lex : Lexicon) (ts : List ℕ) (p : ℕ) (e : Entry) : Type 0 where
  pub member : In e (complete lex ts)
  pub here : e.at ≡ p
  pub longest : (f : Entry) → In f (complete lex ts) → f.at ≡ p → f.len ≤ e.len

-- The scan registers exactly the entries of the complete maximal word index, and the index is these entries inverted: posting lists by
-- key.
unfoldable pub ScanBuilds : (g : ℕ) → Type 0
ScanBuilds g =
    (cs ls ts : List ℕ) → admitted cs ls ≡ true → is_text g ts ≡ true → (longest : ℕ → Entry) →
    ((p : ℕ) → 1 ≤ p → p ≤ length ts → LongestEntry (lexicon cs ls) ts p (longest p)) →
    ((e : Entry) → In e (scan longest (length ts) 1 1) → In e (entries (lexicon cs ls) ts))
    × ((e : Entry) → In e (entries (lexicon cs ls) ts) → In e (scan longest (length ts) 1 1))
    × (numbers (length ts) (lines_of (sorted (scan longest (length ts) 1 1))) ≡ index_of (lexicon cs ls) ts)

-- source 000's figure 1
unfoldable pub make_index : Lexicon → (text : List ℕ) → List Entry
make_index lex ts = scan (longest_at lex ts) (length ts) 1 1
