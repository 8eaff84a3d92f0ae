-- A step of the walk over the directory, by the kind of the line's key. Assumes nothing.
use Rattle.std.specs.Prelude.{◌≡◌, true, false, List, [], ◌∷◌, ℕ, ◌+◌, ◌-◌, ◌≤◌, ◌<◌, length, drop}
use Rattle.std.proofs.Common.{◌∙◌}
use native.Mathlib.Omega.{arith}
use borrow.Author.Tests.{ltb-true}
use Rattle.spec.specs.Dictionary.{Lexicon}
use Rattle.spec.specs.Words.{spells, key, is_word}
use Rattle.spec.specs.Index.{n_of, keys_of, count_at, key_at, key_good}
use Rattle.models.specs.Readability.{key_number, key_fits, line_list_good, line_fits, walk_good}
use Rattle.laws.specs.Numbers.DirectoryWalk.{LineAt}
use Rattle.laws.specs.Readable.LineWalk.{fits_get}
use Rattle.laws.specs.Readable.LineSteps.{LinesRead, lines_step, lines_stop}
use Rattle.laws.specs.Readable.KeyTests.{lone_low, lone_high, lone_word, lone_fits, kind_other}

-- what is read of line i, whose positions start at `at`: n, and the line by value
pub record LineRead (xs : List ℕ) (i at n kind value from to : ℕ) : Type 0 where
  pub below : i < keys_of xs
  pub n_is : n ≡ n_of xs
  pub line : LineAt xs i at kind value from to

module _ {read : List ℕ → List ℕ} {lex : Lexicon} {xs : List ℕ} {i at least n kind value from to : ℕ}
    (h : LinesRead read lex xs i at least) (l : LineRead xs i at n kind value from to) where
  same_line :
      line_fits read lex (n_of xs) least (key_at xs i) (count_at xs i) (drop at xs)
      ≡ line_fits read lex n least (key kind value) (to - from) (drop from xs)
  same_line =
      let count : to - from ≡ count_at xs i = omega arith in
      rw (l.n_is, l.line.kind_is, l.line.value_is, count, l.line.from_is)

  stop : line_fits read lex n least (key kind value) (to - from) (drop from xs) ≡ false → false ≡ walk_good read lex xs
  stop f = lines_stop h l.below (same_line ∙ f)

  key_stop : key_fits lex least (key kind value) ≡ false → false ≡ walk_good read lex xs
  unfolding line_fits
  key_stop f = stop (rw f)

  step :
      line_fits read lex n least (key kind value) (to - from) (drop from xs) ≡ true →
      LinesRead read lex xs (i + 1) to (key_number (key kind value) + 1)
  step t = rw (l.line.kind_is, l.line.value_is, l.line.to_is) (lines_step h l.below (same_line ∙ t))

-- A WORD'S LINE

module _ {read : List ℕ → List ℕ} {lex : Lexicon} {xs : List ℕ} {i at least n kind value from to : ℕ}
    (h : LinesRead read lex xs i at least) (l : LineRead xs i at n kind value from to) (word : kind ≡ 0) where
  pub word_stop : line_fits read lex n least (key 0 value) (to - from) (drop from xs) ≡ false → false ≡ walk_good read lex xs
  word_stop f = stop h l (rw word f)

  -- the value is a word's number
  pub word_known : line_fits read lex n least (key 0 value) (to - from) (drop from xs) ≡ true → value < length lex.words
  unfolding key key_good
  word_known t =
      ltb-true value (length lex.words) (fits_get read lex n least (key 0 value) (to - from) (drop from xs) t).is_good

  pub word_step :
      line_fits read lex n least (key 0 value) (to - from) (drop from xs) ≡ true → LinesRead read lex xs (i + 1) to (value + 1)
  unfolding key
  word_step t =
      let code : key_number (key kind value) + 1 ≡ value + 1 = omega arith in
      rw code at (step h l (rw word t))

-- A LONE CHARACTER'S LINE

module _ {read : List ℕ → List ℕ} {lex : Lexicon} {xs : List ℕ} {i at n kind value from to : ℕ} (least : ℕ)
    (h : LinesRead read lex xs i at (65536 + least)) (l : LineRead xs i at n kind value from to) where
  pub other_stop : length lex.words ≤ 4096 → (kind ≡ 1 → ⊥) → false ≡ walk_good read lex xs
  other_stop few other = key_stop h l (kind_other lex least value kind few other)

  module _ (lone : kind ≡ 1) where
    pub low_stop : value < least → false ≡ walk_good read lex xs
    low_stop low = key_stop h l (rw lone (lone_low lex least value low))

    pub high_stop : 65535 < value → false ≡ walk_good read lex xs
    high_stop high = key_stop h l (rw lone (lone_high lex least value (omega arith)))

    pub listed_stop : is_word lex (value ∷ []) ≡ true → false ≡ walk_good read lex xs
    listed_stop t = key_stop h l (rw lone (lone_word lex least value t))

    module _ (order : least ≤ value) (small : value ≤ 65535) (free : is_word lex (value ∷ []) ≡ false) where
      lone_positions :
          line_fits read lex n (65536 + least) (key kind value) (to - from) (drop from xs)
          ≡ line_list_good read n 1 (to - from) (drop from xs)
      unfolding line_fits key spells
      lone_positions = rw (lone, lone_fits lex least value order (omega arith) free)

      pub lone_stop : line_list_good read n 1 (to - from) (drop from xs) ≡ false → false ≡ walk_good read lex xs
      lone_stop f = stop h l (lone_positions ∙ f)

      pub lone_step :
          line_list_good read n 1 (to - from) (drop from xs) ≡ true →
          LinesRead read lex xs (i + 1) to (65536 + (value + 1))
      unfolding key
      lone_step t =
          let code : key_number (key kind value) + 1 ≡ 65536 + (value + 1) = omega arith in
          rw code at (step h l (lone_positions ∙ t))
