-- The prefix range of the word lines that share the string's characters from an offset on, refined character by character: the others do
-- not agree there. Assumes nothing.
use Rattle.std.specs.Prelude.{◌≡◌, true, false, ◌⊎◌, List, ℕ, ◌+◌, ◌*◌, ◌-◌, ◌≤◌, ◌<◌, length, get_or}
use Rattle.std.proofs.Common.{sym, ap, ◌∙◌, ⊎_elim, arith}
use Rattle.basics.specs.Bools.{false_put, le_or_lt}
use Rattle.basics.specs.Steps.{Outside}
use Rattle.spec.specs.Dictionary.{Lexicon}
use Rattle.spec.specs.Words.{spells}
use Rattle.spec.specs.Index.{header, keys_of, value_at, key_at}
use Rattle.spec.specs.Search.{agrees}
use Rattle.models.specs.WordStarts.{lengths_of, lexicon_at}
use Rattle.laws.specs.Search.Agree.{Agree, agrees_get}
use Rattle.laws.specs.Search.AgreeWalk.{together}
use Rattle.laws.specs.Match.PrefixRanges.{prefix_not_before, next_rises}
use Rattle.laws.specs.Dictionary.WordStarts.{starts_len}
use Rattle.laws.specs.Directory.Tables.{CanRead, Reads, WordLine, line_room, line_word, line_end, line_char, key_short, key_some}
use Rattle.basics.specs.LowerBound.{Rising, LowerBound, rising_part}
use Rattle.laws.specs.Window.LineRanges.{Split, split_line, word_lines_rise}

-- a key that agrees at an offset within the string has the string's characters on the overlap
agree_deep : {s k : List ℕ} {o : ℕ} (d : ℕ) → Agree s 0 k o → d < length k → o + d < length s → get_or s (o + d) 0 ≡ get_or k d 0
agree_deep {o} d h l r =
    let y : o + d - 0 ≡ o + d = omega arith in
    let z : o + d - o ≡ d = omega arith in
    rw (y, z) at (h.equal (o + d) (omega arith) (omega arith) (omega arith) (omega arith))

-- the character at depth d of the word of line i, read from the dictionary's characters
abbrev pub word_char : (chars numbers starts : List ℕ) → (d i : ℕ) → ℕ
word_char cs xs ws d i = get_or cs (get_or ws (value_at xs i) 0 + d) 0

-- words lo to hi − 1 have a character at depth d, and these are nondecreasing
pub record WordColumn (cs xs ws : List ℕ) (lo hi d : ℕ) : Type 0 where
  pub rising : Rising (word_char cs xs ws d) lo hi
  pub reads :
      (i : ℕ) → lo ≤ i → i < hi →
      (header + 3 * i + 2 < length xs) × (value_at xs i < length ws) × (get_or ws (value_at xs i) 0 + d < length cs)

pub column_part :
    {cs xs ws : List ℕ} {lo hi d from : ℕ} → WordColumn cs xs ws lo hi d → lo ≤ from → from ≤ hi → WordColumn cs xs ws from hi d
column_part h l r =
    record {
      rising = rising_part h.rising l r;
      reads = λ i a b. h.reads i (omega arith) b;
    }

-- words lo to hi − 1, of the first w lines, have at least d characters, and share these with the string from o on
pub record SharedPrefix (lex : Lexicon) (xs s : List ℕ) (o w lo hi d : ℕ) : Type 0 where
  pub order : lo ≤ hi
  pub within : hi ≤ w
  pub len : (i : ℕ) → lo ≤ i → i < hi → d ≤ length (spells lex (key_at xs i))
  pub share : (i j : ℕ) → lo ≤ i → i < hi → j < d → get_or (spells lex (key_at xs i)) j 0 ≡ get_or s (o + j) 0

pub shared_prefix_start : (lex : Lexicon) (xs s : List ℕ) (o w : ℕ) → SharedPrefix lex xs s o w 0 w 0
shared_prefix_start lex xs s o w =
    record {
      order = omega arith;
      within = omega arith;
      len = λ i a b. omega arith;
      share = λ i j a b l. absurd (omega arith);
    }

module _
    {cs ws xs : List ℕ} (reads : Reads cs ws xs) {w : ℕ} (split : Split xs w) {s : List ℕ} {o lo hi d : ℕ}
    (h : SharedPrefix (lexicon_at cs ws) xs s o w lo hi d) where
  can : CanRead cs (lengths_of ws) xs
  can = reads.can

  abbrev word_of : ℕ → List ℕ
  word_of i = spells (lexicon_at cs ws) (key_at xs i)

  -- the same range without its first word
  pub shared_prefix_next : lo < hi → SharedPrefix (lexicon_at cs ws) xs s o w (lo + 1) hi d
  shared_prefix_next some =
      record {
        order = omega arith;
        within = h.within;
        len = λ i a b. h.len i (omega arith) b;
        share = λ i j a b l. h.share i j (omega arith) b l;
      }

  module _ (i : ℕ) (lo_i : lo ≤ i) (i_hi : i < hi) where
    pub shared_line : i < keys_of xs
    shared_line = omega arith

    line : WordLine cs ws xs i
    line = split_line reads split i (omega arith)

    pub shared_word : value_at xs i < length (lengths_of ws)
    shared_word = line_word line

    room : get_or ws (value_at xs i) 0 + length (word_of i) ≤ length cs
    room = line_end line

    char_at : (j : ℕ) → j < length (word_of i) → word_char cs xs ws j i ≡ get_or (word_of i) j 0
    char_at = line_char line

  -- words that end at depth d, or all if the string ends there, agree
  pub shared_prefix_agrees :
      o < length s → (i : ℕ) → lo ≤ i → i < hi → (length s ≤ o + d) ⊎ (length (word_of i) ≡ d) →
      agrees s 0 (spells (lexicon_at cs ws) (key_at xs i)) o ≡ true
  shared_prefix_agrees below i a b done =
      sym
      (together s (word_of i) o d below
      (λ (z : length (word_of i) ≡ 0). omega (arith, key_some can i (shared_line i a b)))
      (⊎_elim (λ (p : length s ≤ o + d). omega arith)
      (λ (p : length (word_of i) ≡ d). omega arith) done)
      (λ j l. sym (h.share i j a b l)))

  -- if the first has more than d characters, so have all
  module _ (some : lo < hi) (more : length (word_of lo) ≡ d → ⊥) where
    longer : (i : ℕ) → lo ≤ i → i < hi → d < length (word_of i)
    longer i a b =
        ⊎_elim (λ (l : length (word_of i) ≤ d). absurd (no l)) (λ (l : d < length (word_of i)). l) (le_or_lt (length (word_of i)) d)
      where
        first : d < length (word_of lo)
        first = omega (arith, more, h.len lo (omega arith) some)

        no : length (word_of i) ≤ d → ⊥
        no l =
            ⊎_elim
            (λ (q : i ≤ lo). let here : i ≡ lo = omega arith in omega (arith, first, ap (λ (x : ℕ). length (word_of x)) here))
            (λ (q : lo < i).
            prefix_not_before (word_of i) (word_of lo) (word_lines_rise can split lo i q (omega arith))
            (omega (arith, first))
            (λ j c. h.share lo j (omega arith) some (omega arith) ∙ sym (h.share i j a b (omega arith))))
            (le_or_lt i lo)

    -- a word has at most 32 characters, so the refinement ends
    pub shared_deep : d < 32
    shared_deep = omega (arith, longer lo (omega arith) some, key_short can lo (shared_line lo (omega arith) some))

    -- the next characters can be searched
    pub shared_prefix_column : WordColumn cs xs ws lo hi d
    shared_prefix_column =
        record {
          rising =
              record {
                order = h.order;
                rises =
                    λ i j a b c.
                    omega (
                      arith,
                      char_at i a (omega arith) d (longer i a (omega arith)),
                      char_at j (omega arith) c d (longer j (omega arith) c),
                      rises i j a b c,
                    );
              };
          reads =
              λ i a b. (
                line_room can i (shared_line i a b),
                omega (arith, shared_word i a b, starts_len reads.words),
                omega (arith, room i a b, longer i a b),
              );
        }
      where
        rises : (i j : ℕ) → lo ≤ i → i ≤ j → j < hi → get_or (word_of i) d 0 ≤ get_or (word_of j) d 0
        rises i j a b c =
            ⊎_elim (λ (q : j ≤ i). let here : i ≡ j = omega arith in omega (arith, ap (λ (x : ℕ). get_or (word_of x) d 0) here))
            (λ (q : i < j).
            next_rises (word_of i) (word_of j) d (word_lines_rise can split i j q (omega arith))
            (longer i a (omega arith)) (longer j (omega arith) c)
            (λ k l. h.share i k a (omega arith) l ∙ sym (h.share j k (omega arith) c l)))
            (le_or_lt j i)

    -- the equal range of the string's next character shares one character more
    module _
        (below : o + d < length s) {from to : ℕ} (low : LowerBound (word_char cs xs ws d) lo hi (get_or s (o + d) 0) from)
        (high : LowerBound (word_char cs xs ws d) from hi (get_or s (o + d) 0 + 1) to) where
      pub shared_prefix_deeper : SharedPrefix (lexicon_at cs ws) xs s o w from to (d + 1)
      shared_prefix_deeper =
          record {
            order = high.from;
            within = omega arith;
            len = λ i a b. omega (arith, longer i (omega arith) (omega arith));
            share = λ i j a b l. shared i j a b l;
          }
        where
          shared : (i j : ℕ) → from ≤ i → i < to → j < d + 1 → get_or (word_of i) j 0 ≡ get_or s (o + j) 0
          shared i j a b l =
              let a2 : lo ≤ i = omega arith in
              let b2 : i < hi = omega arith in
              ⊎_elim
              (λ (q : d ≤ j).
              let here : j ≡ d = omega arith in
              let now : word_char cs xs ws d i ≡ get_or s (o + d) 0 = omega (arith, low.above i a b2, high.below i a b) in
              rw here (sym (char_at i a2 b2 d (longer i a2 b2)) ∙ now))
              (λ (q : j < d). h.share i j a2 b2 q) (le_or_lt d j)

      -- the others do not agree
      pub shared_prefix_apart : Outside (λ i. agrees s 0 (spells (lexicon_at cs ws) (key_at xs i)) o ≡ false) lo from to hi
      shared_prefix_apart =
          record {
            from = low.from;
            order = high.from;
            to = high.to;
            front = λ i a b. apart i a (omega arith) (λ e. omega (arith, low.below i a b));
            back = λ i a b. apart i (omega arith) b (λ e. omega (arith, high.above i a b));
          }
        where
          apart : (i : ℕ) → lo ≤ i → i < hi → (word_char cs xs ws d i ≡ get_or s (o + d) 0 → ⊥) → agrees s 0 (word_of i) o ≡ false
          apart i a b other =
              false_put (agrees s 0 (word_of i) o)
              (λ t.
              other
              (char_at i a b d (longer i a b)
              ∙ sym (agree_deep d (agrees_get s 0 (word_of i) o t) (longer i a b) below)))
