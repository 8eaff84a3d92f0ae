-- The column of a run of words: their d-th characters, read from the dictionary's characters, and the lower bound of a character in it.
-- Assumes nothing.
use Rattle.std.specs.Prelude.{◌≡◌, true, List, ℕ, suc, ◌+◌, ◌-◌, ◌≤◌, ◌<◌, length, get_or}
use Rattle.std.proofs.Common.{sym, ◌∙◌, arith}
use Rattle.spec.specs.Dictionary.{ascend}
use Rattle.basics.specs.LowerBound.{Rising, LowerBound, rising_part}
use Rattle.models.specs.WordStarts.{lengths_of, lexicon_at, word, word_len}
use Rattle.laws.specs.Dictionary.Lexicon.{admitted_ascend}
use Rattle.laws.specs.Dictionary.WordStarts.{starts_len, end_room, word_end, len_is, word_char}
use Rattle.laws.specs.Match.MatchTable.{Started, many_words, word_short}
use Rattle.laws.specs.Match.PrefixRanges.{LastStanding, PrefixRange, LowerBoundAt, prefix_range_hit, prefix_range_longer}
use Rattle.laws.specs.Match.PrefixRanges.{prefix_range_rises}
use Rattle.laws.specs.Match.PrefixRanges.{prefix_range_stop, prefix_range_step}

-- the d-th character of word i
abbrev pub column : (cs ws : List ℕ) (d i : ℕ) → ℕ
column cs ws d i = get_or cs (get_or ws i 0 + d) 0

-- words lo to hi − 1 have a d-th character, and these are nondecreasing
pub record Column (cs ws : List ℕ) (lo hi d : ℕ) : Type 0 where
  pub rising : Rising (column cs ws d) lo hi
  pub known : hi ≤ length ws
  pub room : (i : ℕ) → lo ≤ i → i < hi → get_or ws i 0 + d < length cs

-- the end of a run has its column too
pub column_part : {cs ws : List ℕ} {lo hi d r : ℕ} → Column cs ws lo hi d → lo ≤ r → r ≤ hi → Column cs ws r hi d
column_part h from to =
    record {
      rising = rising_part h.rising from to;
      known = h.known;
      room = λ i a b. h.room i (omega arith) b;
    }

-- THE COLUMN OF A PREFIX RANGE OF WORDS

module _
    {cs ws : List ℕ} (t : Started cs ws) {ts : List ℕ} {p k lo hi d best : ℕ}
    (h : PrefixRange (lexicon_at cs ws).words ts p k lo hi d best) where
  known : (i : ℕ) → i < hi → i < length (lengths_of ws)
  known i b = omega (arith, many_words t)

  pub run_known : lo < hi → lo < length (lengths_of ws)
  run_known some = known lo some

  pub run_hit : lo < hi → word_len ws lo ≡ d → PrefixRange (lexicon_at cs ws).words ts p k (lo + 1) hi d (lo + 1)
  run_hit some e =
      prefix_range_hit h some (sym (len_is t.words lo (known lo some)) ∙ e)

  module _ (some : lo < hi) (more : word_len ws lo ≡ d → ⊥) where
    sorted : ascend (lexicon_at cs ws).words ≡ true
    sorted = admitted_ascend cs (lengths_of ws) t.dictionary

    other : length (word cs ws lo) ≡ d → ⊥
    other e = more (len_is t.words lo (known lo some) ∙ e)

    longer : (i : ℕ) → lo ≤ i → i < hi → d < length (word cs ws i)
    longer = prefix_range_longer h some sorted other

    -- a word has at most 32 characters, so the refinement ends
    pub run_deep : d < 32
    run_deep = omega (arith, longer lo (omega arith) some, word_short t (known lo some))

    column_word : (i : ℕ) → lo ≤ i → i < hi → column cs ws d i ≡ get_or (word cs ws i) d 0
    column_word i a b = word_char t.words i (known i b) d (longer i a b)

    pub run_column : Column cs ws lo hi d
    run_column =
        record {
          rising =
              record {
                order = h.order;
                rises =
                    λ i j a b c.
                    omega (
                      arith,
                      column_word i a (omega arith),
                      column_word j (omega arith) c,
                      (prefix_range_rises h some sorted other).rises i j a b c,
                    );
              };
          known = omega (arith, known (hi - 1) (omega arith), starts_len t.words);
          room = λ i a b. omega (arith, longer i a b, word_end t.words i (known i b), end_room t.words i (known i b));
        }

    bound_words :
        {from c r : ℕ} → lo ≤ from → LowerBound (column cs ws d) from hi c r → LowerBoundAt (lexicon_at cs ws).words from hi d c r
    bound_words l q =
        record {
          from = q.from;
          to = q.to;
          below = λ i a b. omega (arith, column_word i (omega arith) (omega arith), q.below i a b);
          above = λ i a b. omega (arith, column_word i (omega arith) b, q.above i a b);
        }

    pub run_stop : suc (length ts) ≤ p + d → LastStanding (lexicon_at cs ws).words ts p k best
    run_stop past = prefix_range_stop h some sorted other past

    pub run_step :
        {c from to : ℕ} → c ≡ get_or ts (p + d - 1) 0 → p + d ≤ length ts → LowerBound (column cs ws d) lo hi c from →
        LowerBound (column cs ws d) from hi (c + 1) to → PrefixRange (lexicon_at cs ws).words ts p k from to (d + 1) best
    run_step e room l r =
        prefix_range_step h some sorted other e room
        (bound_words (omega arith) l) (bound_words l.from r)
