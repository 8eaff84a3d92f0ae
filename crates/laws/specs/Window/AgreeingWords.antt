-- The lines of words that agree with a string at an offset, by refining the range of those that share its next characters: a word that ends
-- on the way is listed, the others are left as one range. Assumes nothing.
use Rattle.std.specs.Prelude.{◌≡◌, true, List, ℕ, ◌+◌, ◌≤◌, ◌<◌, length, get_or, set}
use Rattle.std.proofs.Common.{sym, ◌∙◌, inl, inr, arith, length-set}
use Rattle.basics.specs.LowerBound.{LowerBound}
use Rattle.spec.specs.Words.{spells}
use Rattle.spec.specs.Index.{key_at}
use Rattle.models.specs.WordStarts.{lexicon_at}
use Rattle.models.specs.Window.{agrees_line}
use Rattle.laws.specs.Match.PrefixRanges.{prefix_not_before}
use Rattle.laws.specs.Directory.Tables.{Reads, key_some}
use Rattle.laws.specs.Window.LineRanges.{Split, SearchLines, word_lines_rise}
use Rattle.laws.specs.Window.AgreeingLines.{AgreeingListed, agreeing_start, agreeing_push, agreeing_range}
use Rattle.laws.specs.Window.WordLines.{SharedPrefix, shared_prefix_start, shared_prefix_next, shared_prefix_agrees, shared_deep}
use Rattle.laws.specs.Window.WordLines.{WordColumn, word_char, shared_prefix_column, shared_prefix_deeper, shared_prefix_apart}

-- lines lo to hi − 1 are left, and their words share d characters with the string from o on; at most d are listed, and one more can be
pub record Refining (cs ws xs s : List ℕ) (o w : ℕ) (lines : List ℕ) (count lo hi d : ℕ) : Type 0 where
  pub on : SearchLines cs ws xs s w
  pub inside : o < length s
  pub shared : SharedPrefix (lexicon_at cs ws) xs s o w lo hi d
  pub listed : AgreeingListed o (lexicon_at cs ws) xs s w lines count lo hi
  pub few : count ≤ d
  pub free : lo < hi → length (spells (lexicon_at cs ws) (key_at xs lo)) ≡ d → count < d
  pub deep : d ≤ 32
  pub len : 36 ≤ length lines

module _ {cs ws xs s : List ℕ} {o w : ℕ} {lines : List ℕ} where
  pub refining_start : SearchLines cs ws xs s w → o < length s → 36 ≤ length lines → Refining cs ws xs s o w lines 0 0 w 0
  refining_start on inside len =
      record {
        on = on;
        inside = inside;
        shared = shared_prefix_start (lexicon_at cs ws) xs s o w;
        listed = agreeing_start w lines;
        few = omega arith;
        free = λ some e. absurd (omega (arith, key_some on.reads.can 0 (omega (arith, on.split.within))));
        deep = omega arith;
        len = len;
      }

  module _ {count lo hi d : ℕ} (h : Refining cs ws xs s o w lines count lo hi d) (some : lo < hi) where
    abbrev word : ℕ → List ℕ
    word i = spells (lexicon_at cs ws) (key_at xs i)

    reads : Reads cs ws xs
    reads = h.on.reads

    split : Split xs w
    split = h.on.split

    -- the first word ends at depth d: it agrees
    module _ (ends : length (word lo) ≡ d) where
      longer : lo + 1 < hi → length (word (lo + 1)) ≡ d → ⊥
      longer more same =
          prefix_not_before (word (lo + 1)) (word lo) (word_lines_rise reads.can split lo (lo + 1) (omega arith) (omega arith))
          (omega arith)
          (λ j b.
          h.shared.share lo j (omega arith) some (omega arith) ∙ sym (h.shared.share (lo + 1) j (omega arith) more (omega arith)))

      pub refining_push : Refining cs ws xs s o w (set lines count lo) (count + 1) (lo + 1) hi d
      refining_push =
          record {
            on = h.on;
            inside = h.inside;
            shared = shared_prefix_next reads split h.shared some;
            listed =
                agreeing_push h.listed some (omega (arith, h.free some ends))
                (shared_prefix_agrees reads split h.shared h.inside lo (omega arith) some (inr ends));
            few = omega (arith, h.free some ends);
            free = λ more e. absurd (longer more e);
            deep = h.deep;
            len = omega (arith, length-set lines count lo);
          }

    -- else all have another character
    module _ (more : length (word lo) ≡ d → ⊥) where
      pub refining_deep : d < 32
      refining_deep = shared_deep reads split h.shared some more

      pub refining_column : WordColumn cs xs ws lo hi d
      refining_column = shared_prefix_column reads split h.shared some more

      pub refining_step :
          o + d < length s → {from to : ℕ} → LowerBound (word_char cs xs ws d) lo hi (get_or s (o + d) 0) from →
          LowerBound (word_char cs xs ws d) from hi (get_or s (o + d) 0 + 1) to → Refining cs ws xs s o w lines count from to (d + 1)
      refining_step below low high =
          record {
            on = h.on;
            inside = h.inside;
            shared = shared_prefix_deeper reads split h.shared some more below low high;
            listed = agreeing_range h.listed (shared_prefix_apart reads split h.shared some more below low high);
            few = omega arith;
            free = λ rest e. omega arith;
            deep = omega (arith, refining_deep);
            len = h.len;
          }

  -- where the string ends, all that are left agree
  pub refining_all :
      {count lo hi d : ℕ} → Refining cs ws xs s o w lines count lo hi d → length s ≤ o + d → (i : ℕ) → lo ≤ i → i < hi →
      agrees_line o (lexicon_at cs ws) xs s i ≡ true
  refining_all h past i a b = shared_prefix_agrees h.on.reads h.on.split h.shared h.inside i a b (inl past)
