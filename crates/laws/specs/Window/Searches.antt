-- The search of one string in one window of starts: what holds throughout, and what it gives for the lines of words and of lone
-- characters. Assumes nothing.
use Rattle.std.specs.Prelude.{◌≡◌, ℕ, ◌^◌, ◌≤◌, ◌<◌, length, get_or}
use Rattle.std.proofs.Common.{sym, ◌∙◌, arith}
use Rattle.std.proofs.Math.Path.{ap}
use mathlib.Core.List.{List}
use Rattle.spec.specs.Words.{spells}
use Rattle.spec.specs.Index.{keys_of, key_at, lines_in}
use Rattle.models.specs.Window.{positions_all, key_all, back_all, leading_all, leading_lines, offset_all, run, positions_at, offset_at}
use Rattle.models.specs.Window.{leading_at}
use Rattle.models.specs.WordStarts.{lexicon_at}
use Rattle.laws.specs.Numbers.Slices.{Fits}
use Rattle.laws.specs.Directory.Tables.{ListStarts, Opened, WordLine, spelt_short}
use Rattle.laws.specs.Search.Sizing.{IsString}
use Rattle.laws.specs.Window.Window.{Within, Reaches, reaches_same, reaches_by}
use Rattle.laws.specs.Window.WindowSearch.{key_agrees}
use Rattle.laws.specs.Window.LineSteps.{run_one, run_join, run_unchanged, run_skip, run_alike, offset_whole, leading_whole}
use Rattle.laws.specs.Window.LineSteps.{offset_apart}
use Rattle.laws.specs.Window.LineSteps.{leading_single}
use Rattle.laws.specs.Window.ListRange.{Ascending, listed_rise}
use Rattle.laws.specs.Window.ExtendAtPositions.{OffsetFits, offset_fits}
use Rattle.laws.specs.Window.LineRanges.{Split, split_line, LoneLine, lone_single, lone_others, lone_agrees}

-- the index is opened, its first w lines are those of words, the string may be searched for, and q is a start
pub record Searches (cs ws xs ts s : List ℕ) (w q : ℕ) : Type 0 where
  pub opened : Opened cs ws xs ts
  pub split : Split xs w
  pub string : IsString s
  pub first_small : q ≤ 2 ^ 32

-- and the leading lines are listed
pub record SearchesListed (cs ws xs ts s lines : List ℕ) (w q : ℕ) : Type 0 where
  pub searches : Searches cs ws xs ts s w q
  pub listed : lines ≡ leading_lines 0 (lexicon_at cs ws) xs s w

-- or the window is extended by keys at the offset o; none of its starts reaches further than to m
pub record SearchesOffset (cs ws xs ts s : List ℕ) (w q o m : ℕ) (rs : List ℕ) : Type 0 where
  pub searches : Searches cs ws xs ts s w q
  pub inside : o < length s
  pub within : Within m rs

-- a line of a word
module _ {cs ws xs ts s : List ℕ} {w q : ℕ} (h : Searches cs ws xs ts s w q) {i : ℕ} (below : i < w) where
  pub word_line : WordLine cs ws xs i
  word_line = split_line h.opened.reads h.split i below

  pub word_list : Fits xs × ListStarts xs (keys_of xs) ts × (i < keys_of xs)
  word_list = (h.opened.reads.can.fits, h.opened.list_starts, omega arith)

  -- its key and positions
  module _ {k : List ℕ} (key : k ≡ spells (lexicon_at cs ws) (key_at xs i)) where
    pub word_short : length k ≤ 32
    word_short = spelt_short h.opened.reads.can i (omega arith) k key

    pub word_fits : {o : ℕ} → o < length s → OffsetFits (length k) 0 o q
    word_fits {o} start = offset_fits (length k) o q word_short (omega arith) h.first_small

    module _ {bs : List ℕ} (positions : bs ≡ positions_at xs i) where
      pub word_list_rises : Ascending bs
      word_list_rises = listed_rise h.opened.reads.can i (omega arith) bs positions

      -- a step by them is the step of the line
      module _ (rs : List ℕ) {now : List ℕ} {max_reach : ℕ} where
        pub word_offset :
            (o : ℕ) → Reaches (key_all 0 o s k q bs rs) now max_reach → Reaches (offset_at o (lexicon_at cs ws) xs s q i rs) now max_reach
        unfolding offset_at
        word_offset o r = rw (key, positions) at r

        pub word_leading :
            Reaches (back_all (length k) 0 s k q bs rs) now max_reach → Reaches (leading_at (lexicon_at cs ws) xs s q i rs) now max_reach
        unfolding leading_at
        word_leading r = rw (key, positions) at r

module _ {cs ws xs ts s : List ℕ} {w q : ℕ} (h : Searches cs ws xs ts s w q) where
  abbrev step : (o : ℕ) → ℕ → List ℕ → List ℕ
  step o = offset_at o (lexicon_at cs ws) xs s q

  -- the lines of lone characters: only that of the string's character can agree
  module _ (o : ℕ) {r : ℕ} (line : LoneLine xs w (get_or s o 0) r) where
    apart : (i : ℕ) → w ≤ i → i < keys_of xs → (i ≡ r → ⊥) → (rs : List ℕ) → step o i rs ≡ rs
    apart i a b other =
        offset_apart (lexicon_at cs ws) xs s q o i (lone_others h.opened.reads.can h.split s o line i a b other)

    module _ (old : List ℕ) where
      -- it has a line, and extending at its positions is the step of all
      pub lone_found :
          r < keys_of xs → o < length s → {bs now : List ℕ} {max_reach : ℕ} → bs ≡ positions_at xs r →
          Reaches (positions_all 0 o 1 q bs old) now max_reach → Reaches (run (step o) w (keys_of xs) old) now max_reach
      unfolding offset_at
      lone_found some below {bs} positions done =
          let key = spells (lexicon_at cs ws) (key_at xs r) in
          let can = h.opened.reads.can in
          reaches_by
          (run_skip (step o)
          (record {
            from = line.from;
            order = omega arith;
            to = omega arith;
            front = λ i a b. apart i a (omega arith) (λ e. omega arith);
            back = λ i a b. apart i (omega (arith, line.from)) b (λ e. omega arith);
          })
          old
          ∙ run_one (step o) r old
          ∙ ap (λ (ps : List ℕ). key_all 0 o s key q ps old) (sym positions)
          ∙ key_agrees 0 o s key q bs old (lone_agrees can h.split s o line some below))
          (rw (lone_single can h.split r line.from some) done)

      -- or it has none
      pub lone_none : keys_of xs ≤ r → {max_reach : ℕ} → Within max_reach old → Reaches (run (step o) w (keys_of xs) old) old max_reach
      lone_none past = reaches_same (run_unchanged (step o) w (keys_of xs) (λ i a b. apart i a b (λ e. omega arith)) old)

  -- the lines of words, then those of lone characters
  module _ (old : List ℕ) {mid now : List ℕ} {highest max_reach : ℕ} where
    pub offset_both :
        (o : ℕ) → Reaches (run (step o) 0 w old) mid highest → Reaches (run (step o) w (keys_of xs) mid) now max_reach →
        Reaches (offset_all o (lexicon_at cs ws) (lines_in xs) s q old) now max_reach
    offset_both o p r =
        record {
          is =
              r.is
              ∙ ap (run (step o) w (keys_of xs)) p.is
              ∙ run_join (step o) 0 w (keys_of xs) (omega arith) h.split.within old
              ∙ offset_whole (lexicon_at cs ws) xs s q o old;
          bounded = r.bounded;
        }

    -- a leading key of one character is at the offset 0
    pub leading_both :
        Reaches (run (leading_at (lexicon_at cs ws) xs s q) 0 w old) mid highest → Reaches (run (step 0) w (keys_of xs) mid) now max_reach →
        Reaches (leading_all (lexicon_at cs ws) (lines_in xs) s q old) now max_reach
    leading_both p r =
        let leading = leading_at (lexicon_at cs ws) xs s q in
        let single = lone_single h.opened.reads.can h.split in
        record {
          is =
              r.is
              ∙ sym
              (run_alike leading (step 0) w (keys_of xs)
              (λ j a b rs. leading_single (lexicon_at cs ws) xs s q j (single j a b) rs) mid)
              ∙ ap (run leading w (keys_of xs)) p.is
              ∙ run_join leading 0 w (keys_of xs) (omega arith) h.split.within old
              ∙ leading_whole (lexicon_at cs ws) xs s q old;
          bounded = r.bounded;
        }
