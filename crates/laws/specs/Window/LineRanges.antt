-- The directory lines of an accepted index in order: words first, then lone characters, each part ascending; and which of the lone
-- characters can agree at an offset. Assumes nothing.
use Rattle.std.specs.Prelude.{◌≡◌, true, false, List, [], ◌∷◌, ℕ, zero, suc, ◌+◌, ◌*◌, ◌-◌, ◌≤◌, ◌<◌, length, get_or}
use Rattle.std.proofs.Math.Path.{sym}
use Rattle.std.proofs.Common.{ap, ◌∙◌, add-zero}
use Rattle.std.proofs.Math.Logic.{⊎_elim}
use native.Mathlib.Omega.{arith}
use Rattle.basics.specs.Bools.{false_put, le_or_lt}
use Rattle.spec.specs.Dictionary.{Lexicon, lexicon, word_before}
use Rattle.spec.specs.Words.{key, spells}
use Rattle.spec.specs.Index.{header, keys_of, kind_at, value_at, key_at}
use Rattle.spec.specs.Search.{agrees}
use Rattle.models.specs.Window.{field_at}
use Rattle.laws.specs.Dictionary.Keys.{spells_word, spells_lone}
use Rattle.laws.specs.Numbers.LineNumbers.{keys_before}
use Rattle.laws.specs.Dictionary.Lexicon.{length_words}
use Rattle.laws.specs.Dictionary.WordOrder.{ascend_get}
use Rattle.laws.specs.Search.Agree.{agrees_get, agree_first}
use Rattle.laws.specs.Search.AgreeWalk.{together}
use Rattle.laws.specs.Search.Sizing.{IsString}
use Rattle.laws.specs.Directory.Tables.{CanRead, Reads, WordLine, key_is, word_below}
use Rattle.basics.specs.LowerBound.{Rising, LowerBound}

-- of the lines a to b − 1 only r can agree with the string at the offset o
abbrev pub OnlyLine : Lexicon → (numbers string : List ℕ) → (o a b r : ℕ) → Type 0
OnlyLine lex xs s o a b r = (i : ℕ) → a ≤ i → i < b → (i ≡ r → ⊥) → agrees s 0 (spells lex (key_at xs i)) o ≡ false

-- the first w lines are words, no more than a dictionary has, the others lone characters
pub record Split (xs : List ℕ) (w : ℕ) : Type 0 where
  pub within : w ≤ keys_of xs
  pub few : w ≤ 4096
  pub words : (i : ℕ) → i < w → kind_at xs i ≡ 0
  pub lone : (i : ℕ) → w ≤ i → i < keys_of xs → kind_at xs i ≡ 1

-- a line of a word
pub split_line : {cs ws xs : List ℕ} {w : ℕ} → Reads cs ws xs → Split xs w → (i : ℕ) → i < w → WordLine cs ws xs i
split_line reads split i below = record { reads = reads; below = omega (arith, split.within); kind = split.words i below }

-- the index is read by the table of word starts, its first w lines are those of words, and the string may be searched for
pub record SearchLines (cs ws xs s : List ℕ) (w : ℕ) : Type 0 where
  pub reads : Reads cs ws xs
  pub split : Split xs w
  pub string : IsString s

pub search_line : {cs ws xs s : List ℕ} {w : ℕ} → SearchLines cs ws xs s w → (i : ℕ) → i < w → WordLine cs ws xs i
search_line h = split_line h.reads h.split

-- the values of the lines from w on ascend strictly
pub record ValuesRise (xs : List ℕ) (w : ℕ) : Type 0 where
  pub within : w ≤ keys_of xs
  pub rises : (i j : ℕ) → w ≤ i → i < j → j < keys_of xs → value_at xs i < value_at xs j

-- of the lines from w on, r is the one of value c, or none is and r is the number of lines
pub record LoneLine (xs : List ℕ) (w c r : ℕ) : Type 0 where
  pub from : w ≤ r
  pub to : r ≤ keys_of xs
  pub is : r < keys_of xs → value_at xs r ≡ c
  pub others : (i : ℕ) → w ≤ i → i < keys_of xs → (i ≡ r → ⊥) → value_at xs i ≡ c → ⊥

module _ {xs : List ℕ} {w : ℕ} (h : ValuesRise xs w) where
  -- so binary search finds a value
  pub values_order : Rising (field_at xs 1) w (keys_of xs)
  values_order =
      record {
        order = h.within;
        rises =
            λ i j a b c.
            ⊎_elim (λ (p : j ≤ i). let e : i ≡ j = omega arith in omega (arith, ap (value_at xs) e))
            (λ (p : i < j). omega (arith, h.rises i j a p c)) (le_or_lt j i);
      }

  module _ {c r : ℕ} (bound : LowerBound (field_at xs 1) w (keys_of xs) c r) where
    -- the line at the lower bound has the value
    pub lone_here : r < keys_of xs → value_at xs r ≡ c → LoneLine xs w c r
    lone_here below e =
        record { from = bound.from; to = bound.to; is = λ some. e; others = λ i a b other z. apart i a b other z }
      where
        apart : (i : ℕ) → w ≤ i → i < keys_of xs → (i ≡ r → ⊥) → value_at xs i ≡ c → ⊥
        apart i a b other z =
            ⊎_elim (λ (l : r ≤ i). omega (arith, other, h.rises r i bound.from (omega (arith, other)) b))
            (λ (l : i < r). omega (arith, h.rises i r a l below)) (le_or_lt r i)

    -- or no line has
    pub lone_nowhere : (r < keys_of xs → value_at xs r ≡ c → ⊥) → LoneLine xs w c (keys_of xs)
    lone_nowhere other =
        record {
          from = h.within;
          to = omega arith;
          is = λ some. absurd (omega arith);
          others = λ i a b e z. apart i a b z;
        }
      where
        apart : (i : ℕ) → w ≤ i → i < keys_of xs → value_at xs i ≡ c → ⊥
        apart i a b z =
            ⊎_elim
            (λ (l : i ≤ r).
            ⊎_elim (λ (m : r ≤ i). let e : i ≡ r = omega arith in other (omega arith) (ap (value_at xs) (sym e) ∙ z))
            (λ (m : i < r). omega (arith, bound.below i a m)) (le_or_lt r i))
            (λ (l : r < i). omega (arith, h.rises r i bound.from l b, bound.above r (omega arith) (omega arith)))
            (le_or_lt i r)

module _ {cs ls xs : List ℕ} (can : CanRead cs ls xs) where
  -- of two lines of one kind the later has the greater value
  values_before : (i j : ℕ) → i < j → j < keys_of xs → kind_at xs i ≡ kind_at xs j → value_at xs i < value_at xs j
  unfolding key
  values_before i j h b same =
      ⊎_elim (λ (p : kind_at xs i < kind_at xs j). absurd (omega arith))
      (λ (p : (kind_at xs i ≡ kind_at xs j) × (value_at xs i < value_at xs j)). p.1) (keys_before xs can.lines.order i j h b)

  kinds_before : (i j : ℕ) → i < j → j < keys_of xs → kind_at xs i ≤ kind_at xs j
  unfolding key
  kinds_before i j h b =
      ⊎_elim (λ (p : kind_at xs i < kind_at xs j). omega arith)
      (λ (p : (kind_at xs i ≡ kind_at xs j) × (value_at xs i < value_at xs j)). omega arith) (keys_before xs can.lines.order i j h b)

  -- so binary search by kind finds the first lone character
  pub kinds_rise : Rising (field_at xs 0) 0 (keys_of xs)
  kinds_rise =
      record {
        order = omega arith;
        rises =
            λ i j a b c.
            rw (add-zero (header + 3 * i), add-zero (header + 3 * j))
            (⊎_elim (λ (p : j ≤ i). let e : i ≡ j = omega arith in omega (arith, ap (kind_at xs) e))
            (λ (p : i < j). kinds_before i j p c) (le_or_lt j i));
      }

  pub split_found : {w : ℕ} → LowerBound (field_at xs 0) 0 (keys_of xs) 1 w → Split xs w
  unfolding key
  split_found {w} h =
      record {
        within = h.to;
        few = ⊎_elim (λ (none : w ≤ 0). omega arith) (λ (some : 0 < w). last some) (le_or_lt w 0);
        words = words;
        lone =
            λ i a b.
            omega (arith, rw (add-zero (header + 3 * i)) at (h.above i a b), (key_is can i b).kind_small);
      }
    where
      words : (i : ℕ) → i < w → kind_at xs i ≡ 0
      words i b = omega (arith, rw (add-zero (header + 3 * i)) at (h.below i (omega arith) b))

      value_least : (i : ℕ) → i < w → i ≤ value_at xs i
      value_least zero b = omega arith
      value_least (suc i) b =
          omega (
            arith,
            value_least i (omega arith),
            values_before i (suc i) (omega arith) (omega (arith, h.to)) (words i (omega arith) ∙ sym (words (suc i) b)),
          )

      last : 0 < w → w ≤ 4096
      last some =
          omega (arith, value_least (w - 1) (omega arith), word_below can (w - 1) (omega (arith, h.to)) (words (w - 1) (omega arith)))

  module _ {w : ℕ} (split : Split xs w) where
    -- WORDS

    pub word_lines_rise :
        (i j : ℕ) → i < j → j < w →
        word_before (spells (lexicon cs ls) (key_at xs i)) (spells (lexicon cs ls) (key_at xs j)) ≡ true
    unfolding key lexicon
    word_lines_rise i j h b =
        let p : kind_at xs i ≡ 0 = split.words i (omega arith) in
        let q : kind_at xs j ≡ 0 = split.words j b in
        let r : j < keys_of xs = omega arith in
        rw (spells_word (lexicon cs ls) (key_at xs i) p, spells_word (lexicon cs ls) (key_at xs j) q)
        (ascend_get (lexicon cs ls).words can.words_rise (value_at xs i) (value_at xs j) (values_before i j h r (p ∙ sym q))
        (omega (arith, word_below can j r q, length_words ls cs)))

    -- LONE CHARACTERS

    pub lone_rise : ValuesRise xs w
    lone_rise =
        record {
          within = split.within;
          rises = λ i j a p c. values_before i j p c (split.lone i a (omega arith) ∙ sym (split.lone j (omega arith) c));
        }

    lone_is : (i : ℕ) → w ≤ i → i < keys_of xs → spells (lexicon cs ls) (key_at xs i) ≡ value_at xs i ∷ []
    unfolding key
    lone_is i a b = spells_lone (lexicon cs ls) (key_at xs i) (split.lone i a b)

    pub lone_single : (i : ℕ) → w ≤ i → i < keys_of xs → length (spells (lexicon cs ls) (key_at xs i)) ≡ 1
    lone_single i a b = ap length (lone_is i a b)

    -- of all these lines only that of the string's character can agree, and it does
    module _ (s : List ℕ) (o : ℕ) {r : ℕ} (h : LoneLine xs w (get_or s o 0) r) where
      pub lone_others : OnlyLine (lexicon cs ls) xs s o w (keys_of xs) r
      lone_others i a b other =
          rw (lone_is i a b)
          (false_put (agrees s 0 (value_at xs i ∷ []) o)
          (λ t. h.others i a b other (sym (agree_first (agrees_get s 0 (value_at xs i ∷ []) o t)))))

      pub lone_agrees : r < keys_of xs → o < length s → agrees s 0 (spells (lexicon cs ls) (key_at xs r)) o ≡ true
      lone_agrees some below =
          rw (lone_is r h.from some) (sym (together s (value_at xs r ∷ []) o 1 below (λ z. omega arith) (omega arith) (λ j l. same j l)))
        where
          same : (j : ℕ) → j < 1 → get_or s (o + j) 0 ≡ get_or (value_at xs r ∷ []) j 0
          same j l =
              let z : j ≡ 0 = omega arith in
              let y : o + 0 ≡ o = omega arith in
              rw z (rw y (sym (h.is some)))
