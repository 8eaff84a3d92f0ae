-- The longest word at a position: found in the chain of the two characters there, else in that of the one. Positions are q + 1 and ends
-- are e + 1, with q and e counted from 0 as in code. Assumes nothing.
use Rattle.std.specs.Prelude.{◌≡◌, List, [], ℕ, suc, ◌+◌, ◌-◌, ◌≤◌, ◌<◌, length, get_or}
use Rattle.std.proofs.Common.{sym, ap, ◌∙◌, ⊎_elim, arith}
use Rattle.basics.specs.Bools.{le_or_lt}
use Rattle.spec.specs.Dictionary.{Lexicon}
use Rattle.models.specs.WordStarts.{lengths_of, lexicon_at, word, word_len}
use Rattle.laws.specs.Text.Strings.{Stand}
use Rattle.laws.specs.Dictionary.Lexicon.{admitted_ascend}
use Rattle.laws.specs.Dictionary.Prefixes.{standing_ascend}
use Rattle.laws.specs.Dictionary.WordStarts.{len_is}
use Rattle.laws.specs.Entries.WordAt.{NoneAfter, WordAt}
use Rattle.laws.specs.Match.MatchTable.{Started, many_words, word_some}
use Rattle.laws.specs.Match.WordChains.{PairFound, SingleFound}

-- WHAT IS FOUND

-- word i is the longest that stands at p, has `len` characters and ends after `last`
pub record FoundWord (lex : Lexicon) (ts : List ℕ) (p last i len : ℕ) : Type 0 where
  pub is_word : WordAt lex ts p i
  pub len_is : len ≡ length (get_or lex.words i [])
  pub after : last < p + len

-- the longest word that stands at p and ends after `last`, by its number plus 1, or 0 if there is none
pub record Found (lex : Lexicon) (ts : List ℕ) (p last number len : ℕ) : Type 0 where
  pub none : number ≡ 0 → NoneAfter lex ts p last
  pub some : (i : ℕ) → number ≡ suc i → FoundWord lex ts p last i len

-- THE LONGEST OF TWO CHARACTERS OR MORE

-- no word of two characters or more that stands at p ends after `last`
abbrev pub Pairless : (ws : List (List ℕ)) (ts : List ℕ) (p last : ℕ) → Type 0
Pairless ws ts p last =
    (j : ℕ) → j < length ws → 2 ≤ length (get_or ws j []) → Stand (get_or ws j []) ts p → p + length (get_or ws j []) ≤ last

-- the longest word at p, if it has two characters or more and ends after `last`; 0 if there is no such word
pub record PairLongest (lex : Lexicon) (ts : List ℕ) (p last number len : ℕ) : Type 0 where
  pub none : number ≡ 0 → Pairless lex.words ts p last
  pub some : (i : ℕ) → number ≡ suc i → FoundWord lex ts p last i len

module _ {cs ws : List ℕ} (t : Started cs ws) where
  -- of two words that stand there the later one is the longer
  no_longer :
      (i j : ℕ) → j < suc i → i < length (lexicon_at cs ws).words → {ts : List ℕ} {p : ℕ} → Stand (word cs ws i) ts p →
      Stand (word cs ws j) ts p → length (word cs ws j) ≤ length (word cs ws i)
  no_longer i j l b s r =
      ⊎_elim (λ (z : i ≤ j). let same : i ≡ j = omega arith in omega (arith, ap (λ (x : ℕ). length (word cs ws x)) same))
      (λ (z : j < i).
      omega (arith, standing_ascend (lexicon_at cs ws).words (admitted_ascend cs (lengths_of ws) t.dictionary) j i z b r s))
      (le_or_lt i j)

  word_there : (j : ℕ) → j < length (lexicon_at cs ws).words → 1 ≤ length (word cs ws j)
  word_there j b =
      let in_list : j < length (lengths_of ws) = omega (arith, many_words t) in
      word_some t in_list

module _ {cs ws : List ℕ} (t : Started cs ws) (ts : List ℕ) (q e : ℕ) where
  -- the text ends after one character
  pub pair_past : length ts ≤ q + 1 → PairLongest (lexicon_at cs ws) ts (q + 1) (e + 1) 0 0
  pair_past end =
      record { none = λ z j b l s. absurd (omega arith); some = λ i z. absurd (omega arith) }

  module _ {number : ℕ} (h : PairFound (lexicon_at cs ws).words ts (q + 1) (e + 1) number) where
    pub pair_missing : number ≡ 0 → PairLongest (lexicon_at cs ws) ts (q + 1) (e + 1) 0 0
    pair_missing z =
        record {
          none =
              λ y j b l s.
              ⊎_elim (λ (x : q + 1 + length (word cs ws j) ≤ e + 1). x)
              (λ (x : e + 1 < q + 1 + length (word cs ws j)). absurd (omega (arith, h.over j b l s x)))
              (le_or_lt (q + 1 + length (word cs ws j)) (e + 1));
          some = λ i y. absurd (omega arith);
        }

    module _ (some : number ≡ 0 → ⊥) where
      pub pair_in : number - 1 < length (lengths_of ws)
      pair_in = omega (arith, some, many_words t)

      there : number - 1 < length (lexicon_at cs ws).words
      there = omega (arith, some)

      standing : Stand (word cs ws (number - 1)) ts (q + 1)
      standing = h.stand (number - 1) (omega (arith, some))

      -- the word ends too early, and so does every other
      pub pair_early : {len : ℕ} → len ≡ word_len ws (number - 1) → q + len ≤ e → PairLongest (lexicon_at cs ws) ts (q + 1) (e + 1) 0 0
      pair_early is early =
          record {
            none =
                λ y j b l s.
                ⊎_elim (λ (x : q + 1 + length (word cs ws j) ≤ e + 1). x)
                (λ (x : e + 1 < q + 1 + length (word cs ws j)).
                let before : j < number = h.over j b l s x in
                absurd (omega (
                  arith,
                  no_longer t (number - 1) j (omega (arith, some)) there standing s,
                  len_is t.words (number - 1) pair_in,
                )))
                (le_or_lt (q + 1 + length (word cs ws j)) (e + 1));
            some = λ i y. absurd (omega arith);
          }

      pub pair_longest :
          {len : ℕ} → len ≡ word_len ws (number - 1) → e < q + len → PairLongest (lexicon_at cs ws) ts (q + 1) (e + 1) number len
      pair_longest {len} is after = record {
        none = λ z. absurd (some z);
        some = λ i z. let here : number - 1 ≡ i =
            omega arith in rw (← here) found;
      }
        where
          longest : (j : ℕ) → j < length (lexicon_at cs ws).words → Stand (word cs ws j) ts (q + 1) →
              length (word cs ws j) ≤ length (word cs ws (number - 1))
          longest j b s =
              ⊎_elim
              (λ (l : 2 ≤ length (word cs ws j)).
              ⊎_elim (λ (x : q + 1 + length (word cs ws j) ≤ e + 1). omega (arith, len_is t.words (number - 1) pair_in))
              (λ (x : e + 1 < q + 1 + length (word cs ws j)).
              no_longer t (number - 1) j (omega (arith, some, h.over j b l s x)) there standing s)
              (le_or_lt (q + 1 + length (word cs ws j)) (e + 1)))
              (λ (l : length (word cs ws j) < 2). omega (arith, word_there t (number - 1) there)) (le_or_lt 2 (length (word cs ws j)))

          found : FoundWord (lexicon_at cs ws) ts (q + 1) (e + 1) (number - 1) len
          found =
              record {
                is_word = record { below = there; stand = standing; longest = longest };
                len_is = is ∙ len_is t.words (number - 1) pair_in;
                after = omega arith;
              }

  -- BOTH CHAINS

  module _ {number len : ℕ} (h : PairLongest (lexicon_at cs ws) ts (q + 1) (e + 1) number len) where
    pub found_pair : (number ≡ 0 → ⊥) → Found (lexicon_at cs ws) ts (q + 1) (e + 1) number len
    found_pair some = record { none = λ z. absurd (some z); some = h.some }

    -- a covered position: a word of one character ends too early
    pub found_none : number ≡ 0 → q < e → Found (lexicon_at cs ws) ts (q + 1) (e + 1) 0 0
    found_none z covered =
        record {
          none =
              λ y.
              record {
                none =
                    λ j b s.
                    ⊎_elim (λ (l : 2 ≤ length (word cs ws j)). h.none z j b l s) (λ (l : length (word cs ws j) < 2). omega arith)
                    (le_or_lt 2 (length (word cs ws j)));
              };
          some = λ i y. absurd (omega arith);
        }

    pub found_single :
        number ≡ 0 → e ≤ q → {single : ℕ} → SingleFound (lexicon_at cs ws).words ts (q + 1) single →
        Found (lexicon_at cs ws) ts (q + 1) (e + 1) single 1
    found_single none uncovered s =
        record {
          none = λ z. record { none = λ j b r. absurd (s.none z j b (short j b r) r) };
          some =
              λ i z.
              record {
                is_word =
                    record {
                      below = omega arith;
                      stand = s.stand i z;
                      longest = λ j b r. omega (arith, short j b r, s.one i z);
                    };
                len_is = sym (s.one i z);
                after = omega arith;
              };
        }
      where
        -- only words of one character stand there
        short : (j : ℕ) → j < length (lexicon_at cs ws).words → Stand (word cs ws j) ts (q + 1) → length (word cs ws j) ≡ 1
        short j b s =
            ⊎_elim (λ (l : 2 ≤ length (word cs ws j)). absurd (omega (arith, h.none none j b l s)))
            (λ (l : length (word cs ws j) < 2). let one : length (word cs ws j) ≡ 1 = omega (arith, word_there t j b) in one)
            (le_or_lt 2 (length (word cs ws j)))
