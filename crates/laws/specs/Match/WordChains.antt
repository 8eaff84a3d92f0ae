-- Walks along the two chains of the match table that belong to a position of a text: that of the two characters there, and that of the
-- one. Positions are q + 1 and ends are e + 1, with q and e counted from 0 as in code. Assumes nothing.
use Rattle.std.specs.Prelude.{◌≡◌, refl, Bool, true, false, List, [], ℕ, suc, ◌+◌, ◌-◌, ◌≤◌, ◌<◌, length, get_or}
use Rattle.std.proofs.Common.{sym, ap, ◌∙◌, ⊎_elim, arith}
use Rattle.basics.specs.Bools.{clash, Reflects}
use Rattle.models.specs.WordStarts.{lengths_of, lexicon_at, word, word_len}
use Rattle.models.specs.MatchTable.{pair_bucket, char_bucket, bucket_of}
use Rattle.laws.specs.Text.Strings.{SameRun, Stand}
use Rattle.laws.specs.Text.Overlaps.{stand_at, stand_put}
use Rattle.laws.specs.Dictionary.WordStarts.{end_room, word_end, len_is, word_char}
use Rattle.laws.specs.Match.HashChains.{Walk, Stop, walk_start, walk_stop, walk_end}
use Rattle.laws.specs.Match.MatchTable.{char_large, char_small, pair_small, bucket_pair, bucket_char, bucket_single, Started, Tables}
use Rattle.laws.specs.Match.MatchTable.{many_words, word_some, word_first}
use Rattle.laws.specs.Match.PrefixRanges.{LastStanding}

-- ONE WORD

-- whether a word stands at p and ends after `last`
pub record StandsAfter (w ts : List ℕ) (p last : ℕ) (r : Bool) : Type 0 where
  pub yes : r ≡ true → Stand w ts p × (last < p + length w)
  pub no : r ≡ false → Stand w ts p → p + length w ≤ last

module _ {cs ws : List ℕ} (t : Started cs ws) (q e i : ℕ) (below : i < length (lengths_of ws)) where
  len : word_len ws i ≡ length (word cs ws i)
  len = len_is t.words i below

  module _ {ts : List ℕ} where
    pub ends_early : q + word_len ws i ≤ e → StandsAfter (word cs ws i) ts (q + 1) (e + 1) false
    ends_early h = record { yes = λ b. clash b refl; no = λ b s. omega (arith, len) }

    pub runs_out : length ts < q + word_len ws i → StandsAfter (word cs ws i) ts (q + 1) (e + 1) false
    runs_out h = record { yes = λ b. clash b refl; no = λ b s. absurd (omega (arith, len)) }

    pub compared :
        {r : Bool} → e < q + word_len ws i → q + word_len ws i ≤ length ts →
        Reflects r (SameRun cs (get_or ws i 0) ts q (word_len ws i)) → StandsAfter (word cs ws i) ts (q + 1) (e + 1) r
    compared after room h =
        record {
          yes =
              λ b. (
                stand_put (word cs ws i) ts (q + 1) (omega arith) (omega (arith, len))
                    (λ j l. sym (word_char t.words i below j l) ∙ h.holds b j (omega (arith, len)) ∙ position j),
                omega (arith, len),
              );
          no =
              λ b s.
              absurd
              (h.fails b
              (λ j l.
              word_char t.words i below j (omega (arith, len)) ∙ stand_at j s (omega (arith, len)) ∙ sym (position j)));
        }
      where
        position : (j : ℕ) → get_or ts (q + j) 0 ≡ get_or ts (q + 1 + j - 1) 0
        position j =
            let at : q + j ≡ q + 1 + j - 1 = omega arith in
            ap (λ (x : ℕ). get_or ts x 0) at

-- THE CHAIN OF TWO CHARACTERS

-- `number` is 0 or one more than the number of a word that stands at p; every word of two characters or more that stands there and ends
-- after `last` has a number below it
pub record PairFound (ws : List (List ℕ)) (ts : List ℕ) (p last number : ℕ) : Type 0 where
  pub below : number ≤ length ws
  pub stand : (i : ℕ) → number ≡ suc i → Stand (get_or ws i []) ts p
  pub over :
      (j : ℕ) → j < length ws → 2 ≤ length (get_or ws j []) → Stand (get_or ws j []) ts p → last < p + length (get_or ws j []) → j < number

-- a word may be skipped if it does not stand, or ends too early
abbrev pub Passed : (cs ws ts : List ℕ) (p last j : ℕ) → Type 0
Passed cs ws ts p last j = Stand (word cs ws j) ts p → p + length (word cs ws j) ≤ last

abbrev pub PairWalk : (cs ws links ts : List ℕ) (q e next : ℕ) → Type 0
PairWalk cs ws links ts q e =
    Walk links (bucket_of cs ws) (pair_bucket (get_or ts q 0) (get_or ts (q + 1) 0)) (length (lengths_of ws))
    (Passed cs ws ts (q + 1) (e + 1))

module _ {cs ws heads links : List ℕ} (t : Tables cs ws heads links) (ts : List ℕ) (q e : ℕ) where
  pub pair_start : PairWalk cs ws links ts q e (get_or heads (pair_bucket (get_or ts q 0) (get_or ts (q + 1) 0)) 0)
  pair_start =
      walk_start
      (t.chains (pair_bucket (get_or ts q 0) (get_or ts (q + 1) 0)) (omega (arith, pair_small (get_or ts q 0) (get_or ts (q + 1) 0))))

  -- a word of two characters or more that stands there is in that bucket
  pair_mine :
      (j : ℕ) → 2 ≤ length (word cs ws j) → Stand (word cs ws j) ts (q + 1) →
      bucket_of cs ws j ≡ pair_bucket (get_or ts q 0) (get_or ts (q + 1) 0)
  pair_mine j l s =
      let first : q + 1 + 0 - 1 ≡ q = omega arith in
      let second : q + 1 + 1 - 1 ≡ q + 1 = omega arith in
      let a : get_or (word cs ws j) 0 0 ≡ get_or ts q 0 = rw first at (stand_at 0 s (omega arith)) in
      let b : get_or (word cs ws j) 1 0 ≡ get_or ts (q + 1) 0 = rw second at (stand_at 1 s (omega arith)) in
      bucket_pair (word cs ws j) l ∙ rw (a, b)

  known : (j : ℕ) → j < length (lexicon_at cs ws).words → j < length (lengths_of ws)
  known j b = omega (arith, many_words t.words)

  pub pair_none : PairWalk cs ws links ts q e 0 → PairFound (lexicon_at cs ws).words ts (q + 1) (e + 1) 0
  pair_none w =
      record {
        below = omega arith;
        stand = λ i z. absurd (omega arith);
        over =
            λ j b l s a.
            absurd
            (omega (
              arith,
              walk_end w j (known j b) (pair_mine j l s) s,
            ));
      }

  module _ {next : ℕ} (w : PairWalk cs ws links ts q e next) (some : next ≡ 0 → ⊥) where
    pub pair_stop :
        Stop links (bucket_of cs ws) (pair_bucket (get_or ts q 0) (get_or ts (q + 1) 0)) (length (lengths_of ws))
        (Passed cs ws ts (q + 1) (e + 1)) next
    pair_stop = walk_stop w some

    pub pair_known : next - 1 < length (lengths_of ws)
    pair_known = omega (arith, some, pair_stop.below)

    pub pair_below : next ≤ length (lexicon_at cs ws).words
    pair_below = omega (arith, pair_stop.below, many_words t.words)

    -- the words after it have been skipped
    pub pair_ranged :
        {number : ℕ} → LastStanding (lexicon_at cs ws).words ts (q + 1) next number →
        PairFound (lexicon_at cs ws).words ts (q + 1) (e + 1) number
    pair_ranged h =
        record {
          below = omega (arith, pair_below);
          stand = h.stand;
          over =
              λ j b l s a.
              ⊎_elim (λ x. h.last j x s) (λ (z : Passed cs ws ts (q + 1) (e + 1) j). absurd (omega (arith, z s)))
              (pair_stop.left j (known j b) (pair_mine j l s));
        }

    pub pair_hit :
        {r : Bool} → StandsAfter (word cs ws (next - 1)) ts (q + 1) (e + 1) r → r ≡ true →
        PairFound (lexicon_at cs ws).words ts (q + 1) (e + 1) next
    pair_hit h b =
        pair_ranged
        (record {
          below = omega arith;
          stand = λ i z. let here : next - 1 ≡ i = omega arith in rw here at (h.yes b).0;
          last = λ j x s. x;
        })

    pub pair_miss :
        {r : Bool} → StandsAfter (word cs ws (next - 1)) ts (q + 1) (e + 1) r → r ≡ false →
        PairWalk cs ws links ts q e (get_or links (next - 1) 0)
    pair_miss h b = pair_stop.onward (h.no b)

-- THE CHAIN OF ONE CHARACTER

-- `number` is 0 or one more than the number of the word that is the one character at p
pub record SingleFound (ws : List (List ℕ)) (ts : List ℕ) (p number : ℕ) : Type 0 where
  pub below : number ≤ length ws
  pub stand : (i : ℕ) → number ≡ suc i → Stand (get_or ws i []) ts p
  pub one : (i : ℕ) → number ≡ suc i → length (get_or ws i []) ≡ 1
  pub none : number ≡ 0 → (j : ℕ) → j < length ws → length (get_or ws j []) ≡ 1 → Stand (get_or ws j []) ts p → ⊥

abbrev pub Other : (cs ws : List ℕ) (c j : ℕ) → Type 0
Other cs ws c j = get_or (word cs ws j) 0 0 ≡ c → ⊥

abbrev pub SingleWalk : (cs ws links : List ℕ) (c next : ℕ) → Type 0
SingleWalk cs ws links c = Walk links (bucket_of cs ws) (char_bucket c) (length (lengths_of ws)) (Other cs ws c)

module _ {cs ws heads links : List ℕ} (t : Tables cs ws heads links) (ts : List ℕ) (q : ℕ) where
  pub single_start : SingleWalk cs ws links (get_or ts q 0) (get_or heads (char_bucket (get_or ts q 0)) 0)
  single_start =
      walk_start (t.chains (char_bucket (get_or ts q 0)) (char_small (get_or ts q 0)))

  pub single_none : SingleWalk cs ws links (get_or ts q 0) 0 → SingleFound (lexicon_at cs ws).words ts (q + 1) 0
  single_none w =
      record {
        below = omega arith;
        stand = λ i z. absurd (omega arith);
        one = λ i z. absurd (omega arith);
        none = λ z j b l s. none j (omega (arith, many_words t.words)) l (first j l s);
      }
    where
      first : (j : ℕ) → length (word cs ws j) ≡ 1 → Stand (word cs ws j) ts (q + 1) → get_or (word cs ws j) 0 0 ≡ get_or ts q 0
      first j l s =
          let at : q + 1 + 0 - 1 ≡ q = omega arith in
          rw at at (stand_at 0 s (omega arith))

      none : (j : ℕ) → j < length (lengths_of ws) → length (word cs ws j) ≡ 1 → get_or (word cs ws j) 0 0 ≡ get_or ts q 0 → ⊥
      none j b l same =
          walk_end w j b
          (bucket_char (word cs ws j) l ∙ rw same) same

  module _ {next : ℕ} (w : SingleWalk cs ws links (get_or ts q 0) next) (some : next ≡ 0 → ⊥) where
    pub single_stop : Stop links (bucket_of cs ws) (char_bucket (get_or ts q 0)) (length (lengths_of ws)) (Other cs ws (get_or ts q 0)) next
    single_stop = walk_stop w some

    pub single_known : next - 1 < length (lengths_of ws)
    single_known = omega (arith, some, single_stop.below)

    single_len : length (word cs ws (next - 1)) ≡ 1
    single_len = bucket_single (word cs ws (next - 1)) (omega (arith, single_stop.mine, char_large (get_or ts q 0)))

    pub single_room : get_or ws (next - 1) 0 < length cs
    single_room =
        omega (
          arith,
          word_some t.words single_known,
          word_end t.words.words (next - 1) single_known,
          end_room t.words.words (next - 1) single_known,
        )

    single_read : get_or cs (get_or ws (next - 1) 0) 0 ≡ get_or (word cs ws (next - 1)) 0 0
    single_read = word_first t.words single_known

    pub single_hit :
        q < length ts → get_or cs (get_or ws (next - 1) 0) 0 ≡ get_or ts q 0 → SingleFound (lexicon_at cs ws).words ts (q + 1) next
    single_hit room same =
        record {
          below = omega (arith, single_stop.below, many_words t.words);
          stand = λ i z. let here : next - 1 ≡ i = omega arith in rw here at stand;
          one = λ i z. let here : next - 1 ≡ i = omega arith in rw here at single_len;
          none = λ z. absurd (some z);
        }
      where
        char : (j : ℕ) → j < length (word cs ws (next - 1)) → get_or (word cs ws (next - 1)) j 0 ≡ get_or ts (q + 1 + j - 1) 0
        char j b =
            let first : j ≡ 0 = omega (arith, single_len) in
            let at : q ≡ q + 1 + 0 - 1 = omega arith in
            rw first (sym single_read ∙ same ∙ ap (λ (x : ℕ). get_or ts x 0) at)

        stand : Stand (word cs ws (next - 1)) ts (q + 1)
        stand = stand_put (word cs ws (next - 1)) ts (q + 1) (omega arith) (omega (arith, single_len)) char

    pub single_miss :
        (get_or cs (get_or ws (next - 1) 0) 0 ≡ get_or ts q 0 → ⊥) → SingleWalk cs ws links (get_or ts q 0) (get_or links (next - 1) 0)
    single_miss other = single_stop.onward (λ same. other (single_read ∙ same))
