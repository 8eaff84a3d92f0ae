-- The prefix range of the words that share a text's next characters, refined character by character: the last word that stands there is
-- the longest. Assumes nothing.
use Rattle.std.specs.Prelude.{◌≡◌, refl, true, ◌⊎◌, List, [], ◌∷◌, ℕ, zero, suc, ◌+◌, ◌-◌, ◌≤◌, ◌<◌, length, get_or}
use Rattle.std.proofs.Common.{sym, ap, ◌∙◌, inl, inr, ⊎_elim, arith}
use Rattle.basics.specs.Bools.{clash, le_or_lt}
use Rattle.basics.specs.LowerBound.{Rising}
use Rattle.spec.specs.Dictionary.{word_before, ascend}
use Rattle.laws.specs.Text.Strings.{Stand}
use Rattle.laws.specs.Text.Overlaps.{stand_at, stand_put}
use Rattle.laws.specs.Dictionary.WordOrder.{word_before_get, ascend_get}

-- TWO WORDS THAT SHARE THEIR FIRST d CHARACTERS

-- a word is not before a proper prefix of itself, nor before itself
pub prefix_not_before :
    (v w : List ℕ) → word_before w v ≡ true → length v ≤ length w → ((j : ℕ) → j < length v → get_or w j 0 ≡ get_or v j 0) → ⊥
unfolding word_before
prefix_not_before [] w t l same = clash t refl
prefix_not_before (y ∷ ys) [] t l same = absurd (omega arith)
prefix_not_before (y ∷ ys) (x ∷ xs) t l same =
    ⊎_elim (λ (p : x < y). omega (arith, same 0 (omega arith)))
    (λ (q : (x ≡ y) × (word_before xs ys ≡ true)).
    prefix_not_before ys xs q.1 (omega arith) (λ j b. same (suc j) (omega arith)))
    (word_before_get x y xs ys t)

-- the next characters of ascending words are nondecreasing
pub next_rises :
    (v w : List ℕ) (d : ℕ) → word_before v w ≡ true → d < length v → d < length w → ((j : ℕ) → j < d → get_or v j 0 ≡ get_or w j 0) →
    get_or v d 0 ≤ get_or w d 0
unfolding word_before
next_rises [] w d t a b same = absurd (omega arith)
next_rises (x ∷ xs) [] d t a b same = absurd (omega arith)
next_rises (x ∷ xs) (y ∷ ys) zero t a b same =
    ⊎_elim (λ (p : x < y). omega arith) (λ (q : (x ≡ y) × (word_before xs ys ≡ true)). omega arith) (word_before_get x y xs ys t)
next_rises (x ∷ xs) (y ∷ ys) (suc d) t a b same =
    ⊎_elim (λ (p : x < y). absurd (omega (arith, same 0 (omega arith))))
    (λ (q : (x ≡ y) × (word_before xs ys ≡ true)).
    next_rises xs ys d q.1 (omega arith) (omega arith) (λ j l. same (suc j) (omega arith)))
    (word_before_get x y xs ys t)

-- THE RESULT

-- `number` is 0, or one more than the number of the last of the first k words that stands at p
pub record LastStanding (ws : List (List ℕ)) (ts : List ℕ) (p k number : ℕ) : Type 0 where
  pub below : number ≤ k
  pub stand : (i : ℕ) → number ≡ suc i → Stand (get_or ws i []) ts p
  pub last : (i : ℕ) → i < k → Stand (get_or ws i []) ts p → i < number

-- THE PREFIX RANGE

-- Words lo to hi − 1 have at least d characters and share these with the text at p; `best` is the last of the other words that stand
-- there, as a number plus 1.
pub record PrefixRange (ws : List (List ℕ)) (ts : List ℕ) (p k lo hi d best : ℕ) : Type 0 where
  pub order : lo ≤ hi
  pub within : hi ≤ k
  pub known : k ≤ length ws
  pub from : 1 ≤ p
  pub reach : p + d ≤ suc (length ts)
  pub low : best ≤ lo
  pub stand : (i : ℕ) → best ≡ suc i → Stand (get_or ws i []) ts p
  pub len : (i : ℕ) → lo ≤ i → i < hi → d ≤ length (get_or ws i [])
  pub agree : (i j : ℕ) → lo ≤ i → i < hi → j < d → get_or (get_or ws i []) j 0 ≡ get_or ts (p + j - 1) 0
  pub rest : (i : ℕ) → i < k → Stand (get_or ws i []) ts p → (i < best) ⊎ ((lo ≤ i) × (i < hi))

-- r is the lower bound of c in the d-th characters of words lo to hi − 1: those before r are below c, the others are not
pub record LowerBoundAt (ws : List (List ℕ)) (lo hi d c r : ℕ) : Type 0 where
  pub from : lo ≤ r
  pub to : r ≤ hi
  pub below : (i : ℕ) → lo ≤ i → i < r → get_or (get_or ws i []) d 0 < c
  pub above : (i : ℕ) → r ≤ i → i < hi → c ≤ get_or (get_or ws i []) d 0

module _ {ws : List (List ℕ)} {ts : List ℕ} {p k : ℕ} where
  pub prefix_range_start : k ≤ length ws → 1 ≤ p → p ≤ suc (length ts) → PrefixRange ws ts p k 0 k 0 0
  prefix_range_start known from reach =
      record {
        order = omega arith;
        within = omega arith;
        known = known;
        from = from;
        reach = omega arith;
        low = omega arith;
        stand = λ i e. absurd (omega arith);
        len = λ i a b. omega arith;
        agree = λ i j a b l. absurd (omega arith);
        rest = λ i b s. inr (omega arith, b);
      }

  module _ {lo hi d best : ℕ} (h : PrefixRange ws ts p k lo hi d best) where
    pub prefix_range_end : hi ≤ lo → LastStanding ws ts p k best
    prefix_range_end done =
        record {
          below = omega arith;
          stand = h.stand;
          last = λ i b s. ⊎_elim (λ (l : i < best). l) (λ (q : (lo ≤ i) × (i < hi)). absurd (omega arith)) (h.rest i b s);
        }

    module _ (some : lo < hi) where
      -- a word of d characters stands, and takes the place of `best`
      pub prefix_range_hit : length (get_or ws lo []) ≡ d → PrefixRange ws ts p k (lo + 1) hi d (lo + 1)
      prefix_range_hit e =
          record {
            order = omega arith;
            within = h.within;
            known = h.known;
            from = h.from;
            reach = h.reach;
            low = omega arith;
            stand =
                λ i q.
                let here : i ≡ lo = omega arith in
                rw here
                (stand_put (get_or ws lo []) ts p h.from (omega arith)
                (λ j b. h.agree lo j (omega arith) some (omega arith)));
            len = λ i a b. h.len i (omega arith) b;
            agree = λ i j a b l. h.agree i j (omega arith) b l;
            rest =
                λ i b s.
                ⊎_elim (λ (l : i < best). inl (omega arith))
                (λ (q : (lo ≤ i) × (i < hi)).
                ⊎_elim (λ (l : i ≤ lo). inl (omega arith)) (λ (l : lo < i). inr (omega arith, q.1)) (le_or_lt i lo)) (h.rest i b s);
          }

      module _ (sorted : ascend ws ≡ true) (more : length (get_or ws lo []) ≡ d → ⊥) where
        -- if the first has more than d characters, all have
        pub prefix_range_longer : (i : ℕ) → lo ≤ i → i < hi → d < length (get_or ws i [])
        prefix_range_longer i a b =
            ⊎_elim (λ (l : length (get_or ws i []) ≤ d). absurd (no l)) (λ (l : d < length (get_or ws i [])). l)
            (le_or_lt (length (get_or ws i [])) d)
          where
            first : d < length (get_or ws lo [])
            first = omega (arith, more, h.len lo (omega arith) some)

            no : length (get_or ws i []) ≤ d → ⊥
            no l =
                ⊎_elim
                (λ (q : i ≤ lo). let here : i ≡ lo = omega arith in omega (arith, first, ap (λ (x : ℕ). length (get_or ws x [])) here))
                (λ (q : lo < i).
                prefix_not_before (get_or ws i []) (get_or ws lo []) (ascend_get ws sorted lo i q (omega arith)) (omega (arith, first))
                (λ j c. h.agree lo j (omega arith) some (omega arith) ∙ sym (h.agree i j a b (omega arith))))
                (le_or_lt i lo)

        -- the d-th characters are nondecreasing
        pub prefix_range_rises : Rising (λ (i : ℕ). get_or (get_or ws i []) d 0) lo hi
        prefix_range_rises = record { order = h.order; rises = rises }
          where
            rises : (i j : ℕ) → lo ≤ i → i ≤ j → j < hi → get_or (get_or ws i []) d 0 ≤ get_or (get_or ws j []) d 0
            rises i j a b c =
                ⊎_elim (λ (q : j ≤ i). let here : i ≡ j = omega arith in omega (arith, ap (λ (x : ℕ). get_or (get_or ws x []) d 0) here))
                (λ (q : i < j).
                next_rises (get_or ws i []) (get_or ws j []) d (ascend_get ws sorted i j q (omega arith))
                (prefix_range_longer i a (omega arith)) (prefix_range_longer j (omega arith) c)
                (λ x l. h.agree i x a (omega arith) l ∙ sym (h.agree j x (omega arith) c l)))
                (le_or_lt j i)

        -- if the text ends there, none of them stands
        pub prefix_range_stop : suc (length ts) ≤ p + d → LastStanding ws ts p k best
        prefix_range_stop past =
            record {
              below = omega arith;
              stand = h.stand;
              last =
                  λ i b s.
                  ⊎_elim (λ (l : i < best). l)
                  (λ (q : (lo ≤ i) × (i < hi)). absurd (omega (arith, prefix_range_longer i q.0 q.1))) (h.rest i b s);
            }

        -- the equal range of the text's next character is left
        pub prefix_range_step :
            {c from to : ℕ} → c ≡ get_or ts (p + d - 1) 0 → p + d ≤ length ts → LowerBoundAt ws lo hi d c from →
            LowerBoundAt ws from hi d (c + 1) to →
            PrefixRange ws ts p k from to (d + 1) best
        prefix_range_step {c} {from} {to} e room l r =
            record {
              order = r.from;
              within = omega arith;
              known = h.known;
              from = h.from;
              reach = omega arith;
              low = omega arith;
              stand = h.stand;
              len = λ i a b. omega (arith, prefix_range_longer i (omega arith) (omega arith));
              agree = agree;
              rest = λ i b s. ⊎_elim (λ (q : i < best). inl q) (λ (q : (lo ≤ i) × (i < hi)). inr (left i s q)) (h.rest i b s);
            }
          where
            char : (i : ℕ) → from ≤ i → i < to → get_or (get_or ws i []) d 0 ≡ c
            char i a b = omega (arith, l.above i a (omega arith), r.below i a b)

            agree : (i j : ℕ) → from ≤ i → i < to → j < d + 1 → get_or (get_or ws i []) j 0 ≡ get_or ts (p + j - 1) 0
            agree i j a b q =
                ⊎_elim (λ (z : d ≤ j). let here : j ≡ d = omega arith in rw here (char i a b ∙ e))
                (λ (z : j < d). h.agree i j (omega arith) (omega arith) z) (le_or_lt d j)

            left : (i : ℕ) → Stand (get_or ws i []) ts p → (lo ≤ i) × (i < hi) → (from ≤ i) × (i < to)
            left i s q =
                let here : get_or (get_or ws i []) d 0 ≡ c = stand_at d s (prefix_range_longer i q.0 q.1) ∙ sym e in
                let low : from ≤ i =
                ⊎_elim (λ (z : from ≤ i). z) (λ (z : i < from). absurd (omega (arith, l.below i q.0 z))) (le_or_lt from i) in
                let high : i < to =
                ⊎_elim (λ (z : to ≤ i). absurd (omega (arith, r.above i z q.1))) (λ (z : i < to). z) (le_or_lt to i) in
                (low, high)
