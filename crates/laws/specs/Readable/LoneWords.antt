-- The walk over the words alongside ascending characters: which of the characters are words. Assumes nothing.
use Rattle.std.specs.Prelude.{◌≡◌, Bool, ◌||◌, ℕ, zero, suc, ◌+◌, ◌-◌, ◌≤◌, ◌<◌, length, take, drop}
use Rattle.std.proofs.Math.Path.{refl, sym, ap}
use Rattle.std.proofs.Common.{◌∙◌, inl, inr, add-one, arith, drop_of_length-le, drop-cons, drop-drop}
use Rattle.std.proofs.Math.Bool.{true, false}
use mathlib.Core.List.{List, [], ◌∷◌}
use Rattle.std.proofs.Math.Dec.{eqb}
use Rattle.std.proofs.Math.ListN.{get_or, length-drop}
use Rattle.std.proofs.Math.Seq.{length-take-le}
use borrow.Author.Tests.{eqb-true, eqb-false}
use Rattle.basics.specs.Bools.{clash, false_put, or_left}
use Rattle.basics.specs.Member.{In}
use Rattle.spec.specs.Dictionary.{words_from, lexicon, total, lengths_good, word_before, ascend}
use Rattle.spec.specs.Words.{same, listed, is_word}
use Rattle.laws.specs.Text.Strings.{same_get, same_put}
use Rattle.laws.specs.Dictionary.Keys.{listed_get}
use Rattle.laws.specs.Dictionary.WordOrder.{word_before_self, word_before_first, word_before_rest, word_before_trans, ascend_tail}
use Rattle.laws.specs.Dictionary.WordOrder.{ascend_first}
use Rattle.laws.specs.Dictionary.Lexicon.{IsAdmitted, lengths_good_get, lengths_good_put, lengths_good_tail}

-- word w starts at `at`, and a character from v on is a word exactly if it is one of the words from w on
pub record Passed (cs ls : List ℕ) (w at v : ℕ) : Type 0 where
  pub within : w ≤ length ls
  pub room : at + total (drop w ls) ≡ length cs
  pub good : lengths_good (drop w ls) ≡ true
  pub order : ascend (words_from (drop w ls) (drop at cs)) ≡ true
  pub left : (u : ℕ) → v ≤ u → listed (u ∷ []) (words_from (drop w ls) (drop at cs)) ≡ is_word (lexicon cs ls) (u ∷ [])

-- a part with at least one character
first_of :
    (l at : ℕ) (xs : List ℕ) → 1 ≤ l → at < length xs → take l (drop at xs) ≡ get_or xs at 0 ∷ take (l - 1) (drop (at + 1) xs)
first_of zero at xs some room = absurd (omega arith)
first_of (suc m) at xs some room = let z : suc m - 1 ≡ m = omega arith in rw (z, add-one at, drop-cons xs at 0)

after_nothing : (t : List ℕ) → 1 ≤ length t → word_before [] t ≡ true
unfolding word_before
after_nothing [] h = absurd (omega arith)
after_nothing (x ∷ xs) h = refl

pub passed_start : (cs ls : List ℕ) → IsAdmitted cs ls → Passed cs ls 0 0 0
unfolding lexicon is_word
passed_start cs ls h =
    record {
      within = omega arith;
      room = omega arith;
      good = lengths_good_put ls h.lengths;
      order = h.order;
      left = λ u b. refl;
    }

pub passed_raise : {cs ls : List ℕ} {w at v : ℕ} (u : ℕ) → v ≤ u → Passed cs ls w at v → Passed cs ls w at u
passed_raise u more h =
    record { within = h.within; room = h.room; good = h.good; order = h.order; left = λ x b. h.left x (omega arith) }

module _ {cs ls : List ℕ} {w at v : ℕ} (h : Passed cs ls w at v) where
  module _ (below : w < length ls) where
    split : drop w ls ≡ get_or ls w 0 ∷ drop (w + 1) ls
    split = rw (add-one, drop-cons ls w 0)

    word : List ℕ
    word = take (get_or ls w 0) (drop at cs)

    rest : List (List ℕ)
    rest = words_from (drop (w + 1) ls) (drop (at + get_or ls w 0) cs)

    words_split : words_from (drop w ls) (drop at cs) ≡ word ∷ rest
    unfolding words_from word rest
    words_split = ap (λ (l : List ℕ). words_from l (drop at cs)) split ∙ rw (drop-drop (get_or ls w 0) at cs)

    len : (1 ≤ get_or ls w 0) × (get_or ls w 0 ≤ 32)
    len =
        let good : lengths_good (get_or ls w 0 ∷ drop (w + 1) ls) ≡ true = sym (ap lengths_good split) ∙ h.good in
        lengths_good_get (get_or ls w 0 ∷ drop (w + 1) ls) good 0 (omega arith)

    sum : at + (get_or ls w 0 + total (drop (w + 1) ls)) ≡ length cs
    unfolding total
    sum = ap (λ (t : ℕ). at + t) (sym (ap total split)) ∙ h.room

    -- the word's characters lie within the slice
    pub word_room : at + get_or ls w 0 ≤ length cs
    word_room = omega (arith, sum)

    pub word_some : at < length cs
    word_some = omega (arith, sum, len)

    word_is : word ≡ get_or cs at 0 ∷ take (get_or ls w 0 - 1) (drop (at + 1) cs)
    unfolding word
    word_is = first_of (get_or ls w 0) at cs len.0 word_some

    word_length : length word ≡ get_or ls w 0
    unfolding word
    word_length = length-take-le (get_or ls w 0) (drop at cs) (omega (arith, length-drop at cs, sum))

    -- THE STEP: a word that starts with a character below v is no character from v on
    pub passed_step : get_or cs at 0 < v → Passed cs ls (w + 1) (at + get_or ls w 0) v
    unfolding listed rest
    passed_step less =
        record {
          within = omega arith;
          room = omega (arith, sum);
          good = lengths_good_tail (get_or ls w 0) (drop (w + 1) ls) (sym (ap lengths_good split) ∙ h.good);
          order = ascend_tail word rest (sym (ap ascend words_split) ∙ h.order);
          left = λ u b. left u b;
        }
      where
        other : (u : ℕ) → v ≤ u → same (u ∷ []) word ≡ false
        other u b =
            false_put (same (u ∷ []) word)
            (λ (t : same (u ∷ []) word ≡ true).
            let e : u ≡ get_or cs at 0 = ap (λ (l : List ℕ). get_or l 0 0) (same_get (u ∷ []) word t ∙ word_is) in omega arith)

        left : (u : ℕ) → v ≤ u → listed (u ∷ []) rest ≡ is_word (lexicon cs ls) (u ∷ [])
        left u b =
            ap (λ (t : Bool). t || listed (u ∷ []) rest) (sym (other u b))
            ∙ sym (ap (listed (u ∷ [])) words_split)
            ∙ h.left u b

  -- THE END: no word is left
  pub passed_none : length ls ≤ w → false ≡ is_word (lexicon cs ls) (v ∷ [])
  unfolding words_from listed
  passed_none past =
      ap (λ (l : List ℕ). listed (v ∷ []) (words_from l (drop at cs))) (sym (drop_of_length-le ls past)) ∙ h.left v (omega arith)

module _ {cs ls : List ℕ} {w at v : ℕ} (h : Passed cs ls w at v) (below : w < length ls) where
  abbrev here : List ℕ
  here = word h below

  abbrev others : List (List ℕ)
  others = rest h below

  abbrev beyond : List ℕ
  beyond = take (get_or ls w 0 - 1) (drop (at + 1) cs)

  left_is : listed (v ∷ []) (here ∷ others) ≡ is_word (lexicon cs ls) (v ∷ [])
  left_is =
      sym (ap (listed (v ∷ [])) (words_split h below)) ∙ h.left v (omega arith)

  here_is : here ≡ get_or cs at 0 ∷ beyond
  here_is = word_is h below

  -- a word after the character is not that character, nor is any word after it
  later : word_before (v ∷ []) here ≡ true → false ≡ is_word (lexicon cs ls) (v ∷ [])
  later t = sym (false_put (listed (v ∷ []) (here ∷ others)) wrong) ∙ left_is
    where
      after : (x : List ℕ) → In x (here ∷ others) → word_before (v ∷ []) x ≡ true
      after x (inl e) = rw e t
      after x (inr m) =
          word_before_trans (v ∷ []) here x t
          (ascend_first here x others (sym (ap ascend (words_split h below)) ∙ h.order) m)

      wrong : listed (v ∷ []) (here ∷ others) ≡ true → ⊥
      wrong l = clash (after (v ∷ []) (listed_get (v ∷ []) (here ∷ others) l)) (word_before_self (v ∷ []))

  pub passed_other : v < get_or cs at 0 → false ≡ is_word (lexicon cs ls) (v ∷ [])
  passed_other less = later (rw here_is (word_before_first v (get_or cs at 0) [] beyond less))

  pub passed_same : v ≡ get_or cs at 0 → eqb (get_or ls w 0) 1 ≡ is_word (lexicon cs ls) (v ∷ [])
  unfolding listed
  passed_same e = by_test (eqb (get_or ls w 0) 1) refl
    where
      by_test : (b : Bool) → eqb (get_or ls w 0) 1 ≡ b → b ≡ is_word (lexicon cs ls) (v ∷ [])
      by_test true t =
          let none : get_or ls w 0 - 1 ≡ 0 = omega (arith, eqb-true (get_or ls w 0) 1 t) in
          let is : here ≡ v ∷ [] = here_is ∙ rw (none, ← e) in
          sym (or_left (listed (v ∷ []) others) (same_put (v ∷ []) here (sym is))) ∙ left_is
      by_test false t =
          later (rw here_is (word_before_rest v (get_or cs at 0) [] beyond e
          (after_nothing beyond (omega (arith, more, beyond_length)))))
        where
          more : get_or ls w 0 ≡ 1 → ⊥
          more = eqb-false (get_or ls w 0) 1 t

          beyond_length : suc (length beyond) ≡ get_or ls w 0
          beyond_length = sym (ap length here_is) ∙ word_length h below
