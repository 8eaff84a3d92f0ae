-- Admission, as facts: an admitted dictionary has distinct ascending words of 1 to 32 characters, none of which has a full-width form.
-- Assumes nothing.
use Rattle.std.specs.Prelude.{◌≡◌, refl, Bool, true, false, ◌&&◌, ◌||◌, cond, List, [], ◌∷◌}
use Rattle.std.specs.Prelude.{ℕ, zero, suc, ◌≤◌, ◌<◌, ltb, leb, eqb, length, get_or, drop}
use Rattle.std.proofs.Common.{ap, ◌∙◌, inl, inr, arith, length-drop, length-take-le, le-ltb, le-leb, eq-eqb, ltb-false, eqb-true}
use Rattle.std.proofs.lemmas.Bool.{not-false}
use Rattle.basics.specs.Bools.{clash, and_put, between_get, and_left, and_right, or_none}
use Rattle.basics.specs.Member.{In}
use Rattle.spec.specs.Dictionary.{all_chars, words_from, lexicon, total, too_large, length_good, lengths_good, lengths_wrong}
use Rattle.spec.specs.Dictionary.{ascend, disordered, some_full_width, unreplaced, dictionary_refusal, admitted}
use Rattle.laws.specs.Text.Facts.{Chars, GoodLexicon}
use Rattle.laws.specs.Text.WidthFolding.{words_plain_get}
use Rattle.laws.specs.Text.Chars.{all_chars_get, all_chars_put, chars_take, chars_drop}
use Rattle.laws.specs.Dictionary.WordOrder.{ascend_distinct}

-- ADMISSION

pub lengths_good_get : (ls : List ℕ) → lengths_good ls ≡ true → (i : ℕ) → i < length ls → (1 ≤ get_or ls i 0) × (get_or ls i 0 ≤ 32)
unfolding lengths_good length_good
lengths_good_get [] t i h = absurd (omega arith)
lengths_good_get (l ∷ ls) t zero h =
    between_get l (and_left (leb 1 l && leb l 32) (lengths_good ls) t)
lengths_good_get (l ∷ ls) t (suc i) h =
    lengths_good_get ls (and_right (leb 1 l && leb l 32) (lengths_good ls) t) i (omega arith)

pub lengths_good_put :
    (ls : List ℕ) → ((i : ℕ) → i < length ls → (1 ≤ get_or ls i 0) × (get_or ls i 0 ≤ 32)) → lengths_good ls ≡ true
unfolding lengths_good length_good
lengths_good_put [] h = refl
lengths_good_put (l ∷ ls) h =
    let here : (1 ≤ l) × (l ≤ 32) = h 0 (omega arith) in
    and_put (and_put (le-leb 1 l here.0) (le-leb l 32 here.1)) (lengths_good_put ls (λ i b. h (suc i) (omega arith)))

pub lengths_good_tail : (l : ℕ) (ls : List ℕ) → lengths_good (l ∷ ls) ≡ true → lengths_good ls ≡ true
unfolding lengths_good
lengths_good_tail l ls t = and_right (length_good l) (lengths_good ls) t

-- admission, as facts
pub record IsAdmitted (cs ls : List ℕ) : Type 0 where
  pub chars : Chars cs
  pub few : length ls ≤ 4096
  pub small : length cs ≤ 65535
  pub lengths : (i : ℕ) → i < length ls → (1 ≤ get_or ls i 0) × (get_or ls i 0 ≤ 32)
  pub sum : total ls ≡ length cs
  pub order : ascend (words_from ls cs) ≡ true
  pub plain : some_full_width (words_from ls cs) ≡ false

-- no line is met
none_met :
    (a b c d : Bool) → eqb (cond a 1 (cond b 2 (cond c 3 (cond d 12 0)))) 0 ≡ true →
    (a ≡ false) × (b ≡ false) × (c ≡ false) × (d ≡ false)
none_met true b c d t = clash t refl
none_met false true c d t = clash t refl
none_met false false true d t = clash t refl
none_met false false false true t = clash t refl
none_met false false false false t = (refl, refl, refl, refl)

or_false_left : (a b : Bool) → (a || b) ≡ false → a ≡ false
or_false_left true b t = t
or_false_left false b t = refl

or_false_right : (a b : Bool) → (a || b) ≡ false → b ≡ false
or_false_right true b t = clash refl t
or_false_right false b t = t

pub admitted_get : (cs ls : List ℕ) → admitted cs ls ≡ true → IsAdmitted cs ls
unfolding admitted dictionary_refusal too_large lengths_wrong disordered unreplaced
admitted_get cs ls t =
    record {
      chars = all_chars_get cs (and_left (all_chars cs) (eqb (dictionary_refusal cs ls) 0) t);
      few = ltb-false 4096 (length ls) (or_false_left (ltb 4096 (length ls)) (ltb 65535 (length cs)) met.0);
      small = ltb-false 65535 (length cs) (or_false_right (ltb 4096 (length ls)) (ltb 65535 (length cs)) met.0);
      lengths = lengths_good_get ls (and_left (lengths_good ls) (eqb (total ls) (length cs)) sums);
      sum = eqb-true (total ls) (length cs) (and_right (lengths_good ls) (eqb (total ls) (length cs)) sums);
      order = not-false (ascend (words_from ls cs)) met.2;
      plain = met.3;
    }
  where
    met : (too_large cs ls ≡ false) × (lengths_wrong cs ls ≡ false) × (disordered cs ls ≡ false) × (unreplaced cs ls ≡ false)
    met =
        none_met (too_large cs ls) (lengths_wrong cs ls) (disordered cs ls) (unreplaced cs ls)
        (and_right (all_chars cs) (eqb (dictionary_refusal cs ls) 0) t)

    sums : (lengths_good ls && eqb (total ls) (length cs)) ≡ true
    sums = not-false (lengths_good ls && eqb (total ls) (length cs)) met.1

pub admitted_put : (cs ls : List ℕ) → IsAdmitted cs ls → admitted cs ls ≡ true
unfolding admitted dictionary_refusal too_large lengths_wrong disordered unreplaced
admitted_put cs ls a =
    and_put (all_chars_put cs a.chars) (rw (fits, sums, a.order, a.plain) refl)
  where
    fits : (ltb 4096 (length ls) || ltb 65535 (length cs)) ≡ false
    fits = or_none (le-ltb 4096 (length ls) a.few) (le-ltb 65535 (length cs) a.small)

    sums : (lengths_good ls && eqb (total ls) (length cs)) ≡ true
    sums = and_put (lengths_good_put ls a.lengths) (eq-eqb (total ls) (length cs) a.sum)

-- THE LEXICON

pub length_words : (ls cs : List ℕ) → length (words_from ls cs) ≡ length ls
unfolding words_from
length_words [] cs = refl
length_words (l ∷ ls) cs = ap suc (length_words ls (drop l cs))

-- if there are enough characters, each word has its full length
pub words_len :
    (ls cs : List ℕ) (i : ℕ) → total ls ≤ length cs → i < length ls → length (get_or (words_from ls cs) i []) ≡ get_or ls i 0
unfolding words_from total
words_len [] cs i h b = absurd (omega arith)
words_len (l ∷ ls) cs zero h b = length-take-le l cs (omega arith)
words_len (l ∷ ls) cs (suc i) h b = words_len ls (drop l cs) i (omega (arith, length-drop l cs)) (omega arith)

pub word_lengths :
    (ls cs : List ℕ) → lengths_good ls ≡ true → total ls ≤ length cs → (w : List ℕ) → In w (words_from ls cs) →
    (1 ≤ length w) × (length w ≤ 32)
unfolding words_from total
word_lengths [] cs g h w m = absurd m
word_lengths (l ∷ ls) cs g h w (inl e) =
    let good : (1 ≤ l) × (l ≤ 32) = lengths_good_get (l ∷ ls) g 0 (omega arith) in
    let len : length w ≡ l = ap length e ∙ length-take-le l cs (omega arith) in
    (omega arith, omega arith)
word_lengths (l ∷ ls) cs g h w (inr m) =
    word_lengths ls (drop l cs) (lengths_good_tail l ls g) (omega (arith, length-drop l cs)) w m

pub word_chars : (ls cs : List ℕ) → Chars cs → (w : List ℕ) → In w (words_from ls cs) → Chars w
unfolding words_from
word_chars [] cs c w m = absurd m
word_chars (l ∷ ls) cs c w (inl e) = rw e (chars_take l cs c)
word_chars (l ∷ ls) cs c w (inr m) = word_chars ls (drop l cs) (chars_drop l cs c) w m

pub admitted_lexicon : (cs ls : List ℕ) → admitted cs ls ≡ true → GoodLexicon (lexicon cs ls)
unfolding lexicon
admitted_lexicon cs ls t =
    record {
      few = rw (length_words ls cs) a.few;
      nonempty = λ w m. (len w m).0;
      short = λ w m. (len w m).1;
      chars = word_chars ls cs a.chars;
      plain = words_plain_get (words_from ls cs) a.plain;
      distinct = ascend_distinct (words_from ls cs) a.order;
    }
  where
    a : IsAdmitted cs ls
    a = admitted_get cs ls t

    len : (w : List ℕ) → In w (words_from ls cs) → (1 ≤ length w) × (length w ≤ 32)
    len = word_lengths ls cs (lengths_good_put ls a.lengths) (omega (arith, a.sum))

pub admitted_ascend : (cs ls : List ℕ) → admitted cs ls ≡ true → ascend (lexicon cs ls).words ≡ true
unfolding lexicon
admitted_ascend cs ls t = (admitted_get cs ls t).order
