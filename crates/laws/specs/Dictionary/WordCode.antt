-- The test that one word is before another: the loop over characters, and the packed first three characters, which decide most
-- comparisons. Assumes nothing.
use Rattle.std.specs.Prelude.{◌≡◌, refl, Bool, true, false, ◌&&◌, ◌||◌, cond, List, [], ◌∷◌, ◌⊎◌, ℕ}
use Rattle.std.specs.Prelude.{zero, suc, ◌+◌, ◌*◌, ◌-◌, ◌≤◌, ◌<◌, min, ltb, eqb, get_or, take, drop}
use Rattle.std.proofs.Math.Path.{sym}
use Rattle.std.proofs.Common.{ap, ◌∙◌, inl, inr, add-one, length-drop, drop_of_length-le, drop-drop}
use Rattle.std.proofs.Common.{get_or-take, get_or-drop, length-take-le, lt-ltb, le-ltb, eq-eqb, ne_eqb}
use Rattle.std.proofs.Math.Logic.{⊎_elim}
use native.Mathlib.Omega.{arith}
use Rattle.std.proofs.Math.ListN.{length}
use Rattle.std.proofs.Math.Seq.{drop-cons}
use Rattle.basics.specs.Bools.{or_left, or_false, le_or_lt}
use Rattle.spec.specs.Dictionary.{word_before}

-- THE LOOP OVER CHARACTERS: both words from i on

module _ (w v : List ℕ) (i : ℕ) where
  heads :
      i < length w → i < length v →
      word_before (drop i w) (drop i v)
      ≡ (ltb (get_or w i 0) (get_or v i 0) || (eqb (get_or w i 0) (get_or v i 0) && word_before (drop (i + 1) w) (drop (i + 1) v)))
  unfolding word_before
  heads a b = rw (add-one i, drop-cons w i 0, drop-cons v i 0)

  pub before_differ :
      i < length w → i < length v → (get_or w i 0 ≡ get_or v i 0 → ⊥) →
      word_before (drop i w) (drop i v) ≡ ltb (get_or w i 0) (get_or v i 0)
  before_differ a b differ = heads a b ∙ rw (ne_eqb (get_or w i 0) (get_or v i 0) differ) (or_false (ltb (get_or w i 0) (get_or v i 0)))

  pub before_same :
      i < length w → i < length v → get_or w i 0 ≡ get_or v i 0 →
      word_before (drop i w) (drop i v) ≡ word_before (drop (i + 1) w) (drop (i + 1) v)
  before_same a b e =
      heads a b ∙ rw (le-ltb (get_or w i 0) (get_or v i 0) (omega arith), eq-eqb (get_or w i 0) (get_or v i 0) e)

  before_end : length v ≤ i → word_before (drop i w) (drop i v) ≡ false
  unfolding word_before
  before_end b = rw (drop_of_length-le v b)

  -- one word is read to its end, and the other is equal to it so far
  pub before_read :
      min (length w) (length v) ≤ i → i ≤ length w → i ≤ length v → word_before (drop i w) (drop i v) ≡ ltb (length w) (length v)
  unfolding word_before
  before_read past within some =
      ⊎_elim
      (λ (e : length v ≤ i). before_end e ∙ sym (le-ltb (length w) (length v) (omega arith)))
      (λ (l : i < length v).
      let read : length w ≤ i = omega arith in
      rw (drop_of_length-le w read, drop-cons v i 0) (sym (lt-ltb (length w) (length v) (omega arith))))
      (le_or_lt (length v) i)

-- the words' rests from i on compare as the words do
pub record EqualFront (w v : List ℕ) (i : ℕ) : Type 0 where
  pub left : i ≤ length w
  pub right : i ≤ length v
  pub same : word_before (drop i w) (drop i v) ≡ word_before w v

-- one more equal character, and four more
pub equal_one :
    {w v : List ℕ} {i j : ℕ} → j ≡ i + 1 → i < length w → i < length v → get_or w i 0 ≡ get_or v i 0 → EqualFront w v i → EqualFront w v j
equal_one {w} {v} {i} next a b same h =
    rw next (record { left = omega arith; right = omega arith; same = sym (before_same w v i a b same) ∙ h.same })

pub equal_four :
    {w v : List ℕ} {i : ℕ} → i + 3 < length w → i + 3 < length v → get_or w i 0 ≡ get_or v i 0 → get_or w (i + 1) 0 ≡ get_or v (i + 1) 0 →
    get_or w (i + 2) 0 ≡ get_or v (i + 2) 0 → get_or w (i + 3) 0 ≡ get_or v (i + 3) 0 → EqualFront w v i → EqualFront w v (i + 4)
equal_four {w} {v} {i} a b first second third fourth h =
    let one : EqualFront w v (i + 1) = equal_one refl (omega arith) (omega arith) first h in
    let two : EqualFront w v (i + 2) = equal_one (omega arith) (omega arith) (omega arith) second one in
    let three : EqualFront w v (i + 3) = equal_one (omega arith) (omega arith) (omega arith) third two in
    equal_one (omega arith) a b fourth three

-- THE PACKED START OF A WORD

-- one more than the first character, or 0 if there is none
unfoldable pub first_digit : List ℕ → ℕ
first_digit [] = 0
first_digit (x ∷ xs) = x + 1

unfoldable pub code : List ℕ → ℕ
code w = (first_digit w * 131072 + first_digit (drop 1 w)) * 131072 + first_digit (drop 2 w)

-- every number of the list has 16 bits
abbrev pub Small : List ℕ → Type 0
Small w = (i : ℕ) → get_or w i 0 ≤ 65535

digit_small : (w : List ℕ) → Small w → first_digit w ≤ 65536
unfolding first_digit
digit_small [] h = omega arith
digit_small (x ∷ xs) h = omega (arith, h 0)

pub small_drop : (i : ℕ) (w : List ℕ) → Small w → Small (drop i w)
small_drop i w h j = rw (get_or-drop i w j 0) (h (i + j))

digit_less : (w v : List ℕ) → first_digit w < first_digit v → word_before w v ≡ true
unfolding first_digit word_before
digit_less w [] h = absurd (omega arith)
digit_less [] (y ∷ ys) h = refl
digit_less (x ∷ xs) (y ∷ ys) h = or_left _ (lt-ltb x y (omega arith))

digit_more : (w v : List ℕ) → first_digit v < first_digit w → word_before w v ≡ false
unfolding first_digit word_before
digit_more w [] h = refl
digit_more [] (y ∷ ys) h = absurd (omega arith)
digit_more (x ∷ xs) (y ∷ ys) h = rw (le-ltb x y (omega arith), ne_eqb x y (λ (e : x ≡ y). omega arith))

digit_same : (w v : List ℕ) → first_digit w ≡ first_digit v → word_before w v ≡ word_before (drop 1 w) (drop 1 v)
unfolding first_digit word_before
digit_same [] [] h = refl
digit_same (x ∷ xs) [] h = absurd (omega arith)
digit_same [] (y ∷ ys) h = absurd (omega arith)
digit_same (x ∷ xs) (y ∷ ys) h = rw (le-ltb x y (omega arith), eq-eqb x y (omega arith))

-- if the first digits are equal, the second decide, and then the third
below_first :
    (w v : List ℕ) → first_digit w ≡ first_digit v → first_digit (drop 1 w) ≡ first_digit (drop 1 v) →
    word_before w v ≡ word_before (drop 2 w) (drop 2 v)
below_first w v d e =
    digit_same w v d
    ∙ digit_same (drop 1 w) (drop 1 v) e
    ∙ ap (λ (l : List ℕ). word_before l (drop 1 (drop 1 v))) (drop-drop 1 1 w)
    ∙ ap (λ (l : List ℕ). word_before (drop 2 w) l) (drop-drop 1 1 v)

-- if one number of three digits is below another, the first digit that differs is below
lower :
    {a b c x y z : ℕ} → b ≤ 65536 → c ≤ 65536 → y ≤ 65536 → z ≤ 65536 →
    (a * 131072 + b) * 131072 + c < (x * 131072 + y) * 131072 + z →
    (a < x) ⊎ (((a ≡ x) × (b < y)) ⊎ ((a ≡ x) × (b ≡ y) × (c < z)))
lower {a} {b} {x} {y} hb hc hy hz h =
    ⊎_elim
    (λ (p : x ≤ a).
    let e : a ≡ x = omega arith in
    ⊎_elim
    (λ (q : y ≤ b). inr (inr (e, omega arith, omega arith)))
    (λ (q : b < y). inr (inl (e, q)))
    (le_or_lt y b))
    (λ (p : a < x). inl p)
    (le_or_lt x a)

differ :
    (w v : List ℕ) → Small w → Small v → code w < code v →
    (first_digit w < first_digit v)
    ⊎ (((first_digit w ≡ first_digit v) × (first_digit (drop 1 w) < first_digit (drop 1 v)))
    ⊎ ((first_digit w ≡ first_digit v) × (first_digit (drop 1 w) ≡ first_digit (drop 1 v)) ×
    (first_digit (drop 2 w) < first_digit (drop 2 v))))
unfolding code
differ w v hw hv h =
    lower (later 1 w hw) (later 2 w hw) (later 1 v hv) (later 2 v hv) h
  where
    later : (i : ℕ) (u : List ℕ) → Small u → first_digit (drop i u) ≤ 65536
    later i u hu = digit_small (drop i u) (small_drop i u hu)

module _ (w v : List ℕ) (hw : Small w) (hv : Small v) where
  pub code_less : code w < code v → word_before w v ≡ true
  unfolding code
  code_less h =
      ⊎_elim
      (λ (p : first_digit w < first_digit v). digit_less w v p)
      (⊎_elim
      (λ (p : (first_digit w ≡ first_digit v) × (first_digit (drop 1 w) < first_digit (drop 1 v))).
      digit_same w v p.0 ∙ digit_less (drop 1 w) (drop 1 v) p.1)
      (λ (p : (first_digit w ≡ first_digit v) × (first_digit (drop 1 w) ≡ first_digit (drop 1 v)) ×
      (first_digit (drop 2 w) < first_digit (drop 2 v))).
      below_first w v p.0 p.1 ∙ digit_less (drop 2 w) (drop 2 v) p.2))
      (differ w v hw hv h)

  pub code_more : code v < code w → word_before w v ≡ false
  unfolding code
  code_more h =
      ⊎_elim
      (λ (p : first_digit v < first_digit w). digit_more w v p)
      (⊎_elim
      (λ (p : (first_digit v ≡ first_digit w) × (first_digit (drop 1 v) < first_digit (drop 1 w))).
      digit_same w v (sym p.0) ∙ digit_more (drop 1 w) (drop 1 v) p.1)
      (λ (p : (first_digit v ≡ first_digit w) × (first_digit (drop 1 v) ≡ first_digit (drop 1 w)) ×
      (first_digit (drop 2 v) < first_digit (drop 2 w))).
      below_first w v (sym p.0) (sym p.1) ∙ digit_more (drop 2 w) (drop 2 v) p.2))
      (differ v w hv hw h)

-- A WORD IN A RUN OF CHARACTERS, from `at` to before `end`

abbrev pub part : List ℕ → (at end : ℕ) → List ℕ
part cs at end = take (end - at) (drop at cs)

pub length_part : (cs : List ℕ) (at end : ℕ) → at ≤ end → end ≤ length cs → length (part cs at end) ≡ end - at
length_part cs at end order room = length-take-le (end - at) (drop at cs) (simp length-drop (omega arith))

-- its digits, read from the run of characters
digit_read :
    (cs : List ℕ) (at end i s : ℕ) → at ≤ end → end ≤ length cs → (i < end - at → s ≡ at + i) →
    cond (ltb i (end - at)) (get_or cs s 0 + 1) 0 ≡ first_digit (drop i (part cs at end))
unfolding first_digit
digit_read cs at end i s order room here =
    ⊎_elim
    (λ (past : end - at ≤ i).
    let none : length (part cs at end) ≤ i = rw (length_part cs at end order room) past in
    rw (le-ltb i (end - at) past, drop_of_length-le (part cs at end) none))
    (λ (inside : i < end - at).
    let some : i < length (part cs at end) = rw (length_part cs at end order room) inside in
    let read : get_or (part cs at end) i 0 ≡ get_or cs s 0 =
    get_or-take (end - at) (drop at cs) i 0 inside ∙ get_or-drop at cs i 0 ∙ ap (λ (j : ℕ). get_or cs j 0) (sym (here inside)) in
    rw (lt-ltb i (end - at) inside, drop-cons (part cs at end) i 0 some, read))
    (le_or_lt (end - at) i)

-- the indexes at which the word's first three characters are read: the second and the third only if it has them, and always within the
-- slice
pub record ReadsThree (cs : List ℕ) (at end s t : ℕ) : Type 0 where
  pub some : at < end
  pub room : end ≤ length cs
  pub second_in : s < length cs
  pub third_in : t < length cs
  pub second : 1 < end - at → s ≡ at + 1
  pub third : 2 < end - at → t ≡ at + 2

-- three digits read this way make the code of the word
pub code_read :
    {cs : List ℕ} {at end s t a b c : ℕ} → ReadsThree cs at end s t → a ≡ get_or cs at 0 + 1 →
    b ≡ cond (ltb 1 (end - at)) (get_or cs s 0 + 1) 0 → c ≡ cond (ltb 2 (end - at)) (get_or cs t 0 + 1) 0 →
    (a * 131072 + b) * 131072 + c ≡ code (part cs at end)
unfolding code
code_read {cs} {at} {end} {s} {t} {a} {b} {c} reads ea eb ec =
    let order : at ≤ end = omega arith in
    let one : a ≡ first_digit (part cs at end) =
    ea
    ∙ ap (λ (q : Bool). cond q (get_or cs at 0 + 1) 0) (sym (lt-ltb 0 (end - at) (omega arith)))
    ∙ digit_read cs at end 0 at order reads.room (λ (h : 0 < end - at). omega arith) in
    let two : b ≡ first_digit (drop 1 (part cs at end)) = eb ∙ digit_read cs at end 1 s order reads.room reads.second in
    let three : c ≡ first_digit (drop 2 (part cs at end)) = ec ∙ digit_read cs at end 2 t order reads.room reads.third in
    rw (one, two, three)

-- two neighbouring words and their codes
pub record Neighbours (cs : List ℕ) (at next end a b : ℕ) : Type 0 where
  pub first : at ≤ next
  pub second : next ≤ end
  pub room : end ≤ length cs
  pub first_code : a ≡ code (part cs at next)
  pub second_code : b ≡ code (part cs next end)

pub small_take : (n : ℕ) (w : List ℕ) → Small w → Small (take n w)
small_take zero w h i = omega arith
small_take (suc n) [] h i = omega arith
small_take (suc n) (x ∷ xs) h zero = h 0
small_take (suc n) (x ∷ xs) h (suc i) = small_take n xs (λ (j : ℕ). h (suc j)) i

small_part : (cs : List ℕ) (at end : ℕ) → Small cs → Small (part cs at end)
small_part cs at end h = small_take (end - at) (drop at cs) (small_drop at cs h)

module _ {cs : List ℕ} {at next end a b : ℕ} (small : Small cs) (h : Neighbours cs at next end a b) where
  pub neighbours_less : a < b → word_before (part cs at next) (part cs next end) ≡ true
  neighbours_less less =
      code_less (part cs at next) (part cs next end) (small_part cs at next small) (small_part cs next end small)
      (omega arith)

  pub neighbours_more : b < a → word_before (part cs at next) (part cs next end) ≡ false
  neighbours_more more =
      code_more (part cs at next) (part cs next end) (small_part cs at next small) (small_part cs next end small)
      (omega arith)
