-- A key as one number: keys are ordered as their numbers, so strict ascent is one comparison for each line, and there are at most 69,632
-- lines. Assumes nothing.
use Rattle.std.specs.Prelude.{◌≡◌, refl, Bool, true, ◌&&◌, ◌⊎◌, List, [], ◌∷◌, ℕ, suc, ◌+◌, ◌≤◌, ◌<◌, leb, length}
use Rattle.std.proofs.Common.{ap, ◌∙◌, inl, inr, ⊎_elim, arith, le-leb, leb-true}
use Rattle.basics.specs.Bools.{iff_eq, le_or_lt}
use Rattle.basics.specs.Member.{In}
use Rattle.spec.specs.Dictionary.{Lexicon}
use Rattle.spec.specs.Words.{Key}
use Rattle.spec.specs.Numbers.{key_before, Line}
use Rattle.spec.specs.Index.{keys_ascend}
use Rattle.models.specs.Readability.{key_number, most_keys}
use Rattle.models.specs.Inversion.{key_code}
use Rattle.laws.specs.Text.Facts.{IsKey, GoodLine, KeysRise, GoodLines}
use Rattle.laws.specs.Dictionary.Keys.{IsWordKey, IsLoneKey, key_kinds}
use Rattle.laws.specs.Numbers.KeyOrder.{key_before_get, key_before_put}

-- keys are ordered as their numbers
before_number : (a b : Key) → a.value < 65536 → b.value < 65536 → leb (suc (key_number a)) (key_number b) ≡ key_before a b
before_number a b sa sb =
    iff_eq (leb (suc (key_number a)) (key_number b)) (key_before a b)
    (λ t. key_before_put a b (order (leb-true (suc (key_number a)) (key_number b) t)))
    (λ t. le-leb (suc (key_number a)) (key_number b) (code (key_before_get a b t)))
  where
    order : key_number a < key_number b → (a.kind < b.kind) ⊎ ((a.kind ≡ b.kind) × (a.value < b.value))
    order h =
        ⊎_elim
        (λ (p : b.kind ≤ a.kind). let e : a.kind ≡ b.kind = omega arith in inr (e, omega arith))
        (λ (p : a.kind < b.kind). inl p)
        (le_or_lt b.kind a.kind)

    code : (a.kind < b.kind) ⊎ ((a.kind ≡ b.kind) × (a.value < b.value)) → key_number a < key_number b
    code (inl h) = omega arith
    code (inr h) = omega arith

-- the numbers of the keys ascend strictly, from `least`
unfoldable pub key_numbers_ascend : (least : ℕ) → List Line → Bool
key_numbers_ascend a [] = true
key_numbers_ascend a (l ∷ ls) = leb a (key_number l.key_of) && key_numbers_ascend (suc (key_number l.key_of)) ls

abbrev pub SmallValues : List Line → Type 0
SmallValues ls = (l : Line) → In l ls → l.key_of.value < 65536

key_numbers_keys :
    (a : ℕ) (l : Line) (ls : List Line) → SmallValues (l ∷ ls) →
    key_numbers_ascend a (l ∷ ls) ≡ (leb a (key_number l.key_of) && keys_ascend (l ∷ ls))
unfolding key_numbers_ascend keys_ascend
key_numbers_keys a l [] s = refl
key_numbers_keys a l (m ∷ ls) s =
    ap (λ (b : Bool). leb a (key_number l.key_of) && b)
    (key_numbers_keys (suc (key_number l.key_of)) m ls (λ k h. s k (inr h))
    ∙ ap (λ (b : Bool). b && keys_ascend (m ∷ ls)) (before_number l.key_of m.key_of (s l (inl refl)) (s m (inr (inl refl)))))

pub key_numbers_all : (ls : List Line) → SmallValues ls → key_numbers_ascend 0 ls ≡ keys_ascend ls
unfolding key_numbers_ascend keys_ascend
key_numbers_all [] s = refl
key_numbers_all (l ∷ ls) s =
    key_numbers_keys 0 l ls s ∙ ap (λ (b : Bool). b && keys_ascend (l ∷ ls)) (le-leb 0 (key_number l.key_of) (omega arith))

-- THE MOST KEYS

module _ {lex : Lexicon} (few : length lex.words ≤ 4096) where
  -- a key's value is a word's number or a character
  pub key_small : {k : Key} → IsKey lex k → k.value < 65536
  key_small {k} h =
      ⊎_elim (λ (w : IsWordKey lex k). omega arith) (λ (l : IsLoneKey lex k). l.char) (key_kinds lex k h)

  code_small : {k : Key} → IsKey lex k → key_code k < most_keys
  code_small {k} h =
      ⊎_elim (λ (w : IsWordKey lex k). omega arith) (λ (l : IsLoneKey lex k). omega arith) (key_kinds lex k h)

  code_rises : {j k : Key} → IsKey lex j → IsKey lex k → key_before j k ≡ true → key_code j < key_code k
  code_rises {j} {k} hj hk t =
      ⊎_elim
      (λ (less : j.kind < k.kind).
      ⊎_elim (λ (w : IsWordKey lex j). omega (arith, hk.kind_small)) (λ (l : IsLoneKey lex j). absurd (omega (arith, hk.kind_small)))
      (key_kinds lex j hj))
      (λ (same : (j.kind ≡ k.kind) × (j.value < k.value)). omega arith)
      (key_before_get j k t)

  -- the codes ascend, so no more lines follow than there are codes left
  codes_left :
      {n : ℕ} (ls : List Line) → ((l : Line) → In l ls → GoodLine lex n l) → KeysRise ls → (least : ℕ) → least ≤ most_keys →
      ((l : Line) → In l ls → least ≤ key_code l.key_of) → length ls + least ≤ most_keys
  codes_left [] each order least room from = omega arith
  codes_left (l ∷ ls) each order least room from =
      let here = (each l (inl refl)).is_key in
      let more =
      codes_left ls (λ m i. each m (inr i)) order.1 (key_code l.key_of + 1) (omega (arith, code_small here))
      (λ m i. omega (arith, code_rises here (each m (inr i)).is_key (order.0 m i))) in
      omega (arith, more, from l (inl refl))

  -- an index of any width has at most as many lines as there are keys
  pub few_lines : {n : ℕ} {ls : List Line} → GoodLines lex n ls → length ls ≤ most_keys
  few_lines {ls} good = omega (arith, codes_left ls good.each good.order 0 (omega arith) (λ l i. omega arith))
