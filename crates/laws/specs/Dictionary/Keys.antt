-- Keys of a good lexicon: each spells 1 to 32 characters, no two spell the same, and each character is spelt by one. Assumes nothing.
use Rattle.std.specs.Prelude.{◌≡◌, refl, Bool, true, false, ◌&&◌, not, ◌⊎◌, List, [], ◌∷◌, ℕ, zero, suc, ◌≤◌, ◌<◌, ltb, eqb, length, get_or}
use Rattle.std.proofs.Common.{sym, ap, ◌∙◌, inl, inr, ⊎_elim, arith, lt-ltb, ltb-true, eq-eqb, ne_eqb, eqb-true}
use Rattle.std.proofs.lemmas.Bool.{eqb-false}
use Rattle.basics.specs.Bools.{clash, false_put, not_put, not_get, and_put, and_left, and_right, or_left, or_right, or_get}
use Rattle.basics.specs.Member.{In, in_getD, member_index}
use Rattle.spec.specs.Dictionary.{Lexicon, is_char}
use Rattle.spec.specs.Words.{Key, key, same, listed, is_word, spells}
use Rattle.spec.specs.Index.{key_good}
use Rattle.laws.specs.Text.Strings.{same_get, same_put}
use Rattle.laws.specs.Text.Facts.{key_eq, Chars, GoodLexicon, IsKey}

-- WORDS OF THE LEXICON

pub listed_get : (w : List ℕ) (ws : List (List ℕ)) → listed w ws ≡ true → In w ws
unfolding listed
listed_get w [] t = clash t refl
listed_get w (v ∷ vs) t =
    ⊎_elim (λ (p : same w v ≡ true). inl (same_get w v p)) (λ (q : listed w vs ≡ true). inr (listed_get w vs q))
    (or_get (same w v) (listed w vs) t)

pub listed_put : (w : List ℕ) (ws : List (List ℕ)) → In w ws → listed w ws ≡ true
unfolding listed
listed_put w [] m = absurd m
listed_put w (v ∷ vs) (inl e) = or_left (listed w vs) (same_put w v e)
listed_put w (v ∷ vs) (inr m) = or_right (same w v) (listed_put w vs m)

pub is_word_get : (lex : Lexicon) (w : List ℕ) → is_word lex w ≡ true → In w lex.words
unfolding is_word
is_word_get lex w t = listed_get w lex.words t

pub is_word_put : (lex : Lexicon) (w : List ℕ) → In w lex.words → is_word lex w ≡ true
unfolding is_word
is_word_put lex w m = listed_put w lex.words m

-- THE TWO KINDS OF KEYS

pub record IsWordKey (lex : Lexicon) (k : Key) : Type 0 where
  pub kind_is : k.kind ≡ 0
  pub below : k.value < length lex.words

pub record IsLoneKey (lex : Lexicon) (k : Key) : Type 0 where
  pub kind_is : k.kind ≡ 1
  pub char : k.value < 65536
  pub no_word : In (k.value ∷ []) lex.words → ⊥

pub key_kinds : (lex : Lexicon) (k : Key) → IsKey lex k → IsWordKey lex k ⊎ IsLoneKey lex k
unfolding key_good is_char
key_kinds lex k h = cases (eqb k.kind 0) refl
  where
    cases : (b : Bool) → eqb k.kind 0 ≡ b → IsWordKey lex k ⊎ IsLoneKey lex k
    cases true e =
        inl (record { kind_is = eqb-true k.kind 0 e; below = ltb-true k.value (length lex.words) (rw e at h.good) })
    cases false e =
        let good : (ltb k.value 65536 && not (is_word lex (k.value ∷ []))) ≡ true = rw e at h.good in
        let other : k.kind ≡ 0 → ⊥ = eqb-false k.kind 0 e in
        let no_word : is_word lex (k.value ∷ []) ≡ false =
        not_get (is_word lex (k.value ∷ [])) (and_right (ltb k.value 65536) (not (is_word lex (k.value ∷ []))) good) in
        inr
        (record {
          kind_is = omega (arith, other);
          char = ltb-true k.value 65536 (and_left (ltb k.value 65536) (not (is_word lex (k.value ∷ []))) good);
          no_word = λ m. clash (is_word_put lex (k.value ∷ []) m) no_word;
        })

pub word_is_key : (lex : Lexicon) (k : Key) → IsWordKey lex k → IsKey lex k
unfolding key_good
word_is_key lex k h =
    record {
      kind_small = omega arith;
      good = rw (eq-eqb k.kind 0 h.kind_is) (lt-ltb k.value (length lex.words) h.below);
    }

pub lone_is_key : (lex : Lexicon) (k : Key) → IsLoneKey lex k → IsKey lex k
unfolding key_good is_char
lone_is_key lex k h =
    record {
      kind_small = omega arith;
      good =
          rw (ne_eqb k.kind 0 (λ (e : k.kind ≡ 0). omega arith))
          (and_put (lt-ltb k.value 65536 h.char)
          (not_put (false_put (is_word lex (k.value ∷ [])) (λ t. h.no_word (is_word_get lex (k.value ∷ []) t)))));
    }

pub spells_word : (lex : Lexicon) (k : Key) → k.kind ≡ 0 → spells lex k ≡ get_or lex.words k.value []
unfolding spells
spells_word lex k e = rw (eq-eqb k.kind 0 e)

pub spells_lone : (lex : Lexicon) (k : Key) → k.kind ≡ 1 → spells lex k ≡ k.value ∷ []
unfolding spells
spells_lone lex k e = rw (ne_eqb k.kind 0 (λ (z : k.kind ≡ 0). omega arith))

-- WHAT KEYS SPELL

-- what a word key spells is a word
pub spells_in : (lex : Lexicon) (k : Key) → IsWordKey lex k → In (spells lex k) lex.words
spells_in lex k h = rw (spells_word lex k h.kind_is) (in_getD lex.words k.value [] h.below)

module _ {lex : Lexicon} (good : GoodLexicon lex) where
  pub spells_some : (k : Key) → IsKey lex k → 1 ≤ length (spells lex k)
  spells_some k h =
      ⊎_elim (λ (w : IsWordKey lex k). good.nonempty (spells lex k) (spells_in lex k w))
      (λ (c : IsLoneKey lex k). rw (spells_lone lex k c.kind_is) (omega arith)) (key_kinds lex k h)

  pub spells_short : (k : Key) → IsKey lex k → length (spells lex k) ≤ 32
  spells_short k h =
      ⊎_elim (λ (w : IsWordKey lex k). good.short (spells lex k) (spells_in lex k w))
      (λ (c : IsLoneKey lex k). rw (spells_lone lex k c.kind_is) (omega arith)) (key_kinds lex k h)

  pub value_below : (k : Key) → IsKey lex k → k.value < 65536
  value_below k h =
      ⊎_elim (λ (w : IsWordKey lex k). omega arith) (λ (c : IsLoneKey lex k). c.char) (key_kinds lex k h)

  pub spells_chars : (k : Key) → IsKey lex k → Chars (spells lex k)
  spells_chars k h =
      ⊎_elim (λ (w : IsWordKey lex k). good.chars (spells lex k) (spells_in lex k w))
      (λ (c : IsLoneKey lex k). rw (spells_lone lex k c.kind_is) (one c.char)) (key_kinds lex k h)
    where
      one : k.value < 65536 → Chars (k.value ∷ [])
      one b zero l = b
      one b (suc i) l = absurd (omega arith)

  pub keys_distinct : {j k : Key} → IsKey lex j → IsKey lex k → spells lex j ≡ spells lex k → j ≡ k
  keys_distinct {j} {k} hj hk e = cases (key_kinds lex j hj) (key_kinds lex k hk)
    where
      -- a word is no lone character
      apart : {a b : Key} → IsWordKey lex a → IsLoneKey lex b → spells lex a ≡ spells lex b → ⊥
      apart {a} {b} w c s = c.no_word (rw (← spells_lone lex b c.kind_is, ← s) (spells_in lex a w))

      cases : IsWordKey lex j ⊎ IsLoneKey lex j → IsWordKey lex k ⊎ IsLoneKey lex k → j ≡ k
      cases (inl v) (inl w) =
          key_eq j k (v.kind_is ∙ sym w.kind_is)
          (good.distinct j.value k.value v.below w.below
          (sym (spells_word lex j v.kind_is) ∙ e ∙ spells_word lex k w.kind_is))
      cases (inl v) (inr c) = absurd (apart v c e)
      cases (inr c) (inl w) = absurd (apart w c (sym e))
      cases (inr c) (inr d) =
          key_eq j k (c.kind_is ∙ sym d.kind_is)
          (ap (λ (s : List ℕ). get_or s 0 0) (sym (spells_lone lex j c.kind_is) ∙ e ∙ spells_lone lex k d.kind_is))

-- every word is spelt by a key
pub word_spelt : (lex : Lexicon) (w : List ℕ) → In w lex.words → (k : Key) × IsKey lex k × (spells lex k ≡ w)
unfolding key
word_spelt lex w m =
    let (i, b, e) = member_index w lex.words [] m in
    (key 0 i, word_is_key lex (key 0 i) (record { kind_is = refl; below = b }), spells_word lex (key 0 i) refl ∙ e)

-- and so is every single character
pub char_key : (lex : Lexicon) (c : ℕ) → c < 65536 → (k : Key) × IsKey lex k × (spells lex k ≡ c ∷ [])
unfolding key
char_key lex c h = cases (is_word lex (c ∷ [])) refl
  where
    cases : (b : Bool) → is_word lex (c ∷ []) ≡ b → (k : Key) × IsKey lex k × (spells lex k ≡ c ∷ [])
    cases true e = word_spelt lex (c ∷ []) (is_word_get lex (c ∷ []) e)
    cases false e =
        let lone : IsLoneKey lex (key 1 c) =
        record { kind_is = refl; char = h; no_word = λ m. clash (is_word_put lex (c ∷ []) m) e } in
        (key 1 c, lone_is_key lex (key 1 c) lone, spells_lone lex (key 1 c) refl)
