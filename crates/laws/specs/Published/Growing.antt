-- Source 001's algorithm starts without the single characters and adds one where no word stands; it registers the same items as source
-- 000's. Assumes nothing.
use Rattle.std.specs.Prelude.{◌≡◌, Bool, true, false, ◌&&◌, cond, ◌⊎◌, ltb, eqb, get_or}
use Rattle.std.proofs.Math.Path.{refl, ap}
use Rattle.std.proofs.Common.{inl}
use Rattle.std.proofs.Math.Logic.{inr, ⊎_elim}
use mathlib.Core.List.{List, [], ◌∷◌}
use Prim.Native.Nat.{ℕ, zero, suc, ◌+◌, ◌-◌, ◌≤◌, ◌<◌}
use native.Mathlib.Omega.{arith}
use Rattle.std.proofs.Math.ListN.{length}
use borrow.Author.Tests.{lt-ltb, ltb-true, eqb-false}
use Rattle.basics.specs.Bools.{clash, and_put, and_left, and_right, le_or_lt}
use Rattle.basics.specs.Member.{In}
use Rattle.spec.specs.Dictionary.{Lexicon, is_char, lexicon}
use Rattle.spec.specs.Words.{spells, stands}
use Rattle.spec.specs.Published.{IsWord, item, LongestPrefix, figure_1, Figure1, longest_word, grown, growing_scan, GrowingSame}
use Rattle.models.specs.Entries.{longest_at}
use Rattle.laws.specs.Text.Strings.{Stand, stands_get, stands_put}
use Rattle.laws.specs.Text.Overlaps.{stand_char}
use Rattle.laws.specs.Text.Facts.{Chars}
use Rattle.laws.specs.Text.Chars.{is_text_get}
use Rattle.laws.specs.Dictionary.Lexicon.{admitted_lexicon}
use Rattle.laws.specs.Dictionary.Keys.{is_word_get, is_word_put}
use Rattle.laws.specs.Entries.Longest.{longest_at_is}
use Rattle.laws.specs.Published.Figure.{longest_prefix_put, longest_prefix_unique, figure_1_holds}

-- THE LONGEST WORD

record IsLongestWord (dict : List (List ℕ)) (ts : List ℕ) (p : ℕ) (w : List ℕ) : Type 0 where
  source : (In w dict × Stand w ts p) ⊎ (w ≡ [])
  over_all : (v : List ℕ) → In v dict → Stand v ts p → length v ≤ length w

longest_word_is : (dict : List (List ℕ)) (ts : List ℕ) (p : ℕ) → IsLongestWord dict ts p (longest_word dict ts p)
unfolding longest_word
longest_word_is [] ts p = record { source = inr refl; over_all = λ v m h. absurd m }
longest_word_is (w ∷ ws) ts p =
    cases (longest_word ws ts p) (longest_word_is ws ts p)
    (stands w ts p && ltb (length (longest_word ws ts p)) (length w)) refl
  where
    cases :
        (r : List ℕ) → IsLongestWord ws ts p r → (b : Bool) → (stands w ts p && ltb (length r) (length w)) ≡ b →
        IsLongestWord (w ∷ ws) ts p (cond b w r)
    cases r l true t =
        let stand : Stand w ts p = stands_get w ts p (and_left (stands w ts p) (ltb (length r) (length w)) t) in
        let longer : length r < length w =
        ltb-true (length r) (length w) (and_right (stands w ts p) (ltb (length r) (length w)) t) in
        record { source = inl (inl refl, stand); over_all = all longer }
      where
        all : length r < length w → (v : List ℕ) → In v (w ∷ ws) → Stand v ts p → length v ≤ length w
        all longer v (inl q) h = omega (arith, ap length q)
        all longer v (inr m) h = omega (arith, l.over_all v m h)
    cases r l false t = record { source = source l.source; over_all = all }
      where
        source : (In r ws × Stand r ts p) ⊎ (r ≡ []) → (In r (w ∷ ws) × Stand r ts p) ⊎ (r ≡ [])
        source (inl m) = inl (inr m.0, m.1)
        source (inr q) = inr q

        all : (v : List ℕ) → In v (w ∷ ws) → Stand v ts p → length v ≤ length r
        all v (inl q) h =
            ⊎_elim (λ (b : length w ≤ length r). rw q b)
            (λ (b : length r < length w).
            clash (and_put (stands_put w ts p (rw q at h)) (lt-ltb (length r) (length w) b)) t)
            (le_or_lt (length w) (length r))
        all v (inr m) h = l.over_all v m h

-- THE GROWING DICTIONARY

-- the dictionary holds every word of the lexicon, and otherwise only single characters
record Grown (lex : Lexicon) (dict : List (List ℕ)) : Type 0 where
  has : (w : List ℕ) → In w lex.words → In w dict
  only : (w : List ℕ) → In w dict → IsWord lex w

grown_start : (lex : Lexicon) → Grown lex lex.words
unfolding IsWord
grown_start lex = record { has = λ w m. m; only = λ w m. inl (is_word_put lex w m) }

module _ (lex : Lexicon) (ts : List ℕ) (chars : Chars ts) where
  grown_step : {dict : List (List ℕ)} (p : ℕ) → 1 ≤ p → p ≤ length ts → Grown lex dict → Grown lex (grown dict ts p)
  unfolding grown IsWord is_char
  grown_step {dict} p lo hi g = cases (eqb (length (longest_word dict ts p)) 0)
    where
      only : (w : List ℕ) → In w ((get_or ts (p - 1) 0 ∷ []) ∷ dict) → IsWord lex w
      only w (inl q) = inr (get_or ts (p - 1) 0, lt-ltb (get_or ts (p - 1) 0) 65536 (chars (p - 1) (omega arith)), q)
      only w (inr m) = g.only w m

      cases : (b : Bool) → Grown lex (cond b ((get_or ts (p - 1) 0 ∷ []) ∷ dict) dict)
      cases true = record { has = λ w m. inr (g.has w m); only = only }
      cases false = g

  -- once the dictionary has grown, some word of it stands at p
  grown_some : (dict : List (List ℕ)) (p : ℕ) → 1 ≤ p → p ≤ length ts → 1 ≤ length (longest_word (grown dict ts p) ts p)
  unfolding grown
  grown_some dict p lo hi = cases (eqb (length (longest_word dict ts p)) 0) refl
    where
      stand : Stand (get_or ts (p - 1) 0 ∷ []) ts p
      stand =
          let position : suc (p - 1) ≡ p = omega arith in
          rw position at (stand_char ts (p - 1) (omega arith))

      cases :
          (b : Bool) → eqb (length (longest_word dict ts p)) 0 ≡ b →
          1 ≤ length (longest_word (cond b ((get_or ts (p - 1) 0 ∷ []) ∷ dict) dict) ts p)
      cases true t =
          (longest_word_is ((get_or ts (p - 1) 0 ∷ []) ∷ dict) ts p).over_all (get_or ts (p - 1) 0 ∷ []) (inl refl) stand
      cases false t =
          let other : length (longest_word dict ts p) ≡ 0 → ⊥ = eqb-false (length (longest_word dict ts p)) 0 t in
          omega arith

  -- and the longest is the longest of the lexicon's words and single characters
  grown_longest :
      {dict : List (List ℕ)} (p : ℕ) → 1 ≤ p → p ≤ length ts → Grown lex dict →
      LongestPrefix lex ts p (longest_word (grown dict ts p) ts p)
  unfolding IsWord item
  grown_longest {dict} p lo hi g = ⊎_elim found (λ (q : w ≡ []). absurd (omega (arith, some, ap length q))) is.source
    where
      d : List (List ℕ)
      d = grown dict ts p

      w : List ℕ
      w = longest_word d ts p

      next : Grown lex d
      next = grown_step p lo hi g

      is : IsLongestWord d ts p w
      is = longest_word_is d ts p

      some : 1 ≤ length w
      some = grown_some dict p lo hi

      longest : {v : List ℕ} → Stand v ts p → IsWord lex v → length v ≤ length w
      longest {v} h (inl t) = is.over_all v (next.has v (is_word_get lex v t)) h
      longest h (inr c) = omega (arith, some, ap length c.2)

      found : In w d × Stand w ts p → LongestPrefix lex ts p w
      found m =
          record {
            is_item = record { is_word = next.only w m.0; stand = stands_put w ts p m.1 };
            longest = λ v h. longest (stands_get v ts p h.stand) h.is_word;
          }

-- THE WHOLE SCAN

pub growing_figure_1 :
    (lex : Lexicon) (ts : List ℕ) → Chars ts → (l_prefix : ℕ → List ℕ) →
    ((p : ℕ) → 1 ≤ p → p ≤ length ts → LongestPrefix lex ts p (l_prefix p)) →
    growing_scan (length ts) 1 1 lex.words ts ≡ figure_1 l_prefix (length ts) 1 1
unfolding growing_scan figure_1
growing_figure_1 lex ts chars l_prefix is = scan_from (length ts) 1 1 (grown_start lex) (omega arith) (omega arith)
  where
    scan_from :
        (left p last : ℕ) {dict : List (List ℕ)} → Grown lex dict → 1 ≤ p → p + left ≡ suc (length ts) →
        growing_scan left p last dict ts ≡ figure_1 l_prefix left p last
    scan_from zero p last g lo fits = refl
    scan_from (suc n) p last {dict} g lo fits =
        let next : Grown lex (grown dict ts p) = grown_step lex ts chars p lo (omega arith) g in
        let same : longest_word (grown dict ts p) ts p ≡ l_prefix p =
        longest_prefix_unique (grown_longest lex ts chars p lo (omega arith) g) (is p lo (omega arith)) in
        rw (
          same,
          scan_from n (suc p) (p + length (l_prefix p)) next (omega arith) (omega arith),
          scan_from n (suc p) last next (omega arith) (omega arith),
        )

pub growing_same : (g : ℕ) → GrowingSame g
unfolding GrowingSame Figure1
growing_same g cs ls ts a t i = rw same (figure_1_holds g cs ls ts a t l_prefix is i)
  where
    chars : Chars ts
    chars = (is_text_get g ts t).0

    l_prefix : ℕ → List ℕ
    l_prefix p = spells (lexicon cs ls) (longest_at (lexicon cs ls) ts p).key_of

    is : (p : ℕ) → 1 ≤ p → p ≤ length ts → LongestPrefix (lexicon cs ls) ts p (l_prefix p)
    is p lo hi =
        longest_prefix_put (longest_at_is (lexicon cs ls) (admitted_lexicon cs ls a) ts chars p lo hi)

    same : growing_scan (length ts) 1 1 (lexicon cs ls).words ts ≡ figure_1 l_prefix (length ts) 1 1
    same = growing_figure_1 (lexicon cs ls) ts chars l_prefix is
