-- The reception test, token by token: the scan's token at a position has a key, and the line mapped to the position has to have that key.
-- Assumes nothing.
use Rattle.std.specs.Prelude.{◌≡◌, refl, true, false, cond, ◌⊎◌, ltb, eqb, get_or}
use Rattle.std.proofs.Common.{sym, ◌∙◌, inl, inr, ⊎_elim}
use mathlib.Core.List.{List, [], ◌∷◌}
use Prim.Native.Nat.{ℕ, zero, suc, ◌+◌, ◌*◌, ◌-◌, ◌≤◌, ◌<◌}
use Rattle.std.proofs.Math.Numerals.{add-one}
use Rattle.std.proofs.Math.Nat.{sub-zero}
use native.Mathlib.Omega.{arith}
use Rattle.std.proofs.Math.ListN.{length}
use borrow.Author.Tests.{lt-ltb, le-ltb, eq-eqb, ne_eqb, eqb-true, eqb-false}
use Rattle.basics.specs.Bools.{iff_eq, true_or_false, le_or_lt}
use Rattle.spec.specs.Dictionary.{Lexicon}
use Rattle.spec.specs.Words.{key, Entry, entry, same_key}
use Rattle.spec.specs.Index.{header, keys_of, kind_at, value_at, entries_of}
use Rattle.models.specs.Entries.{longest_at}
use Rattle.models.specs.Scan.{scan}
use Rattle.models.specs.Inversion.{token_entry}
use Rattle.models.specs.Reception.{mapped_at, mapped_right, all_mapped, verify, verify_from, token_key, token_mapped}
use Rattle.laws.specs.Numbers.Slices.{Fits}
use Rattle.laws.specs.Entries.Scan.{scan_registers, scan_passes}
use Rattle.laws.specs.Build.ScanTokens.{Stepped, Scannable}
use Rattle.laws.specs.Receive.LineMap.{LineMap, verify_starts, verify_ends}

-- THE KEY OF A TOKEN

module _ (xs : List ℕ) (n m c : ℕ) where
  pub token_unmapped : n ≡ 0 → false ≡ token_mapped xs n m c
  unfolding token_mapped
  token_unmapped none = rw (le-ltb 0 n (omega arith))

  module _ (some : n ≡ 0 → ⊥) where
    is_mapped : ltb 0 n ≡ true
    is_mapped = lt-ltb 0 n (omega (arith, some))

    module _ (lone : m ≡ 4097) where
      pub lone_kind : (kind_at xs (n - 1) ≡ 1 → ⊥) → false ≡ token_mapped xs n m c
      unfolding token_mapped token_key same_key key
      lone_kind other = rw (is_mapped, eq-eqb m 4097 lone, ne_eqb (kind_at xs (n - 1)) 1 other)

      pub lone_value : kind_at xs (n - 1) ≡ 1 → eqb (value_at xs (n - 1)) c ≡ token_mapped xs n m c
      unfolding token_mapped token_key same_key key
      lone_value same = rw (is_mapped, eq-eqb m 4097 lone, eq-eqb (kind_at xs (n - 1)) 1 same)

    module _ (word : m ≡ 4097 → ⊥) where
      pub word_kind : (kind_at xs (n - 1) ≡ 0 → ⊥) → false ≡ token_mapped xs n m c
      unfolding token_mapped token_key same_key key
      word_kind other = rw (is_mapped, ne_eqb m 4097 word, ne_eqb (kind_at xs (n - 1)) 0 other)

      pub word_value : kind_at xs (n - 1) ≡ 0 → eqb (value_at xs (n - 1)) (m - 1) ≡ token_mapped xs n m c
      unfolding token_mapped token_key same_key key
      word_value same = rw (is_mapped, ne_eqb m 4097 word, eq-eqb (kind_at xs (n - 1)) 0 same)

-- a number of the line map is 0, or one more than a line's number
pub map_small : (xs ns : List ℕ) → LineMap xs (mapped_at ns) → (q : ℕ) → get_or ns q 0 ≤ keys_of xs
unfolding mapped_at
map_small xs ns right_line q = small (get_or ns q 0) refl
  where
    small : (n : ℕ) → get_or ns q 0 ≡ n → n ≤ keys_of xs
    small zero e = omega arith
    small (suc i) e =
        let here : q + 1 - 1 ≡ q = omega arith in
        omega (arith, (right_line.real (q + 1) i (omega arith) (rw here e)).0)

-- the line mapped to the position of a token's entry has the entry's key exactly if it has the token's
token_entry_mapped :
    (lex : Lexicon) (mapped : ℕ → ℕ) (xs : List ℕ) (p token c : ℕ) (x : Entry) → token_entry lex p token c ≡ x ∷ [] →
    mapped_right mapped xs x ≡ token_mapped xs (mapped p) token c
unfolding token_entry mapped_right token_mapped token_key entry
token_entry_mapped lex mapped xs p zero c x e = let z : ◌≡◌ {A = ℕ} 0 1 = cc in absurd (omega arith)
token_entry_mapped lex mapped xs p (suc i) c x e = by_kind (true_or_false (eqb i 4096))
  where
    is : cond (eqb i 4096) (entry (key 1 c) p 1) (entry (key 0 i) p (length (get_or lex.words i []))) ≡ x
    is = cc

    by_kind : (eqb i 4096 ≡ true) ⊎ (eqb i 4096 ≡ false) → mapped_right mapped xs x ≡ token_mapped xs (mapped p) (suc i) c
    by_kind (inl t) =
        let lone : suc i ≡ 4097 = omega (arith, eqb-true i 4096 t) in
        let here : entry (key 1 c) p 1 ≡ x = rw t at is in
        rw (← here, eq-eqb (suc i) 4097 lone)
    by_kind (inr f) =
        let word : suc i ≡ 4097 → ⊥ = λ (z : suc i ≡ 4097). eqb-false i 4096 f (omega arith) in
        let back : suc i - 1 ≡ i = omega arith in
        let here : entry (key 0 i) p (length (get_or lex.words i [])) ≡ x = rw f at is in
        rw (← here, ne_eqb (suc i) 4097 word, back)

-- the token 0 has no entry
no_token : (lex : Lexicon) (p token c : ℕ) (x : Entry) → token_entry lex p token c ≡ x ∷ [] → token ≡ 0 → ⊥
unfolding token_entry
no_token lex p zero c x e none = let z : ◌≡◌ {A = ℕ} 0 1 = cc in omega arith
no_token lex p (suc i) c x e none = omega arith

-- THE SCAN, TOKEN BY TOKEN

-- At q, with the last end e and `count` entries registered: the test of the rest decides the whole.
pub record Testing (lex : Lexicon) (xs us ns : List ℕ) (q e count : ℕ) : Type 0 where
  pub within : q ≤ length us
  pub end : e ≤ length us
  pub few : count ≤ q
  pub exact : verify_from lex (mapped_at ns) xs us (length us - q) (q + 1) (e + 1) count ≡ verify lex (mapped_at ns) xs us

module _ {lex : Lexicon} {xs us ns : List ℕ} where
  pub testing_starts : Testing lex xs us ns 0 0 0
  testing_starts =
      record {
        within = omega arith;
        end = omega arith;
        few = omega arith;
        exact = rw (sub-zero (length us)) (verify_starts lex (mapped_at ns) xs us);
      }

  module _ {q e count token : ℕ} (here : Scannable lex us q) (t : Testing lex xs us ns q e count) (next : ℕ)
      (s : Stepped lex us (q + 1) (e + 1) token (next + 1)) where
    more : verify_from lex (mapped_at ns) xs us (suc (length us - (q + 1))) (q + 1) (e + 1) count ≡ verify lex (mapped_at ns) xs us
    more = let left : length us - q ≡ suc (length us - (q + 1)) = omega arith in rw left at t.exact

    -- if the token is 0 the longest entry ends at or before e, else after it
    passed : token ≡ 0 → q + 1 + (longest_at lex us (q + 1)).len ≤ e + 1
    passed none =
        ⊎_elim (λ (h : q + 1 + (longest_at lex us (q + 1)).len ≤ e + 1). h)
        (λ (h : e + 1 < q + 1 + (longest_at lex us (q + 1)).len).
        absurd (no_token lex (q + 1) token (get_or us (q + 1 - 1) 0) (longest_at lex us (q + 1)) (s.registered h).0 none))
        (le_or_lt (q + 1 + (longest_at lex us (q + 1)).len) (e + 1))

    registered : (token ≡ 0 → ⊥) → e + 1 < q + 1 + (longest_at lex us (q + 1)).len
    registered some =
        ⊎_elim (λ (h : q + 1 + (longest_at lex us (q + 1)).len ≤ e + 1). absurd (some (s.passed h).0))
        (λ (h : e + 1 < q + 1 + (longest_at lex us (q + 1)).len). h) (le_or_lt (q + 1 + (longest_at lex us (q + 1)).len) (e + 1))

    registers :
        (token ≡ 0 → ⊥) →
        scan (longest_at lex us) (suc (length us - (q + 1))) (q + 1) (e + 1)
        ≡ longest_at lex us (q + 1) ∷ scan (longest_at lex us) (length us - (q + 1)) (suc (q + 1)) (q + 1 + (longest_at lex us (q + 1)).len)
    registers some = scan_registers (longest_at lex us) (length us - (q + 1)) (q + 1) (e + 1) (registered some)

    right_line :
        (token ≡ 0 → ⊥) →
        mapped_right (mapped_at ns) xs (longest_at lex us (q + 1)) ≡ token_mapped xs (get_or ns q 0) token (get_or us q 0)
    unfolding mapped_at
    right_line some =
        let back : q + 1 - 1 ≡ q = omega arith in
        rw back at
        (token_entry_mapped lex (mapped_at ns) xs (q + 1) token (get_or us (q + 1 - 1) 0) (longest_at lex us (q + 1))
        (s.registered (registered some)).0)

    pub testing_passes : token ≡ 0 → Testing lex xs us ns (q + 1) next count
    unfolding verify_from
    testing_passes none =
        record {
          within = omega arith;
          end = omega arith;
          few = omega arith;
          exact =
              rw ((s.passed (passed none)).1, add-one (q + 1))
              (rw (scan_passes (longest_at lex us) (length us - (q + 1)) (q + 1) (e + 1) (passed none)) at more);
        }

    pub testing_registers :
        (token ≡ 0 → ⊥) → token_mapped xs (get_or ns q 0) token (get_or us q 0) ≡ true → Testing lex xs us ns (q + 1) next (count + 1)
    unfolding verify_from all_mapped
    testing_registers some right =
        let rest : List Entry = scan (longest_at lex us) (length us - (q + 1)) (suc (q + 1)) (q + 1 + (longest_at lex us (q + 1)).len) in
        let counted : count + suc (length rest) ≡ suc count + length rest = omega arith in
        record {
          within = omega arith;
          end = omega arith;
          few = omega arith;
          exact =
              rw ((s.registered (registered some)).1, add-one (q + 1), add-one count)
              (rw (registers some, right_line some ∙ right, counted) at more);
        }

    pub testing_fails :
        (token ≡ 0 → ⊥) → token_mapped xs (get_or ns q 0) token (get_or us q 0) ≡ false → false ≡ verify lex (mapped_at ns) xs us
    unfolding verify_from all_mapped
    testing_fails some wrong = rw (registers some, right_line some ∙ wrong) at more

  pub testing_ends :
      {q e count : ℕ} → Testing lex xs us ns q e count → length us ≤ q → Fits xs →
      eqb (header + 3 * keys_of xs + count) (length xs) ≡ verify lex (mapped_at ns) xs us
  testing_ends {q} {e} {count} t past fits =
      iff_eq (eqb (header + 3 * keys_of xs + count) (length xs)) (eqb count (entries_of xs))
      (λ b.
      eq-eqb count (entries_of xs) (omega (arith, eqb-true (header + 3 * keys_of xs + count) (length xs) b)))
      (λ b.
      eq-eqb (header + 3 * keys_of xs + count) (length xs) (omega (arith, eqb-true count (entries_of xs) b)))
      ∙ sym (verify_ends lex (mapped_at ns) xs us (q + 1) (e + 1) count)
      ∙ rw none at t.exact
    where
      none : length us - q ≡ 0
      none = omega arith
