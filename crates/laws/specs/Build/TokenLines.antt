-- The tokens of a text, inverted by key code, are the lines of its index. Assumes nothing.
use Rattle.std.specs.Prelude.{◌≡◌, ◌⊎◌, get_or}
use Rattle.std.proofs.Math.Path.{refl, ap, subst}
use Rattle.std.proofs.Common.{sym, ◌∙◌, inl, inr, ⊎_elim}
use mathlib.Core.List.{List, [], ◌∷◌}
use Prim.Native.Nat.{ℕ, zero, suc, ◌+◌, ◌-◌, ◌≤◌, ◌<◌}
use native.Mathlib.Omega.{arith}
use Rattle.std.proofs.Math.ListN.{length}
use borrow.Author.Tests.{eq-eqb, ne_eqb, eqb-true}
use Rattle.basics.specs.Member.{In, in_append_left, in_append_right, in_append_get, in_getD}
use Rattle.basics.specs.Steps.{those_from_get, those_from_put}
use Rattle.spec.specs.Dictionary.{Lexicon}
use Rattle.spec.specs.Words.{Key, key, spells, Entry, entry}
use Rattle.spec.specs.Numbers.{Line, line, numbers, index_of}
use Rattle.models.specs.Entries.{flat}
use Rattle.models.specs.Scan.{make_index}
use Rattle.models.specs.Inversion.{token_entry, entries_of_tokens, coded, code_key, holds, postings, inverted}
use Rattle.models.specs.Readability.{most_keys}
use Rattle.laws.specs.Text.Facts.{Chars, GoodLexicon, SoundEntry, Rise, GoodLine, GoodLines}
use Rattle.laws.specs.Dictionary.Keys.{spells_word, spells_lone}
use Rattle.laws.specs.Entries.Sound.{entries_sound}
use Rattle.laws.specs.Entries.Longest.{make_index_get}
use Rattle.laws.specs.Build.Tokens.{Tokens}
use Rattle.laws.specs.Numbers.Flat.{posting, flat_get, flat_put}
use Rattle.laws.specs.Search.Positions.{those_from_rise}
use Rattle.laws.specs.Build.Inverted.{inverted_scan}
use Rattle.laws.specs.Build.KeyCode.{coded_none, coded_lone, coded_word, code_key_word, code_key_lone}
use Rattle.laws.specs.Build.PostingLists.{LineOf, lines_get, lines_put, lines_order}

-- A TOKEN AND ITS ENTRY

-- position p of a text, at index p - 1, has the entry e
pub record TokenAt (lex : Lexicon) (ms ts : List ℕ) (p : ℕ) (e : Entry) : Type 0 where
  pub code : ℕ
  pub coded_so : coded (get_or ms (p - 1) 0) (get_or ts (p - 1) 0) ≡ suc code
  pub small : code < most_keys
  pub is : e ≡ posting lex (code_key code) p

module _ (lex : Lexicon) (few : length lex.words ≤ 4096) where
  -- the entry of a token is its code's key at that position
  token_entry_is :
      (p c : ℕ) {m i : ℕ} → m ≡ suc i → (i < length lex.words) ⊎ (i ≡ 4096) → c < 65536 →
      (k : ℕ) × (coded m c ≡ suc k) × (k < most_keys) × (token_entry lex p m c ≡ posting lex (code_key k) p ∷ [])
  unfolding token_entry entry key
  token_entry_is p c {m} {i} e (inl word) h =
      let other : i ≡ 4096 → ⊥ = λ (z : i ≡ 4096). omega arith in
      let back : m - 1 ≡ i = omega arith in
      let lengths : length (spells lex (key 0 i)) ≡ length (get_or lex.words i []) = ap length (spells_word lex (key 0 i) refl) in (
        i,
        rw (← back) (coded_word m c (λ (z : m ≡ 0). omega arith) (λ (z : m ≡ 4097). omega arith)),
        omega arith,
        rw (e, ne_eqb i 4096 other, code_key_word i (omega arith), lengths),
      )
  token_entry_is p c {m} {i} e (inr lone) h =
      let back : 4096 + c - 4096 ≡ c = omega arith in
      let one : length (spells lex (key 1 c)) ≡ 1 = ap length (spells_lone lex (key 1 c) refl) in (
        4096 + c,
        coded_lone m c (omega arith),
        omega arith,
        rw (e, eq-eqb i 4096 lone, code_key_lone (4096 + c) (omega arith), back, one),
      )

entries_of_tokens_get :
    (lex : Lexicon) (p : ℕ) (ms ts : List ℕ) (e : Entry) → In e (entries_of_tokens lex p ms ts) →
    (j : ℕ) × (j < length ms) × (j < length ts) × In e (token_entry lex (p + j) (get_or ms j 0) (get_or ts j 0))
unfolding entries_of_tokens
entries_of_tokens_get lex p [] ts e m = absurd m
entries_of_tokens_get lex p (x ∷ ms) [] e m = absurd m
entries_of_tokens_get lex p (x ∷ ms) (c ∷ ts) e m =
    ⊎_elim
    (λ (h : In e (token_entry lex p x c)). let z : p + 0 ≡ p = omega arith in (0, omega arith, omega arith, rw z h))
    (λ (h : In e (entries_of_tokens lex (suc p) ms ts)).
    let later = entries_of_tokens_get lex (suc p) ms ts e h in
    let z : p + suc later.0 ≡ suc p + later.0 = omega arith in
    (suc later.0, omega arith, omega arith, rw z later.3))
    (in_append_get e (token_entry lex p x c) (entries_of_tokens lex (suc p) ms ts) m)

entries_of_tokens_put :
    (lex : Lexicon) (p : ℕ) (ms ts : List ℕ) (e : Entry) →
    ((j : ℕ) × (j < length ms) × (j < length ts) × In e (token_entry lex (p + j) (get_or ms j 0) (get_or ts j 0))) →
    In e (entries_of_tokens lex p ms ts)
unfolding entries_of_tokens
entries_of_tokens_put lex p [] ts e (j, a, b, m) = absurd (omega arith)
entries_of_tokens_put lex p (x ∷ ms) [] e (j, a, b, m) = absurd (omega arith)
entries_of_tokens_put lex p (x ∷ ms) (c ∷ ts) e (zero, a, b, m) =
    let z : p + 0 ≡ p = omega arith in
    in_append_left e (token_entry lex p x c) (entries_of_tokens lex (suc p) ms ts) (rw z at m)
entries_of_tokens_put lex p (x ∷ ms) (c ∷ ts) e (suc j, a, b, m) =
    let z : p + suc j ≡ suc p + j = omega arith in
    in_append_right e (token_entry lex p x c) (entries_of_tokens lex (suc p) ms ts)
    (entries_of_tokens_put lex (suc p) ms ts e (j, omega arith, omega arith, rw z at m))

only : {e f : Entry} → In e (f ∷ []) → e ≡ f
only (inl h) = h
only (inr m) = absurd m

some_in : (p : ℕ) (ps : List ℕ) → In p ps → 1 ≤ length ps
some_in p [] m = absurd m
some_in p (q ∷ ps) m = omega arith

postings_rises : (ms ts : List ℕ) (k : ℕ) → Rise 1 (postings ms ts 0 k)
unfolding postings
postings_rises ms ts k = those_from_rise (length ms - 0) 1 (holds ms ts k)

-- THE LINES

module _ {lex : Lexicon} (good : GoodLexicon lex) {ts : List ℕ} (chars : Chars ts) {ms : List ℕ} (tokens : Tokens lex ts ms) where
  token_entry_get : (e : Entry) → In e (make_index lex ts) → TokenAt lex ms ts e.at e × (1 ≤ e.at) × (e.at ≤ length ms)
  unfolding token_entry
  token_entry_get e m = go got.0 got.1 got.2 (get_or ms got.0 0) refl got.3
    where
      got : (j : ℕ) × (j < length ms) × (j < length ts) × In e (token_entry lex (1 + j) (get_or ms j 0) (get_or ts j 0))
      got = entries_of_tokens_get lex 1 ms ts e (rw (← tokens.exact) at m)

      go :
          (j : ℕ) → j < length ms → j < length ts → (x : ℕ) → get_or ms j 0 ≡ x → In e (token_entry lex (1 + j) x (get_or ts j 0)) →
          TokenAt lex ms ts e.at e × (1 ≤ e.at) × (e.at ≤ length ms)
      go j a b zero z i = absurd i
      go j a b (suc x) z i =
          let (k, c, small, is) =
          token_entry_is lex good.few (1 + j) (get_or ts j 0) {m = suc x} refl (tokens.known j x a z) (chars j b) in
          let here : e ≡ posting lex (code_key k) (1 + j) = only (subst (λ (es : List Entry). In e es) is i) in
          let position : e.at ≡ 1 + j = ap (λ (f : Entry). f.at) here in
          let back : e.at - 1 ≡ j = omega arith in (
            record {
              code = k;
              coded_so = rw (back, z) c;
              small = small;
              is = here ∙ ap (λ (q : ℕ). posting lex (code_key k) q) (sym position);
            },
            omega arith,
            omega arith,
          )

  token_entry_put :
      (p k : ℕ) → 1 ≤ p → p ≤ length ms → coded (get_or ms (p - 1) 0) (get_or ts (p - 1) 0) ≡ suc k →
      In (posting lex (code_key k) p) (make_index lex ts)
  token_entry_put p k lo hi e =
      let len : length ms ≡ length ts = tokens.len in
      let a : p - 1 < length ms = omega arith in
      let b : p - 1 < length ts = omega arith in
      let some : get_or ms (p - 1) 0 ≡ 0 → ⊥ =
      λ (z : get_or ms (p - 1) 0 ≡ 0). omega (arith, coded_none (get_or ms (p - 1) 0) (get_or ts (p - 1) 0) z) in
      let back : get_or ms (p - 1) 0 ≡ suc (get_or ms (p - 1) 0 - 1) = omega (arith, some) in
      let (c, same, small, is) =
      token_entry_is lex good.few p (get_or ts (p - 1) 0) back
      (tokens.known (p - 1) (get_or ms (p - 1) 0 - 1) a back) (chars (p - 1) b) in
      let code : k ≡ c = omega arith in
      let position : 1 + (p - 1) ≡ p = omega arith in
      rw (← tokens.exact, code)
      (entries_of_tokens_put lex 1 ms ts (posting lex (code_key c) p)
      (p - 1, a, b, rw (position, is) (inl (refl {a = posting lex (code_key c) p}))))

  -- a position in a code's posting list is an entry of the text
  inverted_entry : (k p : ℕ) → In p (postings ms ts 0 k) → In (posting lex (code_key k) p) (make_index lex ts)
  unfolding postings
  inverted_entry k p m =
      let r = those_from_get (length ms - 0) 1 (holds ms ts k) p m in
      token_entry_put p k r.0 (omega arith) (eqb-true (coded (get_or ms (p - 1) 0) (get_or ts (p - 1) 0)) (suc k) r.2)

  inverted_good : GoodLines lex (length ts) (inverted ms ts)
  unfolding inverted line entry
  inverted_good = record { each = each; order = lines_order most_keys 0 (postings ms ts 0) }
    where
      is : (k p : ℕ) → In p (postings ms ts 0 k) → SoundEntry lex (length ts) (posting lex (code_key k) p)
      is k p m =
          entries_sound lex good ts chars (posting lex (code_key k) p)
          (make_index_get lex good ts chars (posting lex (code_key k) p) (inverted_entry k p m))

      each : (l : Line) → In l (inverted ms ts) → GoodLine lex (length ts) l
      each l m =
          let o : LineOf most_keys 0 (postings ms ts 0) l = lines_get most_keys 0 (postings ms ts 0) l m in
          rw o.is
          (record {
            is_key = (is o.code (get_or (postings ms ts 0 o.code) 0 0) (in_getD (postings ms ts 0 o.code) 0 0 o.some)).is_key;
            some = o.some;
            rise = postings_rises ms ts o.code;
            fits = λ p i. (is o.code p i).within;
          })

  inverted_get : (e : Entry) → In e (flat lex (inverted ms ts)) → In e (make_index lex ts)
  unfolding inverted line
  inverted_get e m =
      let (l, i, position, is) = flat_get lex (inverted ms ts) e m in
      let o : LineOf most_keys 0 (postings ms ts 0) l = lines_get most_keys 0 (postings ms ts 0) l i in
      let under : l.key_of ≡ code_key o.code = ap (λ (m : Line). m.key_of) o.is in
      let among : l.positions ≡ postings ms ts 0 o.code = ap (λ (m : Line). m.positions) o.is in
      rw (is ∙ ap (λ (k : Key). posting lex k e.at) under)
      (inverted_entry o.code e.at (subst (λ (ps : List ℕ). In e.at ps) among position))

  inverted_put : (e : Entry) → In e (make_index lex ts) → In e (flat lex (inverted ms ts))
  unfolding inverted line postings
  inverted_put e m =
      let (mk, lo, hi) = token_entry_get e m in
      let here : In e.at (postings ms ts 0 mk.code) =
      postings_put mk.code e.at lo hi mk.coded_so in
      subst (λ (f : Entry). In f (flat lex (inverted ms ts))) (sym mk.is)
      (flat_put lex (inverted ms ts) (line (code_key mk.code) (postings ms ts 0 mk.code)) e.at
      (lines_put most_keys 0 (postings ms ts 0) mk.code (omega arith) (omega arith)
      (some_in e.at (postings ms ts 0 mk.code) here))
      here)
    where
      postings_put :
          (k p : ℕ) → 1 ≤ p → p ≤ length ms → coded (get_or ms (p - 1) 0) (get_or ts (p - 1) 0) ≡ suc k → In p (postings ms ts 0 k)
      postings_put k p lo hi c =
          those_from_put (length ms - 0) 1 (holds ms ts k) p lo (omega arith)
          (eq-eqb (coded (get_or ms (p - 1) 0) (get_or ts (p - 1) 0)) (suc k) c)

  pub token_index : numbers (length ts) (inverted ms ts) ≡ index_of lex ts
  token_index = inverted_scan good ts chars inverted_good inverted_get inverted_put
