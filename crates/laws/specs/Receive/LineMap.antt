-- The reception test by a line map: each entry that the scan of a reconstructed text registers has to have the key of the line mapped to
-- its position, and there have to be M of them. For every readable slice the test passes exactly if `is_index`. Assumes nothing.
use Rattle.std.specs.Prelude.{◌≡◌, true, List, [], ◌∷◌, ℕ, zero, suc, ◌+◌, ◌-◌, ◌≤◌, ◌<◌, ltb, eqb}
use Rattle.std.proofs.Math.Path.{refl, sym, ap}
use Rattle.std.proofs.Common.{◌∙◌, subst, inl, inr}
use native.Mathlib.Omega.{arith}
use Rattle.std.proofs.Math.ListN.{length}
use borrow.Author.Tests.{lt-ltb, ltb-true, eq-eqb, eqb-true}
use Rattle.basics.specs.Bools.{iff_eq, and_put, and_left, and_right}
use Rattle.basics.specs.Member.{In}
use Rattle.spec.specs.Dictionary.{Lexicon}
use Rattle.spec.specs.Words.{Key, spells, Entry, same_key, entries}
use Rattle.spec.specs.Numbers.{index_of, line}
use Rattle.spec.specs.Index.{n_of, keys_of, key_at, entries_of, lines_in, readable}
use Rattle.spec.specs.Reception.{recovered, is_index}
use Rattle.models.specs.Entries.{flat, longest_at}
use Rattle.models.specs.Scan.{make_index, scan}
use Rattle.models.specs.Reception.{mapped_right, all_mapped, verify, verify_from}
use Rattle.models.specs.Window.{line_of}
use Rattle.laws.specs.Text.Facts.{Chars, GoodLexicon, entry_eq}
use Rattle.laws.specs.Entries.Entries.{same_key_get, same_key_put}
use Rattle.laws.specs.Numbers.Flat.{posting, flat_get, flat_put}
use Rattle.laws.specs.Entries.Sound.{entries_sound}
use Rattle.laws.specs.Entries.Longest.{make_index_get, make_index_put}
use Rattle.laws.specs.Build.Inverted.{scan_count}
use Rattle.laws.specs.Numbers.LineNumbers.{line_of_in, line_number}
use Rattle.laws.specs.Receive.Received.{readable_chars}
use Rattle.laws.specs.Receive.ReceptionTest.{counted_index, index_taken, is_index_all, is_index_count, is_index_own_positions}

-- THE LINE MAP

-- A number for each position: 0, or i + 1 for a line i that has the position. A position that some line has is mapped.
pub record LineMap (xs : List ℕ) (line_for : ℕ → ℕ) : Type 0 where
  pub real : (p i : ℕ) → 1 ≤ p → line_for p ≡ suc i → (i < keys_of xs) × In p (line_of xs i).positions
  pub each : (p i : ℕ) → i < keys_of xs → In p (line_of xs i).positions → 1 ≤ line_for p

all_mapped_get :
    (line_for : ℕ → ℕ) (xs : List ℕ) (es : List Entry) → all_mapped line_for xs es ≡ true → (e : Entry) → In e es →
    mapped_right line_for xs e ≡ true
unfolding all_mapped
all_mapped_get line_for xs [] t e m = absurd m
all_mapped_get line_for xs (f ∷ es) t e (inl p) = rw p (and_left (mapped_right line_for xs f) (all_mapped line_for xs es) t)
all_mapped_get line_for xs (f ∷ es) t e (inr m) = all_mapped_get line_for xs es
    (and_right (mapped_right line_for xs f) (all_mapped line_for xs es) t) e m

all_mapped_put :
    (line_for : ℕ → ℕ) (xs : List ℕ) (es : List Entry) → ((e : Entry) → In e es → mapped_right line_for xs e ≡ true) →
    all_mapped line_for xs es ≡ true
unfolding all_mapped
all_mapped_put line_for xs [] h = refl
all_mapped_put line_for xs (f ∷ es) h = and_put (h f (inl refl)) (all_mapped_put line_for xs es (λ e m. h e (inr m)))

module _ (lex : Lexicon) {xs : List ℕ} {line_for : ℕ → ℕ} (mapped : LineMap xs line_for) where
  -- an entry mapped to its key is an entry of the slice
  mapped_right_get :
      (e : Entry) → 1 ≤ e.at → e.len ≡ length (spells lex e.key_of) → mapped_right line_for xs e ≡ true →
      In e (flat lex (lines_in xs))
  unfolding mapped_right line
  mapped_right_get e from len t =
      let is : 1 ≤ line_for e.at =
      ltb-true 0 (line_for e.at) (and_left (ltb 0 (line_for e.at)) (same_key (key_at xs (line_for e.at - 1)) e.key_of) t) in
      let here : (line_for e.at - 1 < keys_of xs) × In e.at (line_of xs (line_for e.at - 1)).positions =
      mapped.real e.at (line_for e.at - 1) from (omega arith) in
      let keys : key_at xs (line_for e.at - 1) ≡ e.key_of =
      same_key_get (key_at xs (line_for e.at - 1)) e.key_of
      (and_right (ltb 0 (line_for e.at)) (same_key (key_at xs (line_for e.at - 1)) e.key_of) t) in
      let is_e : posting lex (key_at xs (line_for e.at - 1)) e.at ≡ e =
      entry_eq (posting lex (key_at xs (line_for e.at - 1)) e.at) e keys refl
      (ap (λ (k : Key). length (spells lex k)) keys ∙ sym len) in
      rw is_e at
      (flat_put lex (lines_in xs) (line_of xs (line_for e.at - 1)) e.at (line_of_in xs (line_for e.at - 1) here.0) here.1)

  -- an entry of the slice is mapped to its key if no other starts at its position
  mapped_right_put :
      (e : Entry) → 1 ≤ e.at → In e (flat lex (lines_in xs)) →
      ((f : Entry) → In f (flat lex (lines_in xs)) → f.at ≡ e.at → f ≡ e) → mapped_right line_for xs e ≡ true
  unfolding mapped_right line
  mapped_right_put e from m own =
      let (l, i, k, q) = flat_get lex (lines_in xs) e m in
      let (j, b, s) = line_number xs l i in
      let is : 1 ≤ line_for e.at = mapped.each e.at j b (rw (← s) at k) in
      let here : (line_for e.at - 1 < keys_of xs) × In e.at (line_of xs (line_for e.at - 1)).positions =
      mapped.real e.at (line_for e.at - 1) from (omega arith) in
      let keys : key_at xs (line_for e.at - 1) ≡ e.key_of =
      ap (λ (f : Entry). f.key_of)
      (own (posting lex (key_at xs (line_for e.at - 1)) e.at)
      (flat_put lex (lines_in xs) (line_of xs (line_for e.at - 1)) e.at (line_of_in xs (line_for e.at - 1) here.0)
      here.1) refl) in
      and_put (lt-ltb 0 (line_for e.at) is)
      (same_key_put (key_at xs (line_for e.at - 1)) e.key_of keys)

module _ {lex : Lexicon} (good : GoodLexicon lex) (g : ℕ) {xs : List ℕ} (can : readable g lex xs ≡ true) {line_for : ℕ → ℕ}
    (mapped : LineMap xs line_for) where
  -- If the test passes, the slice is the index of the characters scanned, whatever they are.
  pub verify_index : (us : List ℕ) → Chars us → length us ≡ n_of xs → verify lex line_for xs us ≡ true → index_of lex us ≡ xs
  unfolding verify
  verify_index us chars len t =
      counted_index good g can us chars len each
      (sym (scan_count good us chars)
      ∙ eqb-true (length (make_index lex us)) (entries_of xs)
      (and_right (all_mapped line_for xs (make_index lex us)) (eqb (length (make_index lex us)) (entries_of xs)) t))
    where
      each : (e : Entry) → In e (entries lex us) → In e (flat lex (lines_in xs))
      each e m =
          let h = entries_sound lex good us chars e m in
          mapped_right_get lex mapped e h.from h.len_is
          (all_mapped_get line_for xs (make_index lex us)
          (and_left (all_mapped line_for xs (make_index lex us)) (eqb (length (make_index lex us)) (entries_of xs)) t) e
          (make_index_put lex good us chars e m))

  pub verify_is_index :
      (us : List ℕ) → Chars us → length us ≡ n_of xs → verify lex line_for xs us ≡ true →
      (is_index g lex xs ≡ true) × (recovered lex xs ≡ us)
  verify_is_index us chars len t = index_taken good g can us chars len (verify_index us chars len t)

  pub is_index_verify : is_index g lex xs ≡ true → verify lex line_for xs (recovered lex xs) ≡ true
  unfolding verify
  is_index_verify r =
      and_put (all_mapped_put line_for xs (make_index lex (recovered lex xs)) each)
      (eq-eqb (length (make_index lex (recovered lex xs))) (entries_of xs)
      (scan_count good (recovered lex xs) chars ∙ is_index_count good g xs r))
    where
      chars : Chars (recovered lex xs)
      chars = readable_chars good g xs can

      each : (e : Entry) → In e (make_index lex (recovered lex xs)) → mapped_right line_for xs e ≡ true
      each e m =
          let i = make_index_get lex good (recovered lex xs) chars e m in
          let here = is_index_all good g xs r e i in
          mapped_right_put lex mapped e (entries_sound lex good (recovered lex xs) chars e i).from here
          (λ f n a. is_index_own_positions good g xs r n here a)

  -- The test passes exactly if the numbers are the index of the text recovered from them, for any characters that are then the recovered
  -- text.
  pub verify_exact :
      (us : List ℕ) → Chars us → length us ≡ n_of xs → (is_index g lex xs ≡ true → us ≡ recovered lex xs) →
      verify lex line_for xs us ≡ is_index g lex xs
  verify_exact us chars len reconstructed =
      iff_eq (verify lex line_for xs us) (is_index g lex xs) (λ t. (verify_is_index us chars len t).0)
      (λ r. subst (λ (ys : List ℕ). verify lex line_for xs ys ≡ true) (sym (reconstructed r)) (is_index_verify r))

-- THE FIRST AND THE LAST STEP OF THE SCAN

module _ (lex : Lexicon) (line_for : ℕ → ℕ) (xs us : List ℕ) where
  pub verify_starts : verify_from lex line_for xs us (length us) 1 1 0 ≡ verify lex line_for xs us
  unfolding verify_from verify make_index
  verify_starts =
      let z : 0 + length (scan (longest_at lex us) (length us) 1 1) ≡ length (scan (longest_at lex us) (length us) 1 1) = omega arith in
      rw z

  pub verify_ends : (p last count : ℕ) → verify_from lex line_for xs us zero p last count ≡ eqb count (entries_of xs)
  unfolding verify_from scan all_mapped
  verify_ends p last count = let z : count + 0 ≡ count = omega arith in rw z
