-- Maximal entries: each is the longest at its position and ends after all that start earlier; every entry lies in one. Assumes nothing.
use Rattle.std.specs.Prelude.{◌≡◌, true, ◌⊎◌, List, [], ◌∷◌, get_or}
use Rattle.std.proofs.Math.Path.{refl, ap}
use Rattle.std.proofs.Common.{sym, inr}
use Rattle.std.proofs.Math.Bool.{false}
use Rattle.std.proofs.Math.Logic.{inl, ⊎_elim}
use Prim.Native.Nat.{ℕ, zero, suc, ◌+◌, ◌-◌, ◌≤◌, ◌<◌}
use native.Mathlib.Omega.{arith}
use Rattle.std.proofs.Math.ListN.{length}
use Rattle.basics.specs.Bools.{clash, true_or_false, le_or_lt}
use Rattle.spec.specs.Dictionary.{Lexicon}
use Rattle.spec.specs.Words.{Entry, entry, complete, in_another, entries}
use Rattle.laws.specs.Text.Strings.{Stand}
use Rattle.laws.specs.Text.Overlaps.{stand_char}
use Rattle.laws.specs.Text.Facts.{Chars, GoodLexicon, IsEntry, Contains, IsMaximal}
use Rattle.laws.specs.Dictionary.Keys.{char_key}
use Rattle.laws.specs.Entries.Complete.{complete_get, complete_put}
use Rattle.laws.specs.Entries.Entries.{same_entry_put, entry_unique, in_text, in_another_get, maximal_put, entries_get}

-- no entry at its position is longer
pub record IsLongest (lex : Lexicon) (ts : List ℕ) (e : Entry) : Type 0 where
  pub is_entry : IsEntry lex ts e
  pub longest : (f : Entry) → IsEntry lex ts f → f.at ≡ e.at → f.len ≤ e.len

-- and it ends after every entry that starts earlier
pub record IsLeading (lex : Lexicon) (ts : List ℕ) (e : Entry) : Type 0 where
  pub is_longest : IsLongest lex ts e
  pub after : (f : Entry) → IsEntry lex ts f → f.at < e.at → f.at + f.len < e.at + e.len

pub maximal_leading : (lex : Lexicon) (ts : List ℕ) (e : Entry) → IsMaximal lex ts e → IsLeading lex ts e
maximal_leading lex ts e h = record { is_longest = record { is_entry = h.is_entry; longest = longest }; after = after }
  where
    longest : (f : Entry) → IsEntry lex ts f → f.at ≡ e.at → f.len ≤ e.len
    longest f hf a =
        ⊎_elim (λ (p : f.len ≤ e.len). p)
        (λ (q : e.len < f.len).
        let same : f ≡ e = h.alone f hf (record { starts = omega arith; ends = omega arith }) in
        omega (arith, ap (λ (x : Entry). x.len) same))
        (le_or_lt f.len e.len)

    after : (f : Entry) → IsEntry lex ts f → f.at < e.at → f.at + f.len < e.at + e.len
    after f hf a =
        ⊎_elim
        (λ (p : e.at + e.len ≤ f.at + f.len).
        let same : f ≡ e = h.alone f hf (record { starts = omega arith; ends = p }) in
        omega (arith, ap (λ (x : Entry). x.at) same))
        (λ (q : f.at + f.len < e.at + e.len). q) (le_or_lt (e.at + e.len) (f.at + f.len))

module _ (lex : Lexicon) (good : GoodLexicon lex) (ts : List ℕ) where
  pub leading_maximal : {e : Entry} → IsLeading lex ts e → IsMaximal lex ts e
  leading_maximal {e} h = record { is_entry = h.is_longest.is_entry; alone = alone }
    where
      alone : (f : Entry) → IsEntry lex ts f → Contains f e → f ≡ e
      alone f hf c =
          ⊎_elim
          (λ (p : e.at ≤ f.at).
          let here : f.at ≡ e.at = omega arith in
          entry_unique good hf h.is_longest.is_entry here
          (omega (arith, h.is_longest.longest f hf here)))
          (λ (q : f.at < e.at). absurd (omega (arith, h.after f hf q))) (le_or_lt e.at f.at)

  pub longest_unique : {e f : Entry} → IsLongest lex ts e → IsLongest lex ts f → e.at ≡ f.at → e ≡ f
  longest_unique {e} {f} he hf a =
      entry_unique good he.is_entry hf.is_entry a
      (omega (arith, he.longest f hf.is_entry (sym a), hf.longest e he.is_entry a))

  -- two maximal entries at one position are the same
  pub maximal_unique : {e f : Entry} → IsMaximal lex ts e → IsMaximal lex ts f → e.at ≡ f.at → e ≡ f
  maximal_unique {e} {f} he hf a =
      longest_unique (maximal_leading lex ts e he).is_longest (maximal_leading lex ts f hf).is_longest a

-- EVERY ENTRY LIES IN A MAXIMAL ONE

module _ (lex : Lexicon) (good : GoodLexicon lex) (ts : List ℕ) (chars : Chars ts) where
  -- an entry is maximal, or lies in a longer one
  pub maximal_or_longer :
      {e : Entry} → IsEntry lex ts e →
      IsMaximal lex ts e ⊎ ((f : Entry) × IsEntry lex ts f × Contains f e × (e.len < f.len))
  unfolding entries
  maximal_or_longer {e} h = ⊎_elim longer alone (true_or_false (in_another e (complete lex ts)))
    where
      alone :
          in_another e (complete lex ts) ≡ false →
          IsMaximal lex ts e ⊎ ((f : Entry) × IsEntry lex ts f × Contains f e × (e.len < f.len))
      alone n =
          inl
          (entries_get lex good ts chars e
          (maximal_put e (complete lex ts) (complete lex ts) (complete_put good h) n))

      longer :
          in_another e (complete lex ts) ≡ true →
          IsMaximal lex ts e ⊎ ((f : Entry) × IsEntry lex ts f × Contains f e × (e.len < f.len))
      longer t =
          let (f, m, d, c) = in_another_get e (complete lex ts) t in
          let hf : IsEntry lex ts f = complete_get lex ts chars f m in
          ⊎_elim
          (λ (p : f.len ≤ e.len).
          let a : e.at ≡ f.at = omega arith in
          let l : e.len ≡ f.len = omega arith in
          clash (same_entry_put e f (entry_unique good h hf a l)) d)
          (λ (q : e.len < f.len). inr (f, hf, c, q)) (le_or_lt f.len e.len)

  -- by recursion on the difference to the length of the text: each step goes to a longer entry
  in_maximal_from :
      (fuel : ℕ) {e : Entry} → IsEntry lex ts e → length ts < e.len + fuel → (f : Entry) × IsMaximal lex ts f × Contains f e
  in_maximal_from zero {e} h b = absurd (omega (arith, in_text good h))
  in_maximal_from (suc n) {e} h b =
      ⊎_elim (λ (m : IsMaximal lex ts e). (e, m, record { starts = omega arith; ends = omega arith }))
      (λ (l : (f : Entry) × IsEntry lex ts f × Contains f e × (e.len < f.len)).
      let (f, hf, c, q) = l in
      let (g, mg, d) = in_maximal_from n hf (omega arith) in
      (g, mg, record { starts = omega arith; ends = omega arith }))
      (maximal_or_longer h)

  pub in_maximal : {e : Entry} → IsEntry lex ts e → (f : Entry) × IsMaximal lex ts f × Contains f e
  in_maximal {e} h = in_maximal_from (suc (length ts)) h (omega arith)

  -- each position of the text has the entry of its character
  pub char_entry : (p : ℕ) → 1 ≤ p → p ≤ length ts → (e : Entry) × IsEntry lex ts e × (e.at ≡ p) × (e.len ≡ 1)
  unfolding entry
  char_entry p lo hi =
      let (k, hk, s) = char_key lex (get_or ts (p - 1) 0) (chars (p - 1) (omega arith)) in
      let position : suc (p - 1) ≡ p = omega arith in
      let stand : Stand (get_or ts (p - 1) 0 ∷ []) ts p = rw position at (stand_char ts (p - 1) (omega arith)) in
      (entry k p 1, record { is_key = hk; len_is = ap length (sym s); stand = rw s stand }, refl, refl)

  -- every position of the text lies in a maximal entry
  pub maximal_covers :
      (p : ℕ) → 1 ≤ p → p ≤ length ts → (e : Entry) × IsMaximal lex ts e × (e.at ≤ p) × (p < e.at + e.len)
  maximal_covers p lo hi =
      let (e, he, a, l) = char_entry p lo hi in
      let (f, hf, c) = in_maximal he in
      (f, hf, omega arith, omega arith)
