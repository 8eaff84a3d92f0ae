-- The one-pass scan of source 000's figure 1, the model of the builder: it registers exactly the maximal entries, in the order of their
-- positions. Assumes nothing.
use Rattle.std.specs.Prelude.{◌≡◌, Bool, true, false, cond, ◌⊎◌, List, [], ◌∷◌, ltb, length}
use Rattle.std.proofs.Common.{ap, inl, inr, ⊎_elim, lt-ltb, le-ltb}
use Prim.Native.Nat.{ℕ, zero, suc, ◌+◌, ◌≤◌, ◌<◌}
use native.Mathlib.Omega.{arith}
use Rattle.basics.specs.Bools.{le_or_lt}
use Rattle.basics.specs.Member.{In}
use Rattle.spec.specs.Dictionary.{Lexicon}
use Rattle.spec.specs.Words.{Entry}
use Rattle.models.specs.Scan.{scan}
use Rattle.laws.specs.Text.Facts.{GoodLexicon, IsEntry, IsMaximal}
use Rattle.laws.specs.Entries.Entries.{in_text}
use Rattle.laws.specs.Entries.Maximal.{IsLongest, maximal_leading, leading_maximal, maximal_unique}
use Rattle.laws.specs.Entries.EntryPositions.{PositionsRise, positions_rise_from}

pub scan_registers :
    (longest : ℕ → Entry) (n p last : ℕ) → last < p + (longest p).len →
    scan longest (suc n) p last ≡ longest p ∷ scan longest n (suc p) (p + (longest p).len)
unfolding scan
scan_registers longest n p last h =
    ap
    (λ (b : Bool).
    cond b (longest p ∷ scan longest n (suc p) (p + (longest p).len)) (scan longest n (suc p) last))
    (lt-ltb last _ (omega arith))

pub scan_passes :
    (longest : ℕ → Entry) (n p last : ℕ) → p + (longest p).len ≤ last → scan longest (suc n) p last ≡ scan longest n (suc p) last
unfolding scan
scan_passes longest n p last h =
    ap
    (λ (b : Bool).
    cond b (longest p ∷ scan longest n (suc p) (p + (longest p).len)) (scan longest n (suc p) last))
    (le-ltb last _ (omega arith))

-- at most one entry for each position
pub length_scan : (longest : ℕ → Entry) (n p last : ℕ) → length (scan longest n p last) ≤ n
unfolding scan
length_scan longest zero p last = omega arith
length_scan longest (suc n) p last =
    go (ltb last (p + (longest p).len)) (length_scan longest n (suc p) (p + (longest p).len)) (length_scan longest n (suc p) last)
  where
    go :
        (b : Bool) → length (scan longest n (suc p) (p + (longest p).len)) ≤ n → length (scan longest n (suc p) last) ≤ n →
        length (cond b (longest p ∷ scan longest n (suc p) (p + (longest p).len)) (scan longest n (suc p) last)) ≤ suc n
    go true h k = omega arith
    go false h k = omega arith

-- WHAT HOLDS BETWEEN TWO POSITIONS

-- Before position p: no entry that starts before p ends after `last`, and each maximal entry to come does.
pub record Scanned (lex : Lexicon) (ts : List ℕ) (p last : ℕ) : Type 0 where
  pub behind : (f : Entry) → IsEntry lex ts f → f.at < p → f.at + f.len ≤ last
  pub ahead : (e : Entry) → IsMaximal lex ts e → p ≤ e.at → last < e.at + e.len

-- e is an entry at p, and none there is longer
pub record LongestAt (lex : Lexicon) (ts : List ℕ) (p : ℕ) (e : Entry) : Type 0 where
  pub is_longest : IsLongest lex ts e
  pub here : e.at ≡ p

module _ {lex : Lexicon} (good : GoodLexicon lex) (ts : List ℕ) where
  pub scanned_start : Scanned lex ts 1 1
  scanned_start =
      record {
        behind = λ f hf b. absurd (omega (arith, in_text good hf));
        ahead = λ e he b. omega (arith, in_text good he.is_entry);
      }

  -- an entry that ends after `last` is maximal, and its end is the next `last`
  pub scanned_maximal :
      {p last : ℕ} {e : Entry} → Scanned lex ts p last → LongestAt lex ts p e → last < p + e.len → IsMaximal lex ts e
  scanned_maximal {e} s l h =
      leading_maximal lex good ts
      (record {
        is_longest = l.is_longest;
        after = λ f hf b. omega (arith, s.behind f hf (omega arith));
      })

  pub scanned_registered :
      {p last : ℕ} {e : Entry} → Scanned lex ts p last → LongestAt lex ts p e → last < p + e.len →
      Scanned lex ts (suc p) (p + e.len)
  scanned_registered {p} {e} s l h =
      record {
        behind = λ f hf b. behind hf b (le_or_lt p f.at);
        ahead =
            λ f hf b. omega (arith, (maximal_leading lex ts f hf).after e l.is_longest.is_entry (omega arith));
      }
    where
      behind : {f : Entry} → IsEntry lex ts f → f.at < suc p → ((p ≤ f.at) ⊎ (f.at < p)) → f.at + f.len ≤ p + e.len
      behind {f} hf b (inl q) = omega (arith, l.is_longest.longest f hf (omega arith))
      behind {f} hf b (inr q) = omega (arith, s.behind f hf q)

  -- otherwise p has no maximal entry, and `last` stays
  pub scanned_none :
      {p last : ℕ} {e f : Entry} → Scanned lex ts p last → LongestAt lex ts p e → p + e.len ≤ last → IsMaximal lex ts f →
      f.at ≡ p → ⊥
  scanned_none {f} s l h hf a =
      omega (arith, s.ahead f hf (omega arith), l.is_longest.longest f hf.is_entry (omega arith))

  pub scanned_passed :
      {p last : ℕ} {e : Entry} → Scanned lex ts p last → LongestAt lex ts p e → p + e.len ≤ last → Scanned lex ts (suc p) last
  scanned_passed {p} {last} s l h =
      record {
        behind = λ f hf b. behind hf b (le_or_lt p f.at);
        ahead = λ f hf b. s.ahead f hf (omega arith);
      }
    where
      behind : {f : Entry} → IsEntry lex ts f → f.at < suc p → ((p ≤ f.at) ⊎ (f.at < p)) → f.at + f.len ≤ last
      behind {f} hf b (inl q) = omega (arith, l.is_longest.longest f hf (omega arith))
      behind {f} hf b (inr q) = s.behind f hf q

-- THE WHOLE SCAN

-- es are the maximal entries from position p on, in the order of their positions
pub record MaximalFrom (lex : Lexicon) (ts : List ℕ) (p : ℕ) (es : List Entry) : Type 0 where
  pub get : (e : Entry) → In e es → IsMaximal lex ts e
  pub put : (e : Entry) → IsMaximal lex ts e → p ≤ e.at → In e es
  pub rise : PositionsRise p es

module _ {lex : Lexicon} (good : GoodLexicon lex) (ts : List ℕ) where
  maximal_from_end : MaximalFrom lex ts (suc (length ts)) []
  maximal_from_end =
      record {
        get = λ e m. absurd m;
        put = λ e h b. absurd (omega (arith, in_text good h.is_entry));
        rise = tt;
      }

  maximal_from_registered :
      {p : ℕ} {e : Entry} {es : List Entry} → LongestAt lex ts p e → IsMaximal lex ts e → MaximalFrom lex ts (suc p) es →
      MaximalFrom lex ts p (e ∷ es)
  maximal_from_registered {p} {e} {es} l h more = record { get = get; put = put; rise = (omega arith, rw l.here more.rise) }
    where
      get : (f : Entry) → In f (e ∷ es) → IsMaximal lex ts f
      get f (inl q) = rw q h
      get f (inr m) = more.get f m

      put : (f : Entry) → IsMaximal lex ts f → p ≤ f.at → In f (e ∷ es)
      put f hf b =
          ⊎_elim (λ (q : f.at ≤ p). inl (maximal_unique lex good ts hf h (omega arith)))
          (λ (q : p < f.at). inr (more.put f hf q)) (le_or_lt f.at p)

  maximal_from_passed :
      (p : ℕ) {es : List Entry} → ((f : Entry) → IsMaximal lex ts f → f.at ≡ p → ⊥) → MaximalFrom lex ts (suc p) es →
      MaximalFrom lex ts p es
  maximal_from_passed p {es} none more =
      record { get = more.get; put = put; rise = positions_rise_from (suc p) p es (omega arith) more.rise }
    where
      put : (f : Entry) → IsMaximal lex ts f → p ≤ f.at → In f es
      put f hf b =
          ⊎_elim (λ (q : f.at ≤ p). absurd (none f hf (omega arith))) (λ (q : p < f.at). more.put f hf q) (le_or_lt f.at p)

  module _ (longest : ℕ → Entry) (is_longest : (p : ℕ) → 1 ≤ p → p ≤ length ts → LongestAt lex ts p (longest p)) where
    pub scan_from :
        (left : ℕ) {p last : ℕ} → Scanned lex ts p last → 1 ≤ p → p + left ≡ suc (length ts) →
        MaximalFrom lex ts p (scan longest left p last)
    unfolding scan
    scan_from zero {p} s lo fits =
        let end : p ≡ suc (length ts) = omega arith in
        rw end maximal_from_end
    scan_from (suc n) {p} {last} s lo fits = step (λ last. scan_from n {last = last}) (le_or_lt (p + (longest p).len) last)
      where
        l : LongestAt lex ts p (longest p)
        l = is_longest p lo (omega arith)

        step :
            ((last : ℕ) → Scanned lex ts (suc p) last → 1 ≤ suc p → suc p + n ≡ suc (length ts) →
            MaximalFrom lex ts (suc p) (scan longest n (suc p) last)) →
            ((p + (longest p).len ≤ last) ⊎ (last < p + (longest p).len)) → MaximalFrom lex ts p (scan longest (suc n) p last)
        step more (inl h) =
            rw (scan_passes longest n p last h)
            (maximal_from_passed p (λ f hf. scanned_none good ts s l h hf)
            (more last (scanned_passed good ts s l h) (omega arith) (omega arith)))
        step more (inr h) =
            rw (scan_registers longest n p last h)
            (maximal_from_registered l
            (scanned_maximal good ts s l h)
            (more (p + (longest p).len) (scanned_registered good ts s l h) (omega arith) (omega arith)))

    -- figure 1 starts with tail 1, and registers all maximal entries and no others, each once, by ascending positions
    pub scan_exact : MaximalFrom lex ts 1 (scan longest (length ts) 1 1)
    scan_exact = scan_from (length ts) (scanned_start good ts) (omega arith) (omega arith)
