-- The greedy cover of a string laid at p, as facts: entries extend the reach one by one in any order, and a reach that no entry can
-- extend decides whether all is covered. Assumes nothing.
use Rattle.std.specs.Prelude.{◌≡◌, true, ◌⊎◌, List, ℕ, suc, ◌+◌, ◌-◌, ◌≤◌, ◌<◌, max, leb, length}
use Rattle.std.proofs.Common.{ap, inl, inr, ⊎_elim, arith, le-leb, leb-true}
use Rattle.basics.specs.Bools.{iff_eq, le_or_lt}
use Rattle.basics.specs.Member.{In}
use Rattle.spec.specs.Dictionary.{Lexicon}
use Rattle.spec.specs.Words.{spells, Entry}
use Rattle.spec.specs.Numbers.{Line}
use Rattle.spec.specs.Search.{covered, all_covered}
use Rattle.models.specs.Entries.{flat}
use Rattle.laws.specs.Search.Agree.{Agree}
use Rattle.laws.specs.Search.Search.{covered_get, covered_put, found_at_get, found_at_put}

-- the first r positions under the string are covered
abbrev pub CoveredTo : Lexicon → List Line → (string : List ℕ) → (p r : ℕ) → Type 0
CoveredTo lex ls s p r = (x : ℕ) → p ≤ x → x < p + r → x < p + length s → covered lex ls s p x ≡ true

-- the positions within the reach are covered, and an entry that agrees and starts at or before its end ends at or before it
pub record Reached (lex : Lexicon) (ls : List Line) (s : List ℕ) (p r : ℕ) : Type 0 where
  pub covered_to : CoveredTo lex ls s p r
  pub closed :
      (e : Entry) → In e (flat lex ls) → Agree s p (spells lex e.key_of) e.at → e.at ≤ p + r → e.at + e.len ≤ p + r

-- the taken entries extend the reach from r to t: each that agrees and starts at or before the end of r ends at or before that of t
pub record Extends (lex : Lexicon) (ls : List Line) (s : List ℕ) (p : ℕ) (Taken : Entry → Type 0) (r t : ℕ) : Type 0 where
  pub grows : r ≤ t
  pub keeps : CoveredTo lex ls s p r → CoveredTo lex ls s p t
  pub ends : (e : Entry) → Taken e → Agree s p (spells lex e.key_of) e.at → e.at ≤ p + r → e.at + e.len ≤ p + t

module _ {lex : Lexicon} {ls : List Line} {s : List ℕ} {p : ℕ} where
  -- A reach that no entry can extend comes to the string's end exactly if all of it is covered.
  pub reached_exact : {r : ℕ} → Reached lex ls s p r → leb (length s) r ≡ all_covered (length s) p lex ls s p
  reached_exact {r} h =
      iff_eq (leb (length s) r) (all_covered (length s) p lex ls s p)
      (λ t.
      let far : length s ≤ r = leb-true (length s) r t in
      found_at_put lex ls s p (λ x lo hi. h.covered_to x lo (omega arith) hi))
      (λ t.
      le-leb (length s) r
      (⊎_elim (λ (far : length s ≤ r). far) (λ (near : r < length s). absurd (stuck t near)) (le_or_lt (length s) r)))
    where
      stuck : all_covered (length s) p lex ls s p ≡ true → r < length s → ⊥
      stuck t near =
          let e = covered_get lex ls s p (p + r) (found_at_get lex ls s p t (p + r) (omega arith) (omega arith)) in
          let end : e.0.at + e.0.len ≤ p + r = h.closed e.0 e.1.among e.1.agree e.1.from in
          omega arith

  pub extends_none : (r : ℕ) → Extends lex ls s p (λ e. ⊥) r r
  extends_none r = record { grows = omega arith; keeps = λ h. h; ends = λ e taken agree start. absurd taken }

  -- one extension after another
  pub extends_then :
      {A B : Entry → Type 0} (C : Entry → Type 0) {r t u : ℕ} → ((e : Entry) → C e → A e ⊎ B e) →
      Extends lex ls s p A r t → Extends lex ls s p B t u → Extends lex ls s p C r u
  extends_then {A} {B} C {r} {t} {u} split one two =
      record {
        grows = omega arith;
        keeps = λ h. two.keeps (one.keeps h);
        ends = λ e taken agree start. by_step e agree start (split e taken);
      }
    where
      by_step :
          (e : Entry) → Agree s p (spells lex e.key_of) e.at → e.at ≤ p + r → A e ⊎ B e → e.at + e.len ≤ p + u
      by_step e agree start (inl a) = let h : e.at + e.len ≤ p + t = one.ends e a agree start in omega arith
      by_step e agree start (inr b) = two.ends e b agree (omega arith)

  -- one entry that agrees and starts at or before the end of the reach
  pub extends_by :
      (f : Entry) → In f (flat lex ls) → Agree s p (spells lex f.key_of) f.at → (r : ℕ) → f.at ≤ p + r →
      Extends lex ls s p (λ e. e ≡ f) r (max r ((f.at + f.len) - p))
  extends_by f m agree r start =
      record {
        grows = omega arith;
        keeps = λ h x lo hi inside. on h x lo hi inside (le_or_lt (p + r) x);
        ends =
            λ e taken a b.
            let at : e.at ≡ f.at = ap (λ (g : Entry). g.at) taken in
            let len : e.len ≡ f.len = ap (λ (g : Entry). g.len) taken in
            omega arith;
      }
    where
      on :
          CoveredTo lex ls s p r → (x : ℕ) → p ≤ x → x < p + max r ((f.at + f.len) - p) → x < p + length s →
          (p + r ≤ x) ⊎ (x < p + r) → covered lex ls s p x ≡ true
      on h x lo hi inside (inr old) = h x lo old inside
      on h x lo hi inside (inl new) =
          covered_put lex ls s p x (record { among = m; from = omega arith; to = omega arith; agree = agree })

  -- it is enough to take the entries that agree
  pub extends_fewer :
      {A : Entry → Type 0} (B : Entry → Type 0) {r t : ℕ} →
      ((e : Entry) → B e → Agree s p (spells lex e.key_of) e.at → A e) → Extends lex ls s p A r t → Extends lex ls s p B r t
  extends_fewer B fewer h =
      record { grows = h.grows; keeps = h.keeps; ends = λ e taken agree start. h.ends e (fewer e taken agree) agree start }

  -- entries that start after the end of the reach change nothing
  pub extends_later : (Taken : Entry → Type 0) (r : ℕ) → ((e : Entry) → Taken e → p + r < e.at) → Extends lex ls s p Taken r r
  extends_later Taken r late =
      record {
        grows = omega arith;
        keeps = λ h. h;
        ends = λ e taken agree start. let l : p + r < e.at = late e taken in absurd (omega arith);
      }

-- OFFSETS: the entries that start at p or before, then those at p + 1, at p + 2, ..

-- n offsets from o on extend the reach from r to t: an entry at one of them that agrees and starts within the reach ends within it
pub record AtOffsets (lex : Lexicon) (ls : List Line) (s : List ℕ) (p n o r t : ℕ) : Type 0 where
  pub grows : r ≤ t
  pub keeps : CoveredTo lex ls s p r → CoveredTo lex ls s p t
  pub closed :
      (e : Entry) → In e (flat lex ls) → Agree s p (spells lex e.key_of) e.at → p + o ≤ e.at → e.at < p + o + n →
      e.at ≤ p + t → e.at + e.len ≤ p + t

module _ (lex : Lexicon) (ls : List Line) (s : List ℕ) (p : ℕ) where
  pub at_offsets_none : (o r : ℕ) → AtOffsets lex ls s p 0 o r r
  at_offsets_none o r =
      record { grows = omega arith; keeps = λ h. h; closed = λ e m agree lo hi start. absurd (omega arith) }

  -- the offset o, then those after it; a reach below o is unchanged
  pub at_offsets_then :
      {n : ℕ} (o : ℕ) {r t u : ℕ} → Extends lex ls s p (λ e. In e (flat lex ls) × (e.at ≡ p + o)) r t →
      AtOffsets lex ls s p n (suc o) t u →
      (r < o → u ≡ r) → AtOffsets lex ls s p (suc n) o r u
  at_offsets_then {n} o {r} {t} {u} offset later stop =
      record {
        grows = omega arith;
        keeps = λ h. later.keeps (offset.keeps h);
        closed = λ e m agree lo hi start. closed e m agree lo hi start (le_or_lt e.at (p + o)) (le_or_lt o r);
      }
    where
      closed :
          (e : Entry) → In e (flat lex ls) → Agree s p (spells lex e.key_of) e.at → p + o ≤ e.at → e.at < p + o + suc n →
          e.at ≤ p + u → (e.at ≤ p + o) ⊎ (p + o < e.at) → (o ≤ r) ⊎ (r < o) → e.at + e.len ≤ p + u
      closed e m agree lo hi start (inr after) reached = later.closed e m agree (omega arith) (omega arith) start
      closed e m agree lo hi start (inl here) (inl near) =
          let at : e.at ≡ p + o = omega arith in
          let end : e.at + e.len ≤ p + t = offset.ends e (m, at) agree (omega arith) in
          omega arith
      closed e m agree lo hi start (inl here) (inr far) = let still : u ≡ r = stop far in absurd (omega arith)

  -- The leading keys from a reach of 0, and the offsets above 0 after them, leave a reach that no entry can extend.
  pub at_offsets_reached :
      {t u : ℕ} → Extends lex ls s p (λ e. In e (flat lex ls) × (e.at ≤ p)) 0 t → AtOffsets lex ls s p (length s - 1) 1 t u →
      Reached lex ls s p u
  at_offsets_reached {t} {u} first offsets =
      record {
        covered_to = offsets.keeps (first.keeps (λ x lo hi inside. absurd (omega arith)));
        closed = λ e m agree start. closed e m agree start (le_or_lt e.at p);
      }
    where
      closed :
          (e : Entry) → In e (flat lex ls) → Agree s p (spells lex e.key_of) e.at → e.at ≤ p + u →
          (e.at ≤ p) ⊎ (p < e.at) → e.at + e.len ≤ p + u
      closed e m agree start (inl before) =
          let end : e.at + e.len ≤ p + t = first.ends e (m, before) agree (omega arith) in omega arith
      closed e m agree start (inr after) =
          offsets.closed e m agree (omega arith) (omega arith) start
