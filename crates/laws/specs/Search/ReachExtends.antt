-- Each step of the search algorithm extends the reach by exactly the entries that it takes. Assumes nothing.
use Rattle.std.specs.Prelude.{◌≡◌, Bool, cond, ◌⊎◌, leb, eqb}
use Rattle.std.proofs.Math.Path.{refl, ap}
use Rattle.std.proofs.Math.Bool.{true, false}
use Rattle.std.proofs.Math.Logic.{inl, inr}
use mathlib.Core.List.{List, [], ◌∷◌}
use Prim.Native.Nat.{ℕ, zero, suc, ◌+◌, ◌-◌, ◌≤◌, ◌<◌, min, max}
use native.Mathlib.Omega.{arith}
use Rattle.std.proofs.Math.ListN.{length}
use Rattle.std.proofs.Common.{leb-true, leb-false, eqb-true}
use Rattle.std.proofs.lemmas.Bool.{eqb-false}
use Rattle.basics.specs.Bools.{clash, le_or_lt}
use Rattle.basics.specs.Member.{In, in_append_left, in_append_right, in_append_get}
use Rattle.spec.specs.Dictionary.{Lexicon}
use Rattle.spec.specs.Words.{Key, spells, Entry, entry}
use Rattle.spec.specs.Numbers.{Line}
use Rattle.spec.specs.Search.{agrees}
use Rattle.models.specs.Entries.{entries_at, flat}
use Rattle.models.specs.Reach.{extend, reach_positions, reach_key, reach_back, reach_leading, reach_offset}
use Rattle.laws.specs.Numbers.Flat.{posting, entries_at_get, Fewer}
use Rattle.laws.specs.Search.Agree.{Agree, agrees_get, agrees_put, agree_move}
use Rattle.laws.specs.Search.Cover.{Extends, extends_none, extends_then, extends_by, extends_fewer, extends_later}

-- the entries at a key's positions at one offset
abbrev pub AtOffset : Lexicon → (p i o : ℕ) → Key → (positions : List ℕ) → Entry → Type 0
AtOffset lex p i o k bs e = In e (entries_at lex k bs) × (e.at + i ≡ p + o)

module _ {lex : Lexicon} {ls : List Line} {s : List ℕ} {p : ℕ} where
  pub extend_extends :
      {i o : ℕ} (k : Key) (b r : ℕ) → min i o ≡ 0 → Agree s i (spells lex k) o → In (posting lex k b) (flat lex ls) →
      Extends lex ls s p (λ e. (e ≡ posting lex k b) × (e.at + i ≡ p + o)) r (extend i o (length (spells lex k)) p b r)
  unfolding extend
  extend_extends {i} {o} k b r one agree m = by_offset (eqb (b + i) (p + o)) refl
    where
      Taken : Entry → Type 0
      Taken e = (e ≡ posting lex k b) × (e.at + i ≡ p + o)

      by_reach :
          b + i ≡ p + o → (t : Bool) → leb o r ≡ t → Extends lex ls s p Taken r (cond t (max r ((o + length (spells lex k)) - i)) r)
      by_reach z true t =
          let near : o ≤ r = leb-true o r t in
          let end : (o + length (spells lex k)) - i ≡ (b + length (spells lex k)) - p = omega arith in
          rw end
          (extends_fewer Taken (λ e taken a. taken.0)
          (extends_by (posting lex k b) m (agree_move p b (omega arith) agree) r (omega arith)))
      by_reach z false t =
          let far : r < o = leb-false o r t in
          extends_later Taken r (λ e taken. let at : e.at + i ≡ p + o = taken.1 in omega arith)

      by_offset :
          (t : Bool) → eqb (b + i) (p + o) ≡ t →
          Extends lex ls s p Taken r (cond t (cond (leb o r) (max r ((o + length (spells lex k)) - i)) r) r)
      by_offset true t = by_reach (eqb-true (b + i) (p + o) t) (leb o r) refl
      by_offset false t =
          extends_fewer Taken
          (λ e taken a.
          let at : e.at ≡ b = ap (λ (f : Entry). f.at) taken.0 in
          let z : b + i ≡ p + o = omega arith in
          eqb-false (b + i) (p + o) t z)
          (extends_none r)

  pub reach_positions_extends :
      {i o : ℕ} (k : Key) (bs : List ℕ) (r : ℕ) → min i o ≡ 0 → Agree s i (spells lex k) o →
      ((e : Entry) → In e (entries_at lex k bs) → In e (flat lex ls)) →
      Extends lex ls s p (AtOffset lex p i o k bs) r (reach_positions i o (length (spells lex k)) p bs r)
  unfolding reach_positions entries_at entry
  reach_positions_extends {i} {o} k [] r one agree kept =
      extends_fewer (AtOffset lex p i o k []) (λ e taken a. taken.0) (extends_none r)
  reach_positions_extends {i} {o} k (b ∷ bs) r one agree kept =
      let len = length (spells lex k) in
      let t = extend i o len p b r in
      extends_then (AtOffset lex p i o k (b ∷ bs)) (λ e taken. split e taken.0 taken.1)
      (extend_extends k b r one agree (kept (posting lex k b) (inl refl)))
      (reach_positions_extends k bs t one agree (λ e m. kept e (inr m)))
    where
      split :
          (e : Entry) → In e (posting lex k b ∷ entries_at lex k bs) → e.at + i ≡ p + o →
          ((e ≡ posting lex k b) × (e.at + i ≡ p + o)) ⊎ AtOffset lex p i o k bs e
      split e (inl h) z = inl (h, z)
      split e (inr m) z = inr (m, z)

  -- one key at one offset takes its entries there
  pub reach_key_extends :
      (i o : ℕ) (k : Key) (bs : List ℕ) (r : ℕ) → min i o ≡ 0 → ((e : Entry) → In e (entries_at lex k bs) → In e (flat lex ls)) →
      Extends lex ls s p (AtOffset lex p i o k bs) r (reach_key i o s (spells lex k) p bs r)
  unfolding reach_key
  reach_key_extends i o k bs r one kept = by_test (agrees s i (spells lex k) o) refl
    where
      by_test :
          (t : Bool) → agrees s i (spells lex k) o ≡ t →
          Extends lex ls s p (AtOffset lex p i o k bs) r (cond t (reach_positions i o (length (spells lex k)) p bs r) r)
      by_test true t = reach_positions_extends k bs r one (agrees_get s i (spells lex k) o t) kept
      by_test false t =
          extends_fewer (AtOffset lex p i o k bs)
          (λ e taken a.
          let b = entries_at_get lex k bs e taken.0 in
          let key : e.key_of ≡ k = ap (λ (f : Entry). f.key_of) b.2 in
          let agree : Agree s p (spells lex k) e.at = rw key at a in
          clash (agrees_put s i (spells lex k) o (agree_move i o (omega arith) agree)) t)
          (extends_none r)

  -- one key at n offsets from −i down
  pub reach_back_extends :
      (n i : ℕ) (k : Key) (bs : List ℕ) (r : ℕ) → ((e : Entry) → In e (entries_at lex k bs) → In e (flat lex ls)) →
      Extends lex ls s p (λ e. In e (entries_at lex k bs) × (e.at + i ≤ p) × (p < e.at + i + n)) r
      (reach_back n i s (spells lex k) p bs r)
  unfolding reach_back
  reach_back_extends zero i k bs r kept =
      extends_fewer (λ e. In e (entries_at lex k bs) × (e.at + i ≤ p) × (p < e.at + i + 0)) (λ e taken a. omega arith) (extends_none r)
  reach_back_extends (suc n) i k bs r kept =
      let t = reach_key i 0 s (spells lex k) p bs r in
      extends_then (λ e. In e (entries_at lex k bs) × (e.at + i ≤ p) × (p < e.at + i + suc n))
      (λ e taken. split e taken.0 taken.1 taken.2 (le_or_lt p (e.at + i)))
      (reach_key_extends i 0 k bs r (omega arith) kept) (reach_back_extends n (suc i) k bs t kept)
    where
      split :
          (e : Entry) → In e (entries_at lex k bs) → e.at + i ≤ p → p < e.at + i + suc n → (p ≤ e.at + i) ⊎ (e.at + i < p) →
          AtOffset lex p i 0 k bs e ⊎ (In e (entries_at lex k bs) × (e.at + suc i ≤ p) × (p < e.at + suc i + n))
      split e m lo hi (inl h) = inl (m, omega arith)
      split e m lo hi (inr h) = inr (m, omega arith, omega arith)

  -- the leading keys take the entries that start at p or before
  pub reach_leading_extends :
      (ks : List Line) (r : ℕ) → Fewer lex ks ls →
      Extends lex ls s p (λ e. In e (flat lex ks) × (e.at ≤ p)) r (reach_leading lex ks s p r)
  unfolding reach_leading flat
  reach_leading_extends [] r kept =
      extends_fewer (λ e. ⊥ × (e.at ≤ p)) (λ e taken a. taken.0) (extends_none r)
  reach_leading_extends (l ∷ ks) r kept =
      extends_then (λ e. In e (flat lex (l ∷ ks)) × (e.at ≤ p))
      (λ e taken. split e taken.1 (in_append_get e (entries_at lex l.key_of l.positions) (flat lex ks) taken.0))
      line
      (reach_leading_extends ks t (λ e m. kept e (in_append_right e (entries_at lex l.key_of l.positions) (flat lex ks) m)))
    where
      k : List ℕ
      k = spells lex l.key_of

      t : ℕ
      t = reach_back (length k) 0 s k p l.positions r

      Here : Entry → Type 0
      Here e = In e (entries_at lex l.key_of l.positions) × (e.at ≤ p)

      line : Extends lex ls s p Here r t
      line =
          extends_fewer Here
          (λ e taken a.
          let b = entries_at_get lex l.key_of l.positions e taken.0 in
          let key : e.key_of ≡ l.key_of = ap (λ (f : Entry). f.key_of) b.2 in
          let agree : Agree s p k e.at = rw key at a in
          (taken.0, omega arith, omega arith))
          (reach_back_extends (length k) 0 l.key_of l.positions r
          (λ e m. kept e (in_append_left e (entries_at lex l.key_of l.positions) (flat lex ks) m)))

      split :
          (e : Entry) → e.at ≤ p → In e (entries_at lex l.key_of l.positions) ⊎ In e (flat lex ks) →
          Here e ⊎ (In e (flat lex ks) × (e.at ≤ p))
      split e at (inl m) = inl (m, at)
      split e at (inr m) = inr (m, at)

  -- an offset o above 0 takes the entries at p + o
  pub reach_offset_extends :
      (ks : List Line) (o r : ℕ) → Fewer lex ks ls →
      Extends lex ls s p (λ e. In e (flat lex ks) × (e.at ≡ p + o)) r (reach_offset o lex ks s p r)
  unfolding reach_offset flat
  reach_offset_extends [] o r kept =
      extends_fewer (λ e. ⊥ × (e.at ≡ p + o)) (λ e taken a. taken.0) (extends_none r)
  reach_offset_extends (l ∷ ks) o r kept =
      let t = reach_key 0 o s (spells lex l.key_of) p l.positions r in
      extends_then (λ e. In e (flat lex (l ∷ ks)) × (e.at ≡ p + o))
      (λ e taken. split e taken.1 (in_append_get e (entries_at lex l.key_of l.positions) (flat lex ks) taken.0))
      (reach_key_extends 0 o l.key_of l.positions r (omega arith)
      (λ e m. kept e (in_append_left e (entries_at lex l.key_of l.positions) (flat lex ks) m)))
      (reach_offset_extends ks o t (λ e m. kept e (in_append_right e (entries_at lex l.key_of l.positions) (flat lex ks) m)))
    where
      split :
          (e : Entry) → e.at ≡ p + o → In e (entries_at lex l.key_of l.positions) ⊎ In e (flat lex ks) →
          AtOffset lex p 0 o l.key_of l.positions e ⊎ (In e (flat lex ks) × (e.at ≡ p + o))
      split e at (inl m) = inl (m, omega arith)
      split e at (inr m) = inr (m, at)
