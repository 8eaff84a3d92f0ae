-- The longest entry at a position, computed from the complete index, and the scan as a closed function. Assumes nothing.
use Rattle.std.specs.Prelude.{◌≡◌, refl, Bool, true, false, ◌&&◌, cond, ◌⊎◌, List, [], ◌∷◌, ℕ, ◌≤◌, ◌<◌, ltb, eqb, length}
use Rattle.std.proofs.Common.{sym, ◌∙◌, inl, inr, arith, lt-ltb, ltb-true, eq-eqb, eqb-true}
use Rattle.std.proofs.Math.Path.{ap}
use Rattle.std.proofs.Math.Logic.{⊎_elim}
use Rattle.basics.specs.Bools.{clash, and_put, and_left, and_right, le_or_lt}
use Rattle.basics.specs.Member.{In}
use Rattle.spec.specs.Dictionary.{Lexicon}
use Rattle.spec.specs.Words.{key, Entry, entry, complete, entries}
use Rattle.models.specs.Entries.{longest_of, longest_at}
use Rattle.models.specs.Scan.{make_index}
use Rattle.laws.specs.Text.Facts.{Chars, GoodLexicon, IsMaximal}
use Rattle.laws.specs.Entries.Complete.{complete_get, complete_put}
use Rattle.laws.specs.Entries.Entries.{entries_get, entries_put}
use Rattle.laws.specs.Entries.Maximal.{longest_unique, char_entry}
use Rattle.laws.specs.Entries.Scan.{LongestAt, MaximalFrom, scan_exact}

-- r is an entry of the list that starts at p, or `best`, and none of these is longer
pub record LongestOf (p : ℕ) (best : Entry) (es : List Entry) (r : Entry) : Type 0 where
  pub source : (In r es × (r.at ≡ p)) ⊎ (r ≡ best)
  pub over_best : best.len ≤ r.len
  pub over_all : (e : Entry) → In e es → e.at ≡ p → e.len ≤ r.len

longer_of :
    {p : ℕ} (best : Entry) {e r : Entry} {es : List Entry} → e.at ≡ p → best.len < e.len → LongestOf p e es r →
    LongestOf p best (e ∷ es) r
longer_of {p} best {e} {r} {es} here longer l = record { source = source l.source; over_best = omega arith; over_all = all }
  where
    source : (In r es × (r.at ≡ p)) ⊎ (r ≡ e) → (In r (e ∷ es) × (r.at ≡ p)) ⊎ (r ≡ best)
    source (inl m) = inl (inr m.0, m.1)
    source (inr q) = inl (inl q, ap (λ (x : Entry). x.at) q ∙ here)

    all : (f : Entry) → In f (e ∷ es) → f.at ≡ p → f.len ≤ r.len
    all f (inl q) a = omega (arith, ap (λ (x : Entry). x.len) q)
    all f (inr m) a = l.over_all f m a

not_longer_of :
    {p : ℕ} {best : Entry} (e : Entry) {r : Entry} {es : List Entry} → (e.at ≡ p → e.len ≤ best.len) → LongestOf p best es r →
    LongestOf p best (e ∷ es) r
not_longer_of {p} {best} e {r} {es} none l = record { source = source l.source; over_best = l.over_best; over_all = all }
  where
    source : (In r es × (r.at ≡ p)) ⊎ (r ≡ best) → (In r (e ∷ es) × (r.at ≡ p)) ⊎ (r ≡ best)
    source (inl m) = inl (inr m.0, m.1)
    source (inr q) = inr q

    all : (f : Entry) → In f (e ∷ es) → f.at ≡ p → f.len ≤ r.len
    all f (inl q) a =
        let small : e.len ≤ best.len = none (ap (λ (x : Entry). x.at) (sym q) ∙ a) in
        omega (arith, ap (λ (x : Entry). x.len) q)
    all f (inr m) a = l.over_all f m a

pub longest_of_is : (p : ℕ) (best : Entry) (es : List Entry) → LongestOf p best es (longest_of p best es)
unfolding longest_of
longest_of_is p best [] = record { source = inr refl; over_best = omega arith; over_all = λ e m a. absurd m }
longest_of_is p best (e ∷ es) =
    cases (eqb e.at p && ltb best.len e.len) refl (longest_of_is p e es) (longest_of_is p best es)
  where
    cases :
        (b : Bool) → (eqb e.at p && ltb best.len e.len) ≡ b → LongestOf p e es (longest_of p e es) →
        LongestOf p best es (longest_of p best es) → LongestOf p best (e ∷ es) (longest_of p (cond b e best) es)
    cases true t l k =
        longer_of best
        (eqb-true e.at p (and_left (eqb e.at p) (ltb best.len e.len) t))
        (ltb-true best.len e.len (and_right (eqb e.at p) (ltb best.len e.len) t)) l
    cases false t l k =
        not_longer_of e
        (λ a.
        ⊎_elim (λ (q : e.len ≤ best.len). q)
        (λ (q : best.len < e.len). clash (and_put (eq-eqb e.at p a) (lt-ltb best.len e.len q)) t)
        (le_or_lt e.len best.len))
        k

module _ (lex : Lexicon) (good : GoodLexicon lex) (ts : List ℕ) (chars : Chars ts) where
  pub longest_at_is : (p : ℕ) → 1 ≤ p → p ≤ length ts → LongestAt lex ts p (longest_at lex ts p)
  unfolding longest_at entry
  longest_at_is p lo hi =
      let (e, he, a, one) = char_entry lex good ts chars p lo hi in
      let over : e.len ≤ (longest_at lex ts p).len = l.over_all e (complete_put good he) a in
      ⊎_elim is
      (λ (q : longest_at lex ts p ≡ entry (key 1 0) p 0). absurd (omega (arith, ap (λ (x : Entry). x.len) q))) l.source
    where
      l : LongestOf p (entry (key 1 0) p 0) (complete lex ts) (longest_at lex ts p)
      l = longest_of_is p (entry (key 1 0) p 0) (complete lex ts)

      is : In (longest_at lex ts p) (complete lex ts) × ((longest_at lex ts p).at ≡ p) → LongestAt lex ts p (longest_at lex ts p)
      is q =
          record {
            is_longest =
                record {
                  is_entry = complete_get lex ts chars (longest_at lex ts p) q.0;
                  longest = λ f hf a. l.over_all f (complete_put good hf) (a ∙ q.1);
                };
            here = q.1;
          }

  -- any longest entry at a position is this one
  pub longest_at_unique : {p : ℕ} {e : Entry} → 1 ≤ p → p ≤ length ts → LongestAt lex ts p e → e ≡ longest_at lex ts p
  longest_at_unique {p} {e} lo hi l =
      let k : LongestAt lex ts p (longest_at lex ts p) = longest_at_is p lo hi in
      longest_unique lex good ts l.is_longest k.is_longest (l.here ∙ sym k.here)

  pub make_index_exact : MaximalFrom lex ts 1 (make_index lex ts)
  unfolding make_index
  make_index_exact = scan_exact good ts (longest_at lex ts) longest_at_is

  pub make_index_get : (e : Entry) → In e (make_index lex ts) → In e (entries lex ts)
  make_index_get e m = entries_put lex good ts chars (make_index_exact.get e m)

  pub make_index_put : (e : Entry) → In e (entries lex ts) → In e (make_index lex ts)
  make_index_put e m =
      let h : IsMaximal lex ts e = entries_get lex good ts chars e m in
      make_index_exact.put e h h.is_entry.stand.from
