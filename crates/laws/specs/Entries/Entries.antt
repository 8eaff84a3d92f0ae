-- Membership in the complete maximal word index, as facts; position and length determine an entry. Assumes nothing.
use Rattle.std.specs.Prelude.{◌≡◌, refl, false, ◌&&◌, not, List, [], ◌∷◌, ℕ, suc, ◌+◌, ◌≤◌, leb, eqb, length}
use Rattle.std.proofs.Common.{sym, ap, ◌∙◌, inl, inr, ⊎_elim, arith, le-leb, leb-true, eq-eqb, eqb-true}
use Rattle.std.proofs.Math.Bool.{true}
use Rattle.basics.specs.Bools.{clash, true_or_false, false_put, not_put, not_get, and_put, and_left, and_right, or_left, or_right, or_get}
use Rattle.basics.specs.Member.{In, in_skip_get, in_skip_here, in_skip_there}
use Rattle.spec.specs.Dictionary.{Lexicon}
use Rattle.spec.specs.Words.{Key, spells, Entry, contains, same_key, same_entry, complete, in_another, maximal, entries}
use Rattle.laws.specs.Text.Overlaps.{stand_unique}
use Rattle.laws.specs.Text.Facts.{key_eq, entry_eq, Chars, GoodLexicon, IsEntry, Contains, IsMaximal}
use Rattle.laws.specs.Dictionary.Keys.{keys_distinct, spells_some}
use Rattle.laws.specs.Entries.Complete.{complete_get, complete_put}

-- TESTS

pub contains_get : (e f : Entry) → contains e f ≡ true → Contains e f
unfolding contains
contains_get e f t =
    record {
      starts = leb-true e.at f.at (and_left (leb e.at f.at) (leb (f.at + f.len) (e.at + e.len)) t);
      ends =
          leb-true (f.at + f.len) (e.at + e.len) (and_right (leb e.at f.at) (leb (f.at + f.len) (e.at + e.len)) t);
    }

pub contains_put : (e f : Entry) → Contains e f → contains e f ≡ true
unfolding contains
contains_put e f h = and_put (le-leb e.at f.at h.starts) (le-leb (f.at + f.len) (e.at + e.len) h.ends)

pub same_key_get : (j k : Key) → same_key j k ≡ true → j ≡ k
unfolding same_key
same_key_get j k t =
    key_eq j k (eqb-true j.kind k.kind (and_left (eqb j.kind k.kind) (eqb j.value k.value) t))
    (eqb-true j.value k.value (and_right (eqb j.kind k.kind) (eqb j.value k.value) t))

pub same_key_put : (j k : Key) → j ≡ k → same_key j k ≡ true
unfolding same_key
same_key_put j k e =
    and_put (eq-eqb j.kind k.kind (ap (λ (x : Key). x.kind) e)) (eq-eqb j.value k.value (ap (λ (x : Key). x.value) e))

-- entries of one text with the same key and position are the same
pub same_entry_get :
    {lex : Lexicon} {ts : List ℕ} {e f : Entry} → IsEntry lex ts e → IsEntry lex ts f → same_entry e f ≡ true → e ≡ f
unfolding same_entry
same_entry_get {lex} {e} {f} he hf t =
    let keys : e.key_of ≡ f.key_of =
    same_key_get e.key_of f.key_of (and_left (same_key e.key_of f.key_of) (eqb e.at f.at) t) in
    entry_eq e f keys (eqb-true e.at f.at (and_right (same_key e.key_of f.key_of) (eqb e.at f.at) t))
    (he.len_is ∙ ap (λ (k : Key). length (spells lex k)) keys ∙ sym hf.len_is)

pub same_entry_put : (e f : Entry) → e ≡ f → same_entry e f ≡ true
unfolding same_entry
same_entry_put e f p =
    and_put (same_key_put e.key_of f.key_of (ap (λ (x : Entry). x.key_of) p))
    (eq-eqb e.at f.at (ap (λ (x : Entry). x.at) p))

-- POSITION AND LENGTH

-- entries of one text with the same position and length are the same
pub entry_unique :
    {lex : Lexicon} → GoodLexicon lex → {ts : List ℕ} {e f : Entry} → IsEntry lex ts e → IsEntry lex ts f →
    e.at ≡ f.at → e.len ≡ f.len → e ≡ f
entry_unique {lex} good {ts} {e} {f} he hf a l =
    entry_eq e f (keys_distinct good he.is_key hf.is_key spelt) a l
  where
    spelt : spells lex e.key_of ≡ spells lex f.key_of
    spelt =
        stand_unique (rw a at he.stand) hf.stand
        (sym he.len_is ∙ l ∙ hf.len_is)

-- an entry lies within the text and takes up at least one position
pub record InText (ts : List ℕ) (e : Entry) : Type 0 where
  pub from : 1 ≤ e.at
  pub some : 1 ≤ e.len
  pub within : e.at + e.len ≤ suc (length ts)

pub in_text : {lex : Lexicon} → GoodLexicon lex → {ts : List ℕ} {e : Entry} → IsEntry lex ts e → InText ts e
in_text {lex} good {e} h =
    record {
      from = h.stand.from;
      some = omega (arith, spells_some good e.key_of h.is_key);
      within = omega arith;
    }

-- MAXIMAL ENTRIES

pub in_another_get :
    (e : Entry) (fs : List Entry) → in_another e fs ≡ true → (f : Entry) × In f fs × (same_entry e f ≡ false) × Contains f e
unfolding in_another
in_another_get e [] t = clash t refl
in_another_get e (f ∷ fs) t =
    ⊎_elim here (λ (q : in_another e fs ≡ true). let (g, m, d, c) = in_another_get e fs q in (g, inr m, d, c))
    (or_get (not (same_entry e f) && contains f e) (in_another e fs) t)
  where
    here :
        (not (same_entry e f) && contains f e) ≡ true → (g : Entry) × In g (f ∷ fs) × (same_entry e g ≡ false) × Contains g e
    here q = (
      f,
      inl refl,
      not_get (same_entry e f) (and_left (not (same_entry e f)) (contains f e) q),
      contains_get f e (and_right (not (same_entry e f)) (contains f e) q),
    )

pub in_another_put :
    {e f : Entry} (fs : List Entry) → In f fs → same_entry e f ≡ false → Contains f e → in_another e fs ≡ true
unfolding in_another
in_another_put [] m d c = absurd m
in_another_put {e} {f} (g ∷ fs) (inl p) d c =
    let here : (not (same_entry e g) && contains g e) ≡ true = rw (← p) (and_put (not_put d) (contains_put f e c)) in
    or_left (in_another e fs) here
in_another_put {e} {f} (g ∷ fs) (inr m) d c = or_right (not (same_entry e g) && contains g e) (in_another_put fs m d c)

pub maximal_get : (e : Entry) (es fs : List Entry) → In e (maximal es fs) → In e fs × (in_another e es ≡ false)
unfolding maximal
maximal_get e es [] m = absurd m
maximal_get e es (f ∷ fs) m =
    ⊎_elim (λ (h : (in_another f es ≡ false) × (e ≡ f)). (inl h.1, rw h.1 h.0))
    (λ (q : In e (maximal es fs)). let (n, a) = maximal_get e es fs q in (inr n, a))
    (in_skip_get e f (maximal es fs) (in_another f es) m)

pub maximal_put : (e : Entry) (es fs : List Entry) → In e fs → in_another e es ≡ false → In e (maximal es fs)
unfolding maximal
maximal_put e es [] m a = absurd m
maximal_put e es (f ∷ fs) (inl p) a = rw p (in_skip_here f (maximal es fs) (in_another f es) (rw p at a))
maximal_put e es (f ∷ fs) (inr m) a = in_skip_there e f (maximal es fs) (in_another f es) (maximal_put e es fs m a)

module _ (lex : Lexicon) (good : GoodLexicon lex) (ts : List ℕ) (chars : Chars ts) where
  pub entries_get : (e : Entry) → In e (entries lex ts) → IsMaximal lex ts e
  unfolding entries
  entries_get e m = record { is_entry = he; alone = alone }
    where
      got : In e (complete lex ts) × (in_another e (complete lex ts) ≡ false)
      got = maximal_get e (complete lex ts) (complete lex ts) m

      he : IsEntry lex ts e
      he = complete_get lex ts chars e got.0

      alone : (f : Entry) → IsEntry lex ts f → Contains f e → f ≡ e
      alone f hf c =
          ⊎_elim (λ (t : same_entry e f ≡ true). sym (same_entry_get he hf t))
          (λ (d : same_entry e f ≡ false).
          clash (in_another_put (complete lex ts) (complete_put good hf) d c) got.1)
          (true_or_false (same_entry e f))

  pub entries_put : {e : Entry} → IsMaximal lex ts e → In e (entries lex ts)
  unfolding entries
  entries_put {e} h =
      maximal_put e (complete lex ts) (complete lex ts) (complete_put good h.is_entry)
      (false_put (in_another e (complete lex ts)) none)
    where
      none : in_another e (complete lex ts) ≡ true → ⊥
      none t =
          let (f, m, d, c) = in_another_get e (complete lex ts) t in
          clash (same_entry_put e f (sym (h.alone f (complete_get lex ts chars f m) c))) d
