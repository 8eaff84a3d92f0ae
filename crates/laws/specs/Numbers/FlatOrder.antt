-- The entries of directory lines ascend strictly. Assumes nothing.
use Rattle.std.specs.Prelude.{◌≡◌, refl, true, List, [], ◌∷◌, ℕ, suc, ◌≤◌, ltb}
use Rattle.std.proofs.Common.{inl, inr, arith, lt-ltb}
use Rattle.basics.specs.Member.{In}
use Rattle.basics.specs.Order.{Ascend, ascend_append}
use Rattle.spec.specs.Dictionary.{Lexicon}
use Rattle.spec.specs.Words.{Key, Entry, entry}
use Rattle.spec.specs.Numbers.{entry_before, Line}
use Rattle.models.specs.Entries.{entries_at, flat}
use Rattle.laws.specs.Text.Facts.{Rise, KeysRise}
use Rattle.laws.specs.Numbers.KeyOrder.{entry_before_put}
use Rattle.laws.specs.Numbers.Flat.{posting, entries_at_get, flat_get}

pub rise_least : (a : ℕ) (ps : List ℕ) (p : ℕ) → Rise a ps → In p ps → a ≤ p
rise_least a [] p r m = absurd m
rise_least a (q ∷ ps) p r (inl e) = omega arith
rise_least a (q ∷ ps) p r (inr m) = omega (arith, rise_least (suc q) ps p r.1 m)

pub rise_more : (a b : ℕ) (ps : List ℕ) → Rise a ps → ((p : ℕ) → In p ps → b ≤ p) → Rise b ps
rise_more a b [] r h = tt
rise_more a b (p ∷ ps) r h = (h p (inl refl), r.1)

-- each position is before all that follow it
pub rise_ascends : (a : ℕ) (ps : List ℕ) → Rise a ps → Ascend ltb ps
rise_ascends a [] r = tt
rise_ascends a (p ∷ ps) r = (λ q m. lt-ltb p q (rise_least (suc p) ps q r.1 m), rise_ascends (suc p) ps r.1)

entries_at_ascend : (lex : Lexicon) (k : Key) (a : ℕ) (ps : List ℕ) → Rise a ps → Ascend entry_before (entries_at lex k ps)
unfolding entries_at entry
entries_at_ascend lex k a [] r = tt
entries_at_ascend lex k a (p ∷ ps) r = (after, entries_at_ascend lex k (suc p) ps r.1)
  where
    after : (f : Entry) → In f (entries_at lex k ps) → entry_before (posting lex k p) f ≡ true
    after f m =
        let i = entries_at_get lex k ps f m in
        rw i.2 (entry_before_put (posting lex k p) (posting lex k i.0)
        (inr (refl, rise_least (suc p) ps i.0 r.1 i.1)))

pub flat_ascends :
    (lex : Lexicon) (ls : List Line) → ((l : Line) → In l ls → Rise 1 l.positions) → KeysRise ls →
    Ascend entry_before (flat lex ls)
unfolding flat entry
flat_ascends lex [] rise order = tt
flat_ascends lex (l ∷ ls) rise order =
    ascend_append entry_before (entries_at lex l.key_of l.positions) (flat lex ls)
    (entries_at_ascend lex l.key_of 1 l.positions (rise l (inl refl)))
    (flat_ascends lex ls (λ m k. rise m (inr k)) order.1) cross
  where
    cross : (e f : Entry) → In e (entries_at lex l.key_of l.positions) → In f (flat lex ls) → entry_before e f ≡ true
    cross e f p q =
        let i = entries_at_get lex l.key_of l.positions e p in
        let j = flat_get lex ls f q in
        rw (i.2, j.3)
        (entry_before_put (posting lex l.key_of i.0) (posting lex j.0.key_of f.at) (inl (order.0 j.0 j.1)))
