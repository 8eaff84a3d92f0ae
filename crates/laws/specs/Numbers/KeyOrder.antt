-- The order of keys, and of entries by key and position, is a strict total order. Assumes nothing.
use Rattle.std.specs.Prelude.{◌≡◌, Bool, true, false, ◌&&◌, not, ◌⊎◌, ◌<◌, ltb, eqb}
use Rattle.std.proofs.Common.{sym, ◌∙◌, inl, inr, ⊎_elim, arith, lt-ltb, ltb-true, eq-eqb, eqb-true}
use Rattle.basics.specs.Bools.{clash, not_put, not_get, false_put, and_put, and_left, and_right, or_left, or_right, or_get}
use Rattle.basics.specs.Order.{Strict, less_equal_more}
use Rattle.spec.specs.Words.{Key, Entry}
use Rattle.spec.specs.Numbers.{key_before, entry_before}
use Rattle.laws.specs.Text.Facts.{key_eq}

-- KEYS

-- by kind, then by value
abbrev pub KeyBefore : Key → Key → Type 0
KeyBefore a b = (a.kind < b.kind) ⊎ ((a.kind ≡ b.kind) × (a.value < b.value))

pub key_before_get : (a b : Key) → key_before a b ≡ true → KeyBefore a b
unfolding key_before
key_before_get a b t =
    ⊎_elim (λ (p : ltb a.kind b.kind ≡ true). inl (ltb-true a.kind b.kind p)) (λ (q : both ≡ true). inr (later q))
    (or_get (ltb a.kind b.kind) both t)
  where
    both : Bool
    both = eqb a.kind b.kind && ltb a.value b.value

    later : both ≡ true → (a.kind ≡ b.kind) × (a.value < b.value)
    later q = (
      eqb-true a.kind b.kind (and_left (eqb a.kind b.kind) (ltb a.value b.value) q),
      ltb-true a.value b.value (and_right (eqb a.kind b.kind) (ltb a.value b.value) q),
    )

pub key_before_put : (a b : Key) → KeyBefore a b → key_before a b ≡ true
unfolding key_before
key_before_put a b (inl h) = or_left (eqb a.kind b.kind && ltb a.value b.value) (lt-ltb a.kind b.kind h)
key_before_put a b (inr h) =
    or_right (ltb a.kind b.kind)
    (and_put (eq-eqb a.kind b.kind h.0) (lt-ltb a.value b.value h.1))

pub key_before_strict : Strict key_before
key_before_strict =
    record {
      irreflexive = λ a. false_put (key_before a a) (λ t. not_itself a (key_before_get a a t));
      transitive = λ a b c p q. key_before_put a c (through a b c (key_before_get a b p) (key_before_get b c q));
    }
  where
    not_itself : (a : Key) → KeyBefore a a → ⊥
    not_itself a (inl h) = omega arith
    not_itself a (inr h) = omega arith

    through : (a b c : Key) → KeyBefore a b → KeyBefore b c → KeyBefore a c
    through a b c (inl p) (inl q) = inl (omega arith)
    through a b c (inl p) (inr q) = inl (omega arith)
    through a b c (inr p) (inl q) = inl (omega arith)
    through a b c (inr p) (inr q) = inr (p.0 ∙ q.0, omega arith)

-- one is before the other, or they are equal
pub key_before_total : (a b : Key) → (key_before a b ≡ true) ⊎ ((key_before b a ≡ true) ⊎ (a ≡ b))
key_before_total a b = go (less_equal_more a.kind b.kind) (less_equal_more a.value b.value)
  where
    go :
        (a.kind < b.kind) ⊎ ((a.kind ≡ b.kind) ⊎ (b.kind < a.kind)) →
        (a.value < b.value) ⊎ ((a.value ≡ b.value) ⊎ (b.value < a.value)) →
        (key_before a b ≡ true) ⊎ ((key_before b a ≡ true) ⊎ (a ≡ b))
    go (inl p) v = inl (key_before_put a b (inl p))
    go (inr (inr p)) v = inr (inl (key_before_put b a (inl p)))
    go (inr (inl e)) (inl q) = inl (key_before_put a b (inr (e, q)))
    go (inr (inl e)) (inr (inr q)) = inr (inl (key_before_put b a (inr (sym e, q))))
    go (inr (inl e)) (inr (inl q)) = inr (inr (key_eq a b e q))

pub key_before_not_itself : (a : Key) → key_before a a ≡ false
key_before_not_itself = key_before_strict.irreflexive

-- ENTRIES

-- by key, then by position
abbrev pub EntryBefore : Entry → Entry → Type 0
EntryBefore e f = (key_before e.key_of f.key_of ≡ true) ⊎ ((e.key_of ≡ f.key_of) × (e.at < f.at))

pub entry_before_get : (e f : Entry) → entry_before e f ≡ true → EntryBefore e f
unfolding entry_before
entry_before_get e f t =
    ⊎_elim (λ (p : key_before e.key_of f.key_of ≡ true). inl p)
    (λ (q : both ≡ true). later q (key_before_total e.key_of f.key_of))
    (or_get (key_before e.key_of f.key_of) both t)
  where
    both : Bool
    both = not (key_before f.key_of e.key_of) && ltb e.at f.at

    later :
        both ≡ true →
        (key_before e.key_of f.key_of ≡ true) ⊎ ((key_before f.key_of e.key_of ≡ true) ⊎ (e.key_of ≡ f.key_of)) →
        EntryBefore e f
    later q (inl p) = inl p
    later q (inr (inl p)) =
        clash p (not_get (key_before f.key_of e.key_of)
        (and_left (not (key_before f.key_of e.key_of)) (ltb e.at f.at) q))
    later q (inr (inr p)) =
        inr (p, ltb-true e.at f.at (and_right (not (key_before f.key_of e.key_of)) (ltb e.at f.at) q))

pub entry_before_put : (e f : Entry) → EntryBefore e f → entry_before e f ≡ true
unfolding entry_before
entry_before_put e f (inl h) = or_left (not (key_before f.key_of e.key_of) && ltb e.at f.at) h
entry_before_put e f (inr h) =
    let equal : key_before f.key_of e.key_of ≡ false = rw h.0 (key_before_not_itself f.key_of) in
    or_right (key_before e.key_of f.key_of) (and_put (not_put equal) (lt-ltb e.at f.at h.1))

pub entry_before_strict : Strict entry_before
entry_before_strict =
    record {
      irreflexive = λ e. false_put (entry_before e e) (λ t. not_itself e (entry_before_get e e t));
      transitive = λ e f g p q. entry_before_put e g (through e f g (entry_before_get e f p) (entry_before_get f g q));
    }
  where
    not_itself : (e : Entry) → EntryBefore e e → ⊥
    not_itself e (inl h) = clash h (key_before_not_itself e.key_of)
    not_itself e (inr h) = omega arith

    through : (e f g : Entry) → EntryBefore e f → EntryBefore f g → EntryBefore e g
    through e f g (inl p) (inl q) = inl (key_before_strict.transitive e.key_of f.key_of g.key_of p q)
    through e f g (inl p) (inr q) = inl (rw (← q.0) p)
    through e f g (inr p) (inl q) = inl (rw p.0 q)
    through e f g (inr p) (inr q) = inr (p.0 ∙ q.0, omega arith)

-- one is before the other, or key and position are equal
pub entry_before_total :
    (e f : Entry) → (entry_before e f ≡ true) ⊎ ((entry_before f e ≡ true) ⊎ ((e.key_of ≡ f.key_of) × (e.at ≡ f.at)))
entry_before_total e f = go (key_before_total e.key_of f.key_of) (less_equal_more e.at f.at)
  where
    go :
        (key_before e.key_of f.key_of ≡ true) ⊎ ((key_before f.key_of e.key_of ≡ true) ⊎ (e.key_of ≡ f.key_of)) →
        (e.at < f.at) ⊎ ((e.at ≡ f.at) ⊎ (f.at < e.at)) →
        (entry_before e f ≡ true) ⊎ ((entry_before f e ≡ true) ⊎ ((e.key_of ≡ f.key_of) × (e.at ≡ f.at)))
    go (inl p) v = inl (entry_before_put e f (inl p))
    go (inr (inl p)) v = inr (inl (entry_before_put f e (inl p)))
    go (inr (inr p)) (inl q) = inl (entry_before_put e f (inr (p, q)))
    go (inr (inr p)) (inr (inl q)) = inr (inr (p, q))
    go (inr (inr p)) (inr (inr q)) = inr (inl (entry_before_put f e (inr (sym p, q))))
