-- The entries of directory lines: membership, and their lengths. Assumes nothing.
use Rattle.std.specs.Prelude.{◌≡◌, refl, List, [], ◌∷◌, ℕ, length}
use Rattle.std.proofs.Common.{sym, ap, ◌∙◌, inl, inr, ⊎_elim}
use Rattle.basics.specs.Member.{In, in_append_left, in_append_right, in_append_get}
use Rattle.spec.specs.Dictionary.{Lexicon}
use Rattle.spec.specs.Words.{Key, spells, Entry, entry}
use Rattle.spec.specs.Numbers.{Line}
use Rattle.models.specs.Entries.{entries_at, flat}

-- the entry of a key at a position
abbrev pub posting : Lexicon → Key → ℕ → Entry
posting lex k p = record { key_of = k; at = p; len = length (spells lex k) }

pub entries_at_get :
    (lex : Lexicon) (k : Key) (ps : List ℕ) (e : Entry) → In e (entries_at lex k ps) → (p : ℕ) × In p ps × (e ≡ posting lex k p)
unfolding entries_at entry
entries_at_get lex k [] e m = absurd m
entries_at_get lex k (p ∷ ps) e (inl h) = (p, inl refl, h)
entries_at_get lex k (p ∷ ps) e (inr m) =
    let later = entries_at_get lex k ps e m in (later.0, inr later.1, later.2)

pub entries_at_put :
    (lex : Lexicon) (k : Key) (ps : List ℕ) (p : ℕ) → In p ps → In (posting lex k p) (entries_at lex k ps)
unfolding entries_at entry
entries_at_put lex k [] p m = absurd m
entries_at_put lex k (q ∷ ps) p (inl h) = inl (ap (λ (x : ℕ). posting lex k x) h)
entries_at_put lex k (q ∷ ps) p (inr m) = inr (entries_at_put lex k ps p m)

-- an entry of lines is a position of one of them
pub flat_get :
    (lex : Lexicon) (ls : List Line) (e : Entry) → In e (flat lex ls) →
    (l : Line) × In l ls × In e.at l.positions × (e ≡ posting lex l.key_of e.at)
unfolding flat
flat_get lex [] e m = absurd m
flat_get lex (l ∷ ls) e m =
    ⊎_elim
    (λ (h : In e (entries_at lex l.key_of l.positions)).
    let here = entries_at_get lex l.key_of l.positions e h in
    let position : e.at ≡ here.0 = ap (λ (f : Entry). f.at) here.2 in
    (l, inl refl, rw position here.1, here.2 ∙ ap (λ (x : ℕ). posting lex l.key_of x) (sym position)))
    (λ (h : In e (flat lex ls)). let later = flat_get lex ls e h in (later.0, inr later.1, later.2, later.3))
    (in_append_get e (entries_at lex l.key_of l.positions) (flat lex ls) m)

pub flat_put :
    (lex : Lexicon) (ls : List Line) (l : Line) (p : ℕ) → In l ls → In p l.positions → In (posting lex l.key_of p) (flat lex ls)
unfolding flat
flat_put lex [] l p m n = absurd m
flat_put lex (k ∷ ls) l p (inl h) n =
    rw h
    (in_append_left (posting lex k.key_of p) (entries_at lex k.key_of k.positions) (flat lex ls)
    (entries_at_put lex k.key_of k.positions p (rw h at n)))
flat_put lex (k ∷ ls) l p (inr m) n =
    in_append_right (posting lex l.key_of p) (entries_at lex k.key_of k.positions) (flat lex ls) (flat_put lex ls l p m n)

-- an entry is as long as the string that its key spells
pub flat_len :
    (lex : Lexicon) (ls : List Line) (e : Entry) → In e (flat lex ls) → e.len ≡ length (spells lex e.key_of)
flat_len lex ls e m =
    let h = flat_get lex ls e m in
    ap (λ (f : Entry). f.len) h.3 ∙ ap (λ (f : Entry). length (spells lex f.key_of)) (sym h.3)

-- an entry is the posting of its key at its position
pub flat_measured : (lex : Lexicon) (ls : List Line) (e : Entry) → In e (flat lex ls) → e ≡ posting lex e.key_of e.at
flat_measured lex ls e m =
    let h = flat_get lex ls e m in
    h.3 ∙ ap (λ (k : Key). posting lex k e.at) (sym (ap (λ (f : Entry). f.key_of) h.3))

-- each entry of the lines ks is one of ls
abbrev pub Fewer : Lexicon → (ks ls : List Line) → Type 0
Fewer lex ks ls = (e : Entry) → In e (flat lex ks) → In e (flat lex ls)
