-- Linked chains: a head, and for each member p the next one at index p - 1, 0 at the end. They serve lists of positions and lists of word
-- numbers plus one alike. Assumes nothing.
use Rattle.std.specs.Prelude.{◌≡◌, refl, true, false, cond, List, [], ◌∷◌, ℕ, zero, suc, ◌+◌, ◌-◌, ◌≤◌, ◌<◌, eqb, length, get_or, set, drop}
use Rattle.std.proofs.Common.{sym, ap, ◌∙◌, inl, inr, add-one, arith}
use Rattle.std.proofs.Common.{length-drop, get_or-set_same, get_or-set_other, drop-cons, eq-eqb, ne_eqb}
use Rattle.basics.specs.Member.{In}

-- the chain from `head` runs through exactly these members
abbrev pub Chained : (links : List ℕ) → (head : ℕ) → (members : List ℕ) → Type 0
Chained links h [] = h ≡ 0
Chained links h (p ∷ ps) = (h ≡ p) × (1 ≤ p) × Chained links (get_or links (p - 1) 0) ps

-- A CHAIN GROWS AT ITS HEAD

-- a store at an index that no member uses leaves the chain as it is
pub chained_elsewhere :
    (links : List ℕ) (i v h : ℕ) (ps : List ℕ) → ((p : ℕ) → In p ps → p - 1 ≡ i → ⊥) → Chained links h ps →
    Chained (set links i v) h ps
chained_elsewhere links i v h [] away c = c
chained_elsewhere links i v h (p ∷ ps) away c = (
  c.0,
  c.1,
  rw (get_or-set_other links i (p - 1) v 0 (away p (inl refl)))
      (chained_elsewhere links i v (get_or links (p - 1) 0) ps (λ q m. away q (inr m)) c.2),
)

-- a new head links to the old one
pub chained_more :
    (links : List ℕ) (i h : ℕ) (ps : List ℕ) → i < length links → ((p : ℕ) → In p ps → p - 1 ≡ i → ⊥) → Chained links h ps →
    Chained (set links i h) (i + 1) ((i + 1) ∷ ps)
chained_more links i h ps b away c =
    let at : i + 1 - 1 ≡ i = omega arith in
    (refl, omega arith, rw (at, get_or-set_same links i h 0 b) (chained_elsewhere links i h h ps away c))

-- the head is 0 exactly if there is no member
pub chained_empty : (links : List ℕ) (h : ℕ) (ps : List ℕ) → Chained links h ps → h ≡ 0 → ps ≡ []
chained_empty links h [] c e = refl
chained_empty links h (p ∷ ps) c e = absurd (omega arith)

pub chained_some : (links : List ℕ) (h : ℕ) (ps : List ℕ) → Chained links h ps → (h ≡ 0 → ⊥) → 1 ≤ length ps
chained_some links h [] c some = absurd (some c)
chained_some links h (p ∷ ps) c some = omega arith

-- THE MEMBERS, COMPUTED

unfoldable pub chain_from : (fuel : ℕ) → (links : List ℕ) → (head : ℕ) → List ℕ
chain_from zero links h = []
chain_from (suc f) links h = cond (eqb h 0) [] (h ∷ chain_from f links (get_or links (h - 1) 0))

abbrev pub chain : (links : List ℕ) → (head : ℕ) → List ℕ
chain links h = chain_from (length links) links h

pub chain_is :
    (fuel : ℕ) (links : List ℕ) (h : ℕ) (ps : List ℕ) → Chained links h ps → length ps ≤ fuel → chain_from fuel links h ≡ ps
unfolding chain_from
chain_is zero links h [] c b = refl
chain_is zero links h (p ∷ ps) c b = absurd (omega arith)
chain_is (suc f) links h [] c b = rw (eq-eqb h 0 c)
chain_is (suc f) links h (p ∷ ps) c b =
    rw (c.0, ne_eqb p 0 (λ (e : p ≡ 0). omega arith))
    (ap (λ (l : List ℕ). p ∷ l) (chain_is f links (get_or links (p - 1) 0) ps c.2 (omega arith)))

pub chain_short : (fuel : ℕ) (links : List ℕ) (h : ℕ) → length (chain_from fuel links h) ≤ fuel
unfolding chain_from
chain_short zero links h = omega arith
chain_short (suc f) links h = go (eqb h 0) (chain_short f links (get_or links (h - 1) 0))
  where
    go :
        (b : _) → length (chain_from f links (get_or links (h - 1) 0)) ≤ f →
        length (cond b [] (h ∷ chain_from f links (get_or links (h - 1) 0))) ≤ suc f
    go true ih = omega arith
    go false ih = omega arith

pub chain_none : (links : List ℕ) → chain links 0 ≡ []
chain_none links = chain_is (length links) links 0 [] refl (omega arith)

-- WALKING A CHAIN

-- the chain from `head` ends, and each of its members has a link
pub record Threaded (links : List ℕ) (head : ℕ) : Type 0 where
  pub chained : Chained links head (chain links head)
  pub within : (p : ℕ) → In p (chain links head) → p ≤ length links

pub threaded : (links : List ℕ) (h : ℕ) (ps : List ℕ) → Chained links h ps → length ps ≤ length links →
    ((p : ℕ) → In p ps → p ≤ length links) → Threaded links h
threaded links h ps c b w =
    let is : chain links h ≡ ps = chain_is (length links) links h ps c b in
    record { chained = rw is c; within = rw is w }

-- after i members of all, `head` is the next one, or 0
pub record Walking (links all : List ℕ) (head i : ℕ) : Type 0 where
  pub passed : i ≤ length all
  pub left : Chained links head (drop i all)

pub walk_starts : (links : List ℕ) (h : ℕ) → Threaded links h → Walking links (chain links h) h 0
walk_starts links h t = record { passed = omega arith; left = t.chained }

-- what holds while a member is at hand
pub record MemberInHand (links all : List ℕ) (head i : ℕ) : Type 0 where
  pub below : i < length all
  pub split : drop i all ≡ head ∷ drop (i + 1) all
  pub is : get_or all i 0 ≡ head
  pub next : Walking links all (get_or links (head - 1) 0) (i + 1)

module _ (links all : List ℕ) (h i : ℕ) (w : Walking links all h i) where
  pub walk_member : (h ≡ 0 → ⊥) → MemberInHand links all h i
  walk_member some = go (drop i all) refl w.left
    where
      go : (ps : List ℕ) → drop i all ≡ ps → Chained links h ps → MemberInHand links all h i
      go [] e c = absurd (some c)
      go (p ∷ ps) e c =
          let below : i < length all = omega (arith, ap length e, length-drop i all) in
          let split : drop i all ≡ get_or all i 0 ∷ drop (i + 1) all = rw (add-one i) (drop-cons all i 0 below) in
          let whole : get_or all i 0 ∷ drop (i + 1) all ≡ p ∷ ps = sym split ∙ e in
          let first : get_or all i 0 ≡ p = ap (λ (l : List ℕ). get_or l 0 0) whole in
          let rest : drop (i + 1) all ≡ ps = ap (λ (l : List ℕ). drop 1 l) whole in
          record {
            below = below;
            split = rw (c.0, ← first) split;
            is = first ∙ sym c.0;
            next = record { passed = omega arith; left = rw (rest, c.0) c.2 };
          }

  pub walk_ends : h ≡ 0 → i ≡ length all
  walk_ends none = go (drop i all) refl w.left
    where
      go : (ps : List ℕ) → drop i all ≡ ps → Chained links h ps → i ≡ length all
      go [] e c = omega (arith, ap length e, length-drop i all)
      go (p ∷ ps) e c = absurd (omega arith)
