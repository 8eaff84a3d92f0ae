-- A chain, taken member by member from its head.
use Rattle.std.proofs.Common.{◌≡◌, List, ◌∷◌, ℕ, ◌-◌, ◌≤◌, ◌<◌, length, get_or, drop, refl, sym, ap, ◌∙◌, inl, inr, arith, length-drop}
use Rattle.basics.specs.Chain.{chain, Threaded, threaded, chain_is, chain_short, MemberInHand, walk_starts, walk_member}

-- a head that is a member, and the chain after it
pub record Headed (links : List ℕ) (head : ℕ) : Type 0 where
  pub whole : chain links head ≡ head ∷ chain links (get_or links (head - 1) 0)
  pub after : Threaded links (get_or links (head - 1) 0)
  pub linked : head - 1 < length links

pub headed : (links : List ℕ) (head : ℕ) → Threaded links head → (head ≡ 0 → ⊥) → Headed links head
headed links head t some =
    record {
      whole = m.split ∙ ap (λ (ps : List ℕ). head ∷ ps) (sym (chain_is (length links) links next rest m.next.left short));
      after = threaded links next rest m.next.left short (λ p i. t.within p (rw m.split (inr i)));
      linked = omega (arith, some, t.within head (rw m.split (inl refl)));
    }
  where
    rest : List ℕ
    rest = drop 1 (chain links head)

    next : ℕ
    next = get_or links (head - 1) 0

    m : MemberInHand links (chain links head) head 0
    m = walk_member links (chain links head) head 0 (walk_starts links head t) some

    short : length (drop 1 (chain links head)) ≤ length links
    short = omega (arith, length-drop 1 (chain links head), chain_short (length links) links head)
