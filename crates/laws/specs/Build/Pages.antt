-- Key codes by pages of 64, with a flag for each page in use. Assumes nothing.
use Rattle.std.specs.Prelude.{◌≡◌, ◌⊎◌, List, ℕ, ◌*◌, ◌/◌, ◌<◌, length, get_or, set}
use Rattle.std.proofs.Common.{sym, ap, ◌∙◌, inl, inr, arith, length-set, get_or-set_same, get_or-set_other}
use Rattle.basics.specs.Order.{less_equal_more}

-- no code has a head
abbrev pub NoHeads : (heads : List ℕ) → Type 0
NoHeads heads = (k : ℕ) → k < length heads → get_or heads k 0 ≡ 0

-- codes by pages of 64: if a page has no flag, none of its codes has a head
pub record Paged (heads pages : List ℕ) : Type 0 where
  pub whole : length heads ≡ 64 * length pages
  pub unused : (k : ℕ) → k < length heads → get_or pages (k / 64) 0 ≡ 0 → get_or heads k 0 ≡ 0

pub paged_start : (heads pages : List ℕ) → NoHeads heads → length heads ≡ 64 * length pages → Paged heads pages
paged_start heads pages none h = record { whole = h; unused = λ k b z. none k b }

pub paged_chained :
    {heads pages : List ℕ} (code v : ℕ) → Paged heads pages → code < length heads →
    Paged (set heads code v) (set pages (code / 64) 1)
paged_chained {heads} {pages} code v g fits =
    record {
      whole = length-set heads code v ∙ g.whole ∙ ap (λ (x : ℕ). 64 * x) (sym (length-set pages (code / 64) 1));
      unused =
          λ k b z. unused k (omega (arith, length-set heads code v)) z
          (less_equal_more (k / 64) (code / 64));
    }
  where
    elsewhere :
        (k : ℕ) → k < length heads → get_or (set pages (code / 64) 1) (k / 64) 0 ≡ 0 → (k / 64 ≡ code / 64 → ⊥) →
        get_or (set heads code v) k 0 ≡ 0
    elsewhere k b z ne =
        let other : k ≡ code → ⊥ = λ (e : k ≡ code). ne (ap (λ (x : ℕ). x / 64) e) in
        get_or-set_other heads code k v 0 other
        ∙ g.unused k b (sym (get_or-set_other pages (code / 64) (k / 64) 1 0 ne) ∙ z)

    unused :
        (k : ℕ) → k < length heads → get_or (set pages (code / 64) 1) (k / 64) 0 ≡ 0 →
        (k / 64 < code / 64) ⊎ ((k / 64 ≡ code / 64) ⊎ (code / 64 < k / 64)) → get_or (set heads code v) k 0 ≡ 0
    unused k b z (inl h) = elsewhere k b z (λ (e : k / 64 ≡ code / 64). omega arith)
    unused k b z (inr (inr h)) = elsewhere k b z (λ (e : k / 64 ≡ code / 64). omega arith)
    unused k b z (inr (inl e)) =
        let flag : get_or (set pages (code / 64) 1) (code / 64) 0 ≡ 1 = get_or-set_same pages (code / 64) 1 0 (omega arith) in
        let none : get_or (set pages (code / 64) 1) (code / 64) 0 ≡ 0 = ap (λ (x : ℕ). get_or (set pages (code / 64) 1) x 0) (sym e) ∙ z in
        absurd (omega arith)
