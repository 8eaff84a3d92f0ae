-- Strings that stand in one text: what two of them share, and one within another. Assumes nothing.
use Rattle.std.specs.Prelude.{◌≡◌, List, [], ◌∷◌, ℕ, zero, suc, ◌+◌, ◌-◌, ◌≤◌, ◌<◌, length, get_or}
use Rattle.std.proofs.Common.{sym, ap, ◌∙◌, arith, ext_get_or}
use Rattle.laws.specs.Text.Strings.{Stand}

-- the character of a string that stands in a text, by its index in the string
pub stand_at : {s ts : List ℕ} {p : ℕ} (i : ℕ) → Stand s ts p → i < length s → get_or s i 0 ≡ get_or ts (p + i - 1) 0
stand_at {s} {p} i h b =
    let back : p + i - p ≡ i = omega arith in
    ap (λ (j : ℕ). get_or s j 0) (sym back) ∙ h.equal (p + i) (omega arith) (omega arith)

-- a string stands if its characters, by their index, are the text's
pub stand_put :
    (s ts : List ℕ) (p : ℕ) → 1 ≤ p → p + length s ≤ suc (length ts) →
    ((i : ℕ) → i < length s → get_or s i 0 ≡ get_or ts (p + i - 1) 0) → Stand s ts p
stand_put s ts p lo hi h =
    record {
      from = lo;
      within = hi;
      equal =
          λ x a b.
          let at : p + (x - p) ≡ x = omega arith in
          h (x - p) (omega arith) ∙ ap (λ (j : ℕ). get_or ts (j - 1) 0) at;
    }

-- a single character stands at its position
pub stand_char : (ts : List ℕ) (i : ℕ) → i < length ts → Stand (get_or ts i 0 ∷ []) ts (suc i)
stand_char ts i b = stand_put (get_or ts i 0 ∷ []) ts (suc i) (omega arith) (omega arith) same
  where
    same : (j : ℕ) → j < length (get_or ts i 0 ∷ []) → get_or (get_or ts i 0 ∷ []) j 0 ≡ get_or ts (suc i + j - 1) 0
    same zero c =
        let at : i ≡ suc i + 0 - 1 = omega arith in
        ap (λ (k : ℕ). get_or ts k 0) at
    same (suc j) c = absurd (omega arith)

-- strings of equal length at the same position are equal
pub stand_unique : {r s ts : List ℕ} {p : ℕ} → Stand r ts p → Stand s ts p → length r ≡ length s → r ≡ s
stand_unique {r} {s} {ts} {p} h k e =
    ext_get_or 0 r s e (λ i b. stand_at i h b ∙ sym (stand_at i k (omega arith)))

-- a string that lies within another's occurrence stands in that string
pub stand_within :
    {r s ts : List ℕ} {q p : ℕ} → Stand r ts q → Stand s ts p → p ≤ q → q + length r ≤ p + length s → Stand r s (suc (q - p))
stand_within {r} {s} {ts} {q} {p} h k lo hi = stand_put r s (suc (q - p)) (omega arith) (omega arith) same
  where
    same : (i : ℕ) → i < length r → get_or r i 0 ≡ get_or s (suc (q - p) + i - 1) 0
    same i b =
        let at : q + i - 1 ≡ p + (suc (q - p) + i - 1) - 1 = omega arith in
        stand_at i h b
        ∙ ap (λ (j : ℕ). get_or ts j 0) at
        ∙ sym (stand_at (suc (q - p) + i - 1) k (omega arith))
