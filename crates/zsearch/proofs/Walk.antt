-- One step of a walk that fills a table: the length at one index is stored, and the Z-box stays or is the match found there.
use Rattle.std.proofs.Common.{◌≡◌, ◌⊎◌, List, ℕ, ◌+◌, ◌<◌, length, set, ⊎_elim}
use Rattle.laws.specs.TextScan.ZSearch.{PrefixAt, Filling, filling_on, filling_new}
use Rattle.zsearch.specs.declared.zbox.ZBox.{ZBox}

pub filling_step :
    {first : ℕ} {s ts : List ℕ} {P : ℕ → ℕ → Type 0} {old xs : List ℕ} {at : ℕ} {zbox next : ZBox} (n : ℕ) →
    Filling first s ts P old xs at zbox.left zbox.right → at < length old → P at n → PrefixAt s ts at n →
    (next ≡ zbox) ⊎ ((next.left ≡ at) × (next.right ≡ at + n)) → Filling first s ts P old (set xs at n) (at + 1) next.left next.right
filling_step {first} {s} {ts} {P} {old} {xs} {at} {zbox} {next} n h room here lies =
    ⊎_elim (λ (same : next ≡ zbox). rw same (filling_on n h room here))
    (λ (new : (next.left ≡ at) × (next.right ≡ at + n)). rw (new.0, new.1) (filling_new n h room here lies))
