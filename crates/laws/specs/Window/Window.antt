-- A window of starts: a list of reaches, one for each start from `first` on; a step applied to all of them, and a walk of such steps.
-- Assumes nothing.
use Rattle.std.specs.Prelude.{◌≡◌, refl, Bool, true, false, List, [], ◌∷◌, ℕ, zero}
use Rattle.std.specs.Prelude.{suc, ◌+◌, ◌≤◌, ◌<◌, leb, eqb, length, get_or, set, replicate}
use Rattle.std.proofs.Common.{sym, ap, ◌∙◌, add-zero, arith, length-set, ext_get_or, get_or-set_same, get_or-set_other, eqb-true}
use Rattle.std.proofs.lemmas.List.{length-replicate, get_or-replicate}
use Rattle.std.proofs.lemmas.Bool.{eqb-false}
use Rattle.basics.specs.Steps.{those_from}
use Rattle.models.specs.Window.{extended, found_in}

-- ONE STEP AT EACH START

pub length_extended : (f : ℕ → ℕ → ℕ) (q : ℕ) (rs : List ℕ) → length (extended f q rs) ≡ length rs
unfolding extended
length_extended f q [] = refl
length_extended f q (r ∷ rs) = ap suc (length_extended f (suc q) rs)

pub getD_extended :
    (f : ℕ → ℕ → ℕ) (q : ℕ) (rs : List ℕ) (j : ℕ) → j < length rs → get_or (extended f q rs) j 0 ≡ f (q + j) (get_or rs j 0)
unfolding extended
getD_extended f q [] j h = absurd (omega arith)
getD_extended f q (r ∷ rs) zero h = rw (add-zero q)
getD_extended f q (r ∷ rs) (suc j) h =
    let z : suc q + j ≡ q + suc j = omega arith in
    rw z at (getD_extended f (suc q) rs j (omega arith))

-- two steps, one after the other
pub extended_then :
    (f g : ℕ → ℕ → ℕ) (q : ℕ) (rs : List ℕ) → extended g q (extended f q rs) ≡ extended (λ p r. g p (f p r)) q rs
unfolding extended
extended_then f g q [] = refl
extended_then f g q (r ∷ rs) = rw (extended_then f g (suc q) rs)

-- two steps that are equal everywhere
pub extended_alike :
    (f g : ℕ → ℕ → ℕ) (q : ℕ) (rs : List ℕ) → ((p r : ℕ) → f p r ≡ g p r) → extended f q rs ≡ extended g q rs
unfolding extended
extended_alike f g q [] same = refl
extended_alike f g q (r ∷ rs) same = rw (same q r, extended_alike f g (suc q) rs same)

module _ (f : ℕ → ℕ → ℕ) (q : ℕ) (rs : List ℕ) where
  -- a step that changes no reach
  pub extended_same : ((j : ℕ) → j < length rs → f (q + j) (get_or rs j 0) ≡ get_or rs j 0) → extended f q rs ≡ rs
  extended_same same =
      ext_get_or 0 (extended f q rs) rs (length_extended f q rs)
      (λ j h. let b : j < length rs = omega (arith, length_extended f q rs) in getD_extended f q rs j b ∙ same j b)

  -- a step that changes one reach
  pub extended_one :
      (i v : ℕ) → i < length rs → f (q + i) (get_or rs i 0) ≡ v →
      ((j : ℕ) → j < length rs → (j ≡ i → ⊥) → f (q + j) (get_or rs j 0) ≡ get_or rs j 0) → extended f q rs ≡ set rs i v
  extended_one i v within here others =
      ext_get_or 0 (extended f q rs) (set rs i v) (length_extended f q rs ∙ sym (length-set rs i v))
      (λ j h. let b : j < length rs = omega (arith, length_extended f q rs) in getD_extended f q rs j b ∙ at j b (eqb j i) refl)
    where
      at : (j : ℕ) → j < length rs → (t : Bool) → eqb j i ≡ t → f (q + j) (get_or rs j 0) ≡ get_or (set rs i v) j 0
      at j b true t =
          let z : j ≡ i = eqb-true j i t in
          rw z (here ∙ sym (get_or-set_same rs i v 0 within))
      at j b false t = others j b (eqb-false j i t) ∙ sym (get_or-set_other rs i j v 0 (eqb-false j i t))

-- THE GREATEST REACH

-- no reach is above `max_reach`
abbrev pub Within : (max_reach : ℕ) → (reaches : List ℕ) → Type 0
Within max_reach rs = (j : ℕ) → j < length rs → get_or rs j 0 ≤ max_reach

pub within_more : (a b : ℕ) (rs : List ℕ) → a ≤ b → Within a rs → Within b rs
within_more a b rs h w j l = omega (arith, w j l)

pub within_set : (max_reach : ℕ) (rs : List ℕ) (i v : ℕ) → v ≤ max_reach → Within max_reach rs → Within max_reach (set rs i v)
within_set max_reach rs i v small w j l = at (eqb j i) refl
  where
    at : (t : Bool) → eqb j i ≡ t → get_or (set rs i v) j 0 ≤ max_reach
    at true t =
        let z : j ≡ i = eqb-true j i t in
        rw (z, get_or-set_same rs i v 0 (omega (arith, length-set rs i v))) small
    at false t = rw (get_or-set_other rs i j v 0 (eqb-false j i t)) (w j (omega (arith, length-set rs i v)))

pub within_none : (n : ℕ) → Within 0 (replicate {A = ℕ} n 0)
within_none n j l = rw (get_or-replicate {A = ℕ} n j 0 0 (omega (arith, length-replicate {A = ℕ} n 0))) (omega arith)

-- A WALK OF STEPS

-- the window is `goal`, and no reach in it is above `max_reach`
pub record Reaches (goal rs : List ℕ) (max_reach : ℕ) : Type 0 where
  pub is : rs ≡ goal
  pub bounded : Within max_reach rs

-- a window that is already the goal, and a goal by another name
pub reaches_same : {goal rs : List ℕ} {max_reach : ℕ} → goal ≡ rs → Within max_reach rs → Reaches goal rs max_reach
reaches_same e w = record { is = sym e; bounded = w }

pub reaches_by : {goal other rs : List ℕ} {max_reach : ℕ} → goal ≡ other → Reaches other rs max_reach → Reaches goal rs max_reach
reaches_by e r = record { is = r.is ∙ sym e; bounded = r.bounded }

-- `rs` is the window now: what is left to do gives the goal, and no reach is above `max_reach`
pub record Progress (rest : List ℕ → List ℕ) (goal old rs : List ℕ) (max_reach : ℕ) : Type 0 where
  pub left : rest rs ≡ goal
  pub len : length rs ≡ length old
  pub bounded : Within max_reach rs

pub progress_start : (rest : List ℕ → List ℕ) (rs : List ℕ) (max_reach : ℕ) → Within max_reach rs → Progress rest (rest rs) rs rs max_reach
progress_start rest rs max_reach w = record { left = refl; len = refl; bounded = w }

-- one step, by what it does to the window
pub progress_step :
    {rest : List ℕ → List ℕ} (next : List ℕ → List ℕ) {goal old rs now : List ℕ} {max_reach highest : ℕ} {stepped : List ℕ} →
    Progress rest goal old rs max_reach →
    rest rs ≡ next stepped → length now ≡ length rs → Reaches stepped now highest → Progress next goal old now highest
progress_step next m split kept r =
    record { left = ap next r.is ∙ sym split ∙ m.left; len = kept ∙ m.len; bounded = r.bounded }

-- a step that changes nothing
pub progress_pass :
    {rest : List ℕ → List ℕ} (next : List ℕ → List ℕ) {goal old rs : List ℕ} {max_reach : ℕ} → Progress rest goal old rs max_reach →
    rest rs ≡ next rs →
    Progress next goal old rs max_reach
progress_pass next m split = record { left = sym split ∙ m.left; len = m.len; bounded = m.bounded }

-- nothing is left
pub progress_end :
    {rest : List ℕ → List ℕ} {goal old rs : List ℕ} {max_reach : ℕ} → Progress rest goal old rs max_reach → rest rs ≡ rs →
    Reaches goal rs max_reach
progress_end m done = record { is = sym done ∙ m.left; bounded = m.bounded }

-- WHAT IS FOUND

-- in a window that starts with every reach 0
pub found_in_extended :
    (m : ℕ) (f : ℕ → ℕ → ℕ) (n q : ℕ) → found_in m q (extended f q (replicate n 0)) ≡ those_from n q (λ p. leb m (f p 0))
unfolding found_in extended those_from
found_in_extended m f zero q = refl
found_in_extended m f (suc n) q = rw (found_in_extended m f n (suc q))

-- in a window whose reaches tell where a test holds
pub found_in_those :
    (m q : ℕ) (rs : List ℕ) (f : ℕ → Bool) → ((j : ℕ) → j < length rs → leb m (get_or rs j 0) ≡ f (q + j)) →
    found_in m q rs ≡ those_from (length rs) q f
unfolding found_in those_from
found_in_those m q [] f told = refl
found_in_those m q (r ∷ rs) f told =
    let first : leb m r ≡ f q = rw (add-zero q) at (told 0 (omega arith)) in
    rw (first, found_in_those m (suc q) rs f later)
  where
    later : (j : ℕ) → j < length rs → leb m (get_or rs j 0) ≡ f (suc q + j)
    later j b =
        let z : suc q + j ≡ q + suc j = omega arith in
        rw z (told (suc j) (omega arith))
