-- Z-search, the starts at which a string stands in a text, in one pass: what a Z-box of the text and the Z-array tell about a start, what
-- is compared beyond the Z-box, and what the table of all starts holds. Assumes nothing.
use Rattle.std.specs.Prelude.{◌≡◌, refl, true, ◌⊎◌, List, ℕ, suc, ◌+◌, ◌-◌, ◌≤◌, ◌<◌, leb, length, get_or, set}
use Rattle.std.proofs.Common.{sym, ap, ◌∙◌, subst, inl, inr, ⊎_elim, arith, length-set, get_or-set_other, below_more, le-leb, leb-true}
use Rattle.basics.specs.Bools.{iff_eq, le_or_lt}
use Rattle.basics.specs.Steps.{those_from}
use Rattle.basics.specs.Stores.{set_more}
use Rattle.spec.specs.Words.{stands}
use Rattle.models.specs.Window.{found_in}
use Rattle.laws.specs.Text.Strings.{Stand, stands_get, stands_put}
use Rattle.laws.specs.Text.Overlaps.{stand_at, stand_put}
use Rattle.laws.specs.Window.Window.{found_in_those}

-- A PREFIX OF THE STRING

-- the first n characters of s lie in ts from `at` on, counted from 0
pub record PrefixAt (s ts : List ℕ) (at n : ℕ) : Type 0 where
  pub short : n ≤ length s
  pub within : at + n ≤ length ts
  pub equal : (x : ℕ) → x < n → get_or ts (at + x) 0 ≡ get_or s x 0

-- and n is the longest such prefix, of at most `limit` characters
pub record LongestPrefixAt (s ts : List ℕ) (at limit n : ℕ) : Type 0 where
  pub lies : PrefixAt s ts at n
  pub bound : n ≤ limit
  pub longest : n < limit → get_or ts (at + n) 0 ≡ get_or s n 0 → ⊥

-- WHAT THE TABLES HOLD

-- v is the length of the longest prefix of s that also starts at j > 0 in s
abbrev pub ZValue : (s : List ℕ) → (j v : ℕ) → Type 0
ZValue s j v = 1 ≤ j → LongestPrefixAt s s j (length s - j) v

-- the Z-array: the Z-value at each index of s above 0
abbrev pub ZArray : (s zarray : List ℕ) → Type 0
ZArray s zs = (j : ℕ) → j < length s → ZValue s j (get_or zs j 0)

-- v is the length of the longest prefix of s that lies in ts at the start j, counted from 0
abbrev pub PrefixLength : (s ts : List ℕ) → (j v : ℕ) → Type 0
PrefixLength s ts j v = LongestPrefixAt s ts j (length s) v

-- at each start
abbrev pub PrefixLengths : (s ts reach : List ℕ) → Type 0
PrefixLengths s ts rs = (j : ℕ) → j < length rs → PrefixLength s ts j (get_or rs j 0)

-- a table is unchanged except from index `from` to index `to`
abbrev pub KeptBut : (from to : ℕ) → (old now : List ℕ) → Type 0
KeptBut from to old xs = (j : ℕ) → (j < from) ⊎ (to ≤ j) → get_or xs j 0 ≡ get_or old j 0

-- COMPARING

module _ (s ts : List ℕ) (at : ℕ) where
  pub prefix_none : at ≤ length ts → PrefixAt s ts at 0
  prefix_none b = record { short = omega arith; within = omega arith; equal = λ x h. absurd (omega arith) }

  -- one more character
  pub prefix_more :
      {n : ℕ} → PrefixAt s ts at n → n < length s → at + n < length ts → get_or ts (at + n) 0 ≡ get_or s n 0 → PrefixAt s ts at (n + 1)
  prefix_more {n} h short within same =
      record {
        short = omega arith;
        within = omega arith;
        equal = below_more (λ (x : ℕ). get_or ts (at + x) 0 ≡ get_or s x 0) n h.equal same;
      }

-- a string stands where its longest prefix is all of it
pub longest_stands :
    {s ts : List ℕ} {j n : ℕ} → LongestPrefixAt s ts j (length s) n → j + length s ≤ length ts → leb (length s) n ≡ stands s ts (suc j)
longest_stands {s} {ts} {j} {n} h within = iff_eq (leb (length s) n) (stands s ts (suc j)) whole back
  where
    whole : leb (length s) n ≡ true → stands s ts (suc j) ≡ true
    whole t =
        let all : length s ≤ n = leb-true (length s) n t in
        stands_put s ts (suc j)
        (stand_put s ts (suc j) (omega arith) (omega arith)
        (λ i b. let z : j + i ≡ suc j + i - 1 = omega arith in
        sym (h.lies.equal i (omega arith)) ∙ ap (λ (k : ℕ). get_or ts k 0) z))

    same : Stand s ts (suc j) → n < length s → ⊥
    same st b =
        let z : suc j + n - 1 ≡ j + n = omega arith in
        h.longest b (sym (stand_at n st b ∙ ap (λ (k : ℕ). get_or ts k 0) z))

    back : stands s ts (suc j) ≡ true → leb (length s) n ≡ true
    back t =
        ⊎_elim (λ (b : length s ≤ n). le-leb (length s) n b)
        (λ (b : n < length s). absurd (same (stands_get s ts (suc j) t) b)) (le_or_lt (length s) n)

-- the starts found in a table of prefix lengths are those at which s stands
pub found_prefixes :
    (s ts rs : List ℕ) → length rs + length s ≤ suc (length ts) → PrefixLengths s ts rs →
    found_in (length s) 1 rs ≡ those_from (length rs) 1 (λ p. stands s ts p)
found_prefixes s ts rs room told =
    found_in_those (length s) 1 rs (λ p. stands s ts p)
    (λ j b.
    let z : suc j ≡ 1 + j = omega arith in
    longest_stands (told j b) (omega (arith, b, room)) ∙ ap (λ (p : ℕ). stands s ts p) z)

-- THE Z-BOX

-- the text from `left` to `right` is a prefix of s; if it goes beyond `at`, it starts from `first` on and before `at`
pub record ZBox (first : ℕ) (s ts : List ℕ) (at left right : ℕ) : Type 0 where
  pub ordered : left ≤ right
  pub begun : at < right → (first ≤ left) × (left < at)
  pub lies : PrefixAt s ts left (right - left)

-- n is the part of the prefix at `at` that the Z-box and the Z-array give without comparing
pub record Known (zs : List ℕ) (at left right n : ℕ) : Type 0 where
  pub none : right ≤ at → n ≡ 0
  pub repeated : at < right → n ≤ get_or zs (at - left) 0
  pub reached : at < right → at + n ≤ right

module _ {first : ℕ} {s ts : List ℕ} where
  pub zbox_start : ZBox first s ts first 0 0
  zbox_start =
      record {
        ordered = omega arith;
        begun = λ b. absurd (omega arith);
        lies = record { short = omega arith; within = omega arith; equal = λ x h. absurd (omega arith) };
      }

  module _ {at : ℕ} where
    -- a new Z-box
    pub zbox_new : {n : ℕ} → first ≤ at → PrefixAt s ts at n → ZBox first s ts (at + 1) at (at + n)
    zbox_new {n} from h =
        let z : n ≡ at + n - at = omega arith in
        record {
          ordered = omega arith;
          begun = λ b. (from, omega arith);
          lies = subst (PrefixAt s ts at) z h;
        }

    module _ {left right : ℕ} (h : ZBox first s ts at left right) where
      pub zbox_on : ZBox first s ts (at + 1) left right
      zbox_on =
          record {
            ordered = h.ordered;
            begun = λ b. let g = h.begun (omega arith) in (g.0, omega arith);
            lies = h.lies;
          }

      -- the Z-box is no longer than the string
      pub zbox_short : at < right → at - left < length s
      zbox_short b = omega (arith, (h.begun b).1)

      -- this part lies there: the Z-box has the string's own characters, and these start with its prefix again
      pub known_lies :
          (k : ℕ) {zs : List ℕ} {n : ℕ} → ((j : ℕ) → j < k → ZValue s j (get_or zs j 0)) → (at < right → at - left < k) →
          at ≤ length ts → Known zs at left right n → PrefixAt s ts at n
      known_lies k {zs} {n} told inside within known =
          ⊎_elim
          (λ (b : right ≤ at). subst (PrefixAt s ts at) (sym (known.none b)) (prefix_none s ts at within))
          (λ (b : at < right). repeated b (told (at - left) (inside b) (omega (arith, (h.begun b).1))).lies) (le_or_lt right at)
        where
          repeated : at < right → PrefixAt s s (at - left) (get_or zs (at - left) 0) → PrefixAt s ts at n
          repeated b f =
              record {
                short = omega (arith, known.repeated b);
                within = omega (arith, known.reached b);
                equal =
                    λ x c.
                    let z : left + (at - left + x) ≡ at + x = omega (arith, (h.begun b).1) in
                    sym (ap (λ (j : ℕ). get_or ts j 0) z)
                    ∙ h.lies.equal (at - left + x) (omega (arith, (h.begun b).1, known.reached b))
                    ∙ f.equal x (omega (arith, known.repeated b));
              }

-- FILLING A TABLE

-- P holds for each element of the table below `at`, the others are unchanged, and a Z-box is kept
pub record Filling (first : ℕ) (s ts : List ℕ) (P : ℕ → ℕ → Type 0) (old xs : List ℕ) (at left right : ℕ) : Type 0 where
  pub from : first ≤ at
  pub zbox : ZBox first s ts at left right
  pub told : (j : ℕ) → j < at → P j (get_or xs j 0)
  pub rest : KeptBut first at old xs
  pub len : length xs ≡ length old

module _ {first : ℕ} {s ts : List ℕ} {P : ℕ → ℕ → Type 0} {old : List ℕ} where
  pub filling_start : ((j : ℕ) → j < first → P j (get_or old j 0)) → Filling first s ts P old old first 0 0
  filling_start h = record { from = omega arith; zbox = zbox_start; told = h; rest = λ j b. refl; len = refl }

  module _
      {xs : List ℕ}
      {at left right : ℕ} (n : ℕ)
      (h : Filling first s ts P old xs at left right)
      (room : at < length old)
      (here : P at n)
    where
      elsewhere : (j : ℕ) → (j < first) ⊎ (at + 1 ≤ j) → j ≡ at → ⊥
      elsewhere j (inl b) e = omega arith
      elsewhere j (inr b) e = omega arith

      still : (j : ℕ) → (j < first) ⊎ (at + 1 ≤ j) → (j < first) ⊎ (at ≤ j)
      still j (inl b) = inl b
      still j (inr b) = inr (omega arith)

      kept : {a b : ℕ} → ZBox first s ts (at + 1) a b → Filling first s ts P old (set xs at n) (at + 1) a b
      kept st =
          record {
            from = omega arith;
            zbox = st;
            told = set_more 0 P xs at n (omega arith) h.told here;
            rest = λ j out. get_or-set_other xs at j n 0 (elsewhere j out) ∙ h.rest j (still j out);
            len = length-set xs at n ∙ h.len;
          }

      -- the Z-box stays, or the prefix found here is the new one
      pub filling_on : Filling first s ts P old (set xs at n) (at + 1) left right
      filling_on = kept (zbox_on h.zbox)

      pub filling_new : PrefixAt s ts at n → Filling first s ts P old (set xs at n) (at + 1) at (at + n)
      filling_new f = kept (zbox_new h.from f)

-- a table over the string's own indexes is unchanged outside them
pub filled_rest :
    {s ts : List ℕ} {P : ℕ → ℕ → Type 0} {old xs : List ℕ} {at left right : ℕ} → Filling 1 s ts P old xs at left right →
    (1 < at → at ≤ length s) → KeptBut 1 (length s) old xs
filled_rest h short j (inl b) = h.rest j (inl b)
filled_rest {at} h short j (inr b) =
    ⊎_elim (λ (one : at ≤ 1). ⊎_elim (λ (c : 1 ≤ j). h.rest j (inr (omega arith))) (λ (c : j < 1). h.rest j (inl c)) (le_or_lt 1 j))
    (λ (more : 1 < at). h.rest j (inr (omega (arith, short more)))) (le_or_lt at 1)
