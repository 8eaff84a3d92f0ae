-- The pass over one posting list: each entry at the offset extends the reach of its start. Assumes nothing.
use Rattle.std.specs.Prelude.{◌≡◌, refl, Bool, true, false, List, ℕ, ◌+◌, ◌-◌, ◌^◌, ◌≤◌, ◌<◌, max, length, get_or, drop, set}
use Rattle.std.proofs.Common.{sym, ap, ◌∙◌, arith, length-set}
use Rattle.basics.specs.Bools.{clash}
use Rattle.models.specs.Window.{extend_all, positions_all}
use Rattle.laws.specs.Window.Window.{Within, within_more, within_set, Reaches, Progress, progress_start, progress_step, progress_pass}
use Rattle.laws.specs.Window.Window.{progress_end, reaches_same}
use Rattle.laws.specs.Window.WindowSearch.{OwnStart, OutsideWindow, extend_outside, extend_passed, extend_here, positions_none}
use Rattle.laws.specs.Window.WindowSearch.{positions_next, positions_skip}
use Rattle.laws.specs.Window.ListRange.{WindowRange}

-- a key of this length shares a position with the string at the offset and ends by 288, since a string has at most 256 characters and a
-- key at most 32; and the window's first start is small
pub record OffsetFits (len i o q : ℕ) : Type 0 where
  pub shared : i ≤ o + len
  pub end_small : o + len ≤ 288
  pub first_small : q ≤ 2 ^ 32

-- a key of an index that starts within the string
pub offset_fits : (len o q : ℕ) → len ≤ 32 → o ≤ 256 → q ≤ 2 ^ 32 → OffsetFits len 0 o q
offset_fits len o q short start first = record { shared = omega arith; end_small = omega arith; first_small = first }

-- ONE START

-- the reach at p is extended to `end` if it is from o to `end` − 1; r tells whether
pub record Extends (o end : ℕ) (rs : List ℕ) (p : ℕ) (r : Bool) (now : List ℕ) : Type 0 where
  pub extended : r ≡ true → (o ≤ get_or rs p 0) × (get_or rs p 0 < end) × (now ≡ set rs p end)
  pub passed : r ≡ false → (o ≤ get_or rs p 0 → end ≤ get_or rs p 0) × (now ≡ rs)

module _ {o end : ℕ} {rs : List ℕ} {p : ℕ} where
  pub extends_here : o ≤ get_or rs p 0 → get_or rs p 0 < end → Extends o end rs p true (set rs p end)
  extends_here near gain = record { extended = λ t. (near, gain, refl); passed = λ f. clash refl f }

  pub extends_none : (o ≤ get_or rs p 0 → end ≤ get_or rs p 0) → Extends o end rs p false rs
  extends_none gained = record { extended = λ t. clash t refl; passed = λ f. (gained, refl) }

-- THE PASS

-- after j of the positions bs, with the window at rs and no reach above `highest`
pub record Extending (bs : List ℕ) (l i o q : ℕ) (old : List ℕ) (max_reach : ℕ) (rs : List ℕ) (highest j : ℕ) : Type 0 where
  pub within : j ≤ length bs
  pub way : Progress (positions_all i o l q (drop j bs)) (positions_all i o l q bs old) old rs highest
  pub top_small : highest ≤ max max_reach (max o (o + l - i))

pub extending_start :
    {bs : List ℕ} {l i o q : ℕ} {old : List ℕ} {max_reach : ℕ} → Within max_reach old → Extending bs l i o q old max_reach old max_reach 0
extending_start {bs} {l} {i} {o} {q} {old} {max_reach} w =
    record { within = omega arith; way = progress_start (positions_all i o l q bs) old max_reach w; top_small = omega arith }

module _ {bs : List ℕ} {l i o q : ℕ} {old : List ℕ} {max_reach : ℕ} {rs : List ℕ} {highest j : ℕ}
    (h : Extending bs l i o q old max_reach rs highest j) where
  pub extending_end : length bs ≤ j → Reaches (positions_all i o l q bs old) rs highest
  extending_end past =
      progress_end h.way (positions_none i o l q bs j past rs)

  -- positions outside the window are skipped
  pub extending_skip :
      {k : ℕ} → OutsideWindow i o q bs rs j k → Extending bs l i o q old max_reach rs highest k
  extending_skip {k} out =
      record {
        within = out.within;
        way = progress_pass (positions_all i o l q (drop k bs)) h.way (positions_skip l out);
        top_small = h.top_small;
      }

  module _ (some : j < length bs) where
    step :
        {now : List ℕ} {peak : ℕ} → length now ≡ length rs → Reaches (extend_all i o l q (get_or bs j 0) rs) now peak →
        peak ≤ max max_reach (max o (o + l - i)) → Extending bs l i o q old max_reach now peak (j + 1)
    step {now} {peak} kept r small =
        record {
          within = omega arith;
          way =
              progress_step (positions_all i o l q (drop (j + 1) bs))
              h.way (positions_next i o l q bs j some rs) kept r;
          top_small = small;
        }

    -- the position at j belongs to no start of the window
    pub extending_outside : (q + o ≤ get_or bs j 0 + i → length rs + (q + o) ≤ get_or bs j 0 + i) →
        Extending bs l i o q old max_reach rs highest (j + 1)
    extending_outside outside =
        step refl (reaches_same (extend_outside i o l q (get_or bs j 0) rs outside) h.way.bounded) h.top_small

    -- it belongs to the start p
    module _
        {p : ℕ} (start : OwnStart i o q (get_or bs j 0) rs p) {end : ℕ} (is : end ≡ max o (o + l - i)) {r : Bool} {now : List ℕ}
        (done : Extends o end rs p r now) where
      pub extending_extended : r ≡ true → (peak : ℕ) → peak ≡ max max_reach end → Extending bs l i o q old max_reach now peak (j + 1)
      extending_extended t peak greatest = rw (done.extended t).2 extended
        where
          extended : Extending bs l i o q old max_reach (set rs p end) peak (j + 1)
          extended =
              step (length-set rs p end)
              (record {
                is =
                    ap (set rs p) is
                    ∙ sym (extend_here l start (done.extended t).0 (omega (arith, (done.extended t).1)));
                bounded =
                    within_set peak rs p end (omega arith) (within_more highest peak rs (omega arith) h.way.bounded);
              })
              (omega arith)

      pub extending_passed : r ≡ false → Extending bs l i o q old max_reach now highest (j + 1)
      extending_passed f =
          rw (done.passed f).1
          (step refl
          (reaches_same (extend_passed l start (λ near. omega (arith, (done.passed f).0 near))) h.way.bounded)
          h.top_small)

-- THE PASS OVER A WINDOW'S RANGE

module _ {bs : List ℕ} {l i o q : ℕ} {old : List ℕ} {max_reach a b : ℕ} (r : WindowRange bs i o q (length old) a b) where
  pub range_start : Within max_reach old → Extending bs l i o q old max_reach old max_reach a
  range_start w =
      extending_skip (extending_start w)
      (record { order = omega arith; within = r.from; none = λ x m h from. absurd (omega (arith, r.below x h)) })

  pub range_end :
      {rs : List ℕ} {highest j : ℕ} → Extending bs l i o q old max_reach rs highest j → b ≤ j →
      Reaches (positions_all i o l q bs old) rs highest
  range_end {rs} {highest} {j} h past =
      extending_end
      (extending_skip h
      (record { order = h.within; within = omega arith; none = λ x m below from. omega (arith, r.above x (omega arith) below) }))
      (omega arith)
