-- Counting and writing the starts whose reach comes to the string's end. Assumes nothing.
use Rattle.std.specs.Prelude.{◌≡◌, refl, Bool, true, false, ℕ, suc, ◌+◌, ◌≤◌, ◌<◌, leb, get_or, set}
use Rattle.std.proofs.Math.Path.{sym, ap}
use Rattle.std.proofs.Common.{◌∙◌, zero-add, add-zero, add-one, length-set, drop_of_length-le}
use Rattle.std.proofs.Common.{take-append-drop, take-suc-set, drop-set-lt, drop-drop, le-leb}
use Rattle.std.proofs.Math.Bool.{cond}
use Rattle.std.proofs.Math.Logic.{⊎_elim}
use mathlib.Core.List.{List, [], ◌∷◌, ◌++◌, append_assoc, append-nil}
use native.Mathlib.Omega.{arith}
use Rattle.std.proofs.Math.ListN.{length, take, drop}
use Rattle.std.proofs.Math.Seq.{drop-cons}
use Rattle.std.proofs.lemmas.Bool.{lt-leb}
use Rattle.basics.specs.Bools.{le_or_lt}
use Rattle.spec.specs.Calls.{in_front}
use Rattle.models.specs.Window.{found_in, count_in}
use Rattle.laws.specs.Window.Window.{Within}

-- COUNTING

pub count_found : (m q : ℕ) (rs : List ℕ) → count_in m rs ≡ length (found_in m q rs)
unfolding count_in found_in
count_found m q [] = refl
count_found m q (r ∷ rs) = by_test (leb m r) (count_found m (suc q) rs)
  where
    by_test :
        (b : Bool) → count_in m rs ≡ length (found_in m (suc q) rs) →
        cond b 1 0 + count_in m rs ≡ length (cond b (q ∷ found_in m (suc q) rs) (found_in m (suc q) rs))
    by_test true e = omega arith
    by_test false e = omega arith

-- after i of the reaches
pub record Counting (m : ℕ) (rs : List ℕ) (count i : ℕ) : Type 0 where
  pub within : i ≤ length rs
  pub counted : count + count_in m (drop i rs) ≡ count_in m rs
  pub few : count ≤ i

module _ (m : ℕ) (rs : List ℕ) where
  pub counting_start : Counting m rs 0 0
  counting_start = record { within = omega arith; counted = zero-add (count_in m rs); few = omega arith }

  module _ {count i : ℕ} (h : Counting m rs count i) where
    pub counting_step : i < length rs → Counting m rs (count + cond (leb m (get_or rs i 0)) 1 0) (i + 1)
    unfolding count_in
    counting_step below =
        record { within = omega arith; counted = counted; few = few (leb m (get_or rs i 0)) }
      where
        count_next : count_in m (drop i rs) ≡ cond (leb m (get_or rs i 0)) 1 0 + count_in m (drop (i + 1) rs)
        count_next = rw (add-one i, drop-cons rs i 0)

        counted : (count + cond (leb m (get_or rs i 0)) 1 0) + count_in m (drop (i + 1) rs) ≡ count_in m rs
        counted = omega (arith, count_next)

        few : (b : Bool) → count + cond b 1 0 ≤ i + 1
        few true = omega arith
        few false = omega arith

    pub counting_end : length rs ≤ i → count ≡ count_in m rs
    unfolding count_in
    counting_end past =
        let none : count_in m (drop i rs) ≡ 0 = rw (drop_of_length-le rs past) in
        omega arith

-- if no reach comes to the string's end, nothing is found
pub none_found : (m most q : ℕ) (rs : List ℕ) → Within most rs → most < m → found_in m q rs ≡ []
unfolding found_in
none_found m most q [] w h = refl
none_found m most q (r ∷ rs) w h =
    rw (lt-leb m r (omega (arith, w 0 (omega arith)))) (none_found m most (suc q) rs (λ j b. w (suc j) (omega arith)) h)

-- THE NEXT START

-- the start at i, found or not, comes before those after it
pub found_next :
    (m q : ℕ) (rs : List ℕ) (i : ℕ) → i < length rs →
    found_in m (q + i) (drop i rs)
    ≡ cond (leb m (get_or rs i 0)) ((q + i) ∷ found_in m (q + (i + 1)) (drop (i + 1) rs))
    (found_in m (q + (i + 1)) (drop (i + 1) rs))
unfolding found_in
found_next m q rs i below =
    let z : q + suc i ≡ suc (q + i) = omega arith in
    rw (add-one i, z, drop-cons rs i 0)

-- r is the first start from `from` on whose reach is at least m
pub record NextFound (m : ℕ) (rs : List ℕ) (from r : ℕ) : Type 0 where
  pub onward : from ≤ r
  pub within : r < length rs
  pub near : m ≤ get_or rs r 0
  pub passed : (q : ℕ) → found_in m (q + from) (drop from rs) ≡ found_in m (q + r) (drop r rs)

-- none is found from `from` up to i, and one is still to come
pub record Passing (m : ℕ) (rs : List ℕ) (from i : ℕ) : Type 0 where
  pub onward : from ≤ i
  pub some : 1 ≤ count_in m (drop i rs)
  pub passed : (q : ℕ) → found_in m (q + from) (drop from rs) ≡ found_in m (q + i) (drop i rs)

module _ (m : ℕ) (rs : List ℕ) (from : ℕ) where
  pub passing_start : 1 ≤ count_in m (drop from rs) → Passing m rs from from
  passing_start some = record { onward = omega arith; some = some; passed = λ q. refl }

  module _ {i : ℕ} (h : Passing m rs from i) where
    pub passing_below : i < length rs
    unfolding count_in
    passing_below = ⊎_elim (λ (past : length rs ≤ i). absurd (none past)) (λ (b : i < length rs). b) (le_or_lt (length rs) i)
      where
        none : length rs ≤ i → ⊥
        none past =
            let z : count_in m (drop i rs) ≡ 0 = rw (drop_of_length-le rs past) in
            omega arith

    pub passing_step : get_or rs i 0 < m → Passing m rs from (i + 1)
    passing_step far =
        record {
          onward = omega arith;
          some =
              omega (arith, count_found m (0 + i) (drop i rs), count_found m (0 + (i + 1)) (drop (i + 1) rs), ap length (same 0));
          passed = λ q. h.passed q ∙ same q;
        }
      where
        same : (q : ℕ) → found_in m (q + i) (drop i rs) ≡ found_in m (q + (i + 1)) (drop (i + 1) rs)
        same q = rw (lt-leb m (get_or rs i 0) far) at (found_next m q rs i passing_below)

    pub passing_end : m ≤ get_or rs i 0 → NextFound m rs from i
    passing_end near = record { onward = h.onward; within = passing_below; near = near; passed = h.passed }

-- WRITING

-- after i of the reaches, with `written` of the starts written to the slice
pub record Finding (m q : ℕ) (rs old out : List ℕ) (written i : ℕ) : Type 0 where
  pub within : i ≤ length rs
  pub ahead : take written out ++ found_in m (q + i) (drop i rs) ≡ found_in m q rs
  pub rest : drop written out ≡ drop written old
  pub len : length out ≡ length old
  pub left : written + length (found_in m (q + i) (drop i rs)) ≡ length (found_in m q rs)

module _ (m q : ℕ) (rs old : List ℕ) where
  pub finding_start : Finding m q rs old old 0 0
  finding_start =
      record {
        within = omega arith;
        ahead = rw (add-zero q);
        rest = refl;
        len = refl;
        left = rw (add-zero q) (zero-add (length (found_in m q rs)));
      }

  module _ {out : List ℕ} {written i : ℕ} (h : Finding m q rs old out written i) where
    -- if a start is still to be written, one is still to come
    pub finding_more : written < length (found_in m q rs) → 1 ≤ count_in m (drop i rs)
    finding_more some = omega (arith, count_found m (q + i) (drop i rs))

    pub finding_next : {r : ℕ} → NextFound m rs i r → Finding m q rs old out written r
    finding_next n =
        record {
          within = omega arith;
          ahead = ap (λ (l : List ℕ). take written out ++ l) (sym (n.passed q)) ∙ h.ahead;
          rest = h.rest;
          len = h.len;
          left = omega (arith, ap length (n.passed q));
        }

    pub finding_end : length (found_in m q rs) ≤ written → out ≡ in_front (found_in m q rs) old
    unfolding in_front
    finding_end past =
        let count : written ≡ length (found_in m q rs) = omega arith in
        let none : length (found_in m (q + i) (drop i rs)) ≤ 0 = omega arith in
        let front : take written out ≡ found_in m q rs =
        sym (append-nil (take written out))
        ∙ ap (λ (l : List ℕ). take written out ++ l) (sym (drop_of_length-le (found_in m (q + i) (drop i rs)) none))
        ∙ h.ahead in
        sym (take-append-drop written out)
        ∙ ap (λ (l : List ℕ). l ++ drop written out) front
        ∙ ap (λ (l : List ℕ). found_in m q rs ++ l) h.rest
        ∙ ap (λ (n : ℕ). found_in m q rs ++ drop n old) count

    module _ (below : i < length rs) (near : m ≤ get_or rs i 0) where
      here : found_in m (q + i) (drop i rs) ≡ (q + i) ∷ found_in m (q + (i + 1)) (drop (i + 1) rs)
      here = rw (le-leb m (get_or rs i 0) near) at (found_next m q rs i below)

      finding_room : length (found_in m q rs) ≤ length old → written < length out
      finding_room room = omega (arith, ap length here)

      pub finding_write :
          length (found_in m q rs) ≤ length old → Finding m q rs old (set out written (q + i)) (written + 1) (i + 1)
      finding_write room =
          record {
            within = omega arith;
            ahead =
                rw (
                  add-one written,
                  take-suc-set out written (q + i) (finding_room room),
                  append_assoc (take written out) ((q + i) ∷ []) (found_in m (q + (i + 1)) (drop (i + 1) rs)),
                )
                (ap (λ (l : List ℕ). take written out ++ l) (sym here) ∙ h.ahead);
            rest =
                drop-set-lt (written + 1) out written (q + i) (omega arith)
                ∙ sym (drop-drop 1 written out)
                ∙ ap (λ (l : List ℕ). drop 1 l) h.rest
                ∙ drop-drop 1 written old;
            len = length-set out written (q + i) ∙ h.len;
            left = omega (arith, ap length here);
          }
