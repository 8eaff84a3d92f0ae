-- The walk over the directory as a loop runs it: its start, a step, an early stop, its end; and the loop over the positions of one line.
-- Assumes nothing.
use Rattle.std.specs.Prelude.{◌≡◌, Bool, true, false, ◌&&◌, ltb, leb, eqb, length, take}
use Rattle.std.proofs.Math.Path.{refl, sym, ap}
use Rattle.std.proofs.Common.{◌∙◌, drop_of_length-le}
use Rattle.std.proofs.Math.Bool.{and-true, and-false, and_assoc}
use mathlib.Core.List.{List, [], ◌∷◌}
use Prim.Native.Nat.{ℕ, suc, ◌+◌, ◌*◌, ◌-◌, ◌≤◌, ◌<◌}
use Rattle.std.proofs.Math.Numerals.{add-one}
use native.Mathlib.Omega.{arith}
use Rattle.std.proofs.Math.ListN.{get_or, drop, length-drop}
use Rattle.std.proofs.Math.Seq.{drop-cons, drop-drop}
use borrow.Author.Tests.{le-leb, lt-leb, eq-eqb, eqb-true}
use Rattle.basics.specs.Bools.{iff_eq}
use Rattle.spec.specs.Dictionary.{Lexicon}
use Rattle.spec.specs.Words.{key}
use Rattle.spec.specs.Index.{header, n_of, keys_of, kind_at, value_at, count_at, key_at, rise_from, last_of}
use Rattle.models.specs.Readability.{key_number, as_is, list_good, line_list_good, key_fits, line_fits, rest_good, walk_good}
use Rattle.laws.specs.Readable.LineWalk.{fits_get}

-- THE LINES

-- before line i: its positions start at `at`, its key's number has to be `least` or more, and the test of the rest decides the whole
pub record LinesRead (read : List ℕ → List ℕ) (lex : Lexicon) (xs : List ℕ) (i at least : ℕ) : Type 0 where
  pub within : i ≤ keys_of xs
  pub room : at ≤ length xs
  pub tested : rest_good read lex (n_of xs) (keys_of xs - i) i least xs (drop at xs) ≡ walk_good read lex xs

pub lines_start :
    (read : List ℕ → List ℕ) (lex : Lexicon) (xs : List ℕ) {at : ℕ} → at ≡ header + 3 * keys_of xs →
    header + 3 * keys_of xs ≤ length xs → LinesRead read lex xs 0 at 0
unfolding walk_good
lines_start read lex xs e dir =
    let z : keys_of xs - 0 ≡ keys_of xs = omega arith in
    record { within = omega arith; room = omega arith; tested = rw (z, e) }

module _ {read : List ℕ → List ℕ} {lex : Lexicon} {xs : List ℕ} {i at least : ℕ} (h : LinesRead read lex xs i at least) where
  pub lines_end : keys_of xs ≤ i → eqb at (length xs) ≡ walk_good read lex xs
  unfolding rest_good
  lines_end past =
      let z : keys_of xs - i ≡ 0 = omega arith in
      iff_eq (eqb at (length xs)) (eqb (length (drop at xs)) 0)
      (λ t. eq-eqb (length (drop at xs)) 0 (omega (arith, eqb-true at (length xs) t, length-drop at xs)))
      (λ t. eq-eqb at (length xs) (omega (arith, eqb-true (length (drop at xs)) 0 t, length-drop at xs)))
      ∙ rw z at h.tested

  module _ (below : i < keys_of xs) where
    split :
        (line_fits read lex (n_of xs) least (key_at xs i) (count_at xs i) (drop at xs)
        && rest_good read lex (n_of xs) (keys_of xs - (i + 1)) (i + 1) (suc (key_number (key_at xs i))) xs (drop (at + count_at xs i) xs))
        ≡ walk_good read lex xs
    unfolding rest_good
    split =
        let z : keys_of xs - i ≡ suc (keys_of xs - (i + 1)) = omega arith in
        rw (add-one i, ← drop-drop (count_at xs i) at xs) (rw (z, add-one i) at h.tested)

    pub lines_stop :
        line_fits read lex (n_of xs) least (key_at xs i) (count_at xs i) (drop at xs) ≡ false → false ≡ walk_good read lex xs
    lines_stop f = rw f at split

    pub lines_step :
        line_fits read lex (n_of xs) least (key_at xs i) (count_at xs i) (drop at xs) ≡ true →
        LinesRead read lex xs (i + 1) (at + count_at xs i) (key_number (key_at xs i) + 1)
    lines_step t =
        record {
          within = omega arith;
          room =
              omega (arith, (fits_get read lex (n_of xs) least (key_at xs i) (count_at xs i) (drop at xs) t).present, length-drop at xs);
          tested = rw (add-one (key_number (key_at xs i))) (rw t at split);
        }

    -- if the line has no word key, the least number may be that of a lone key
    pub lines_extend : 1 ≤ kind_at xs i → least ≤ 65536 → LinesRead read lex xs i at 65536
    unfolding rest_good line_fits key_fits key
    lines_extend lone small =
        let z : keys_of xs - i ≡ suc (keys_of xs - (i + 1)) = omega arith in
        record {
          within = h.within;
          room = h.room;
          tested =
              let rest =
              rest_good read lex (n_of xs) (keys_of xs - (i + 1)) (suc i) (suc (key_number (key_at xs i))) xs
              (drop (count_at xs i) (drop at xs)) in
              rw z (ap (λ (b : Bool). b && rest) (sym alike) ∙ rw z at h.tested);
        }
      where
        code : key_number (key_at xs i) ≡ kind_at xs i * 65536 + value_at xs i
        code = refl

        alike :
            line_fits read lex (n_of xs) least (key_at xs i) (count_at xs i) (drop at xs)
            ≡ line_fits read lex (n_of xs) 65536 (key_at xs i) (count_at xs i) (drop at xs)
        alike =
            rw (
              le-leb least (key_number (key_at xs i)) (omega (arith, code)),
              le-leb 65536 (key_number (key_at xs i)) (omega (arith, code)),
            )

-- THE POSITIONS OF ONE LINE

-- `good` tells whether the positions before index i ascend; `last` is the last of them
pub record Rises (ps : List ℕ) (good : Bool) (last i : ℕ) : Type 0 where
  pub within : i ≤ length ps
  pub tested : (good && rise_from (suc last) (drop i ps)) ≡ rise_from 1 ps

pub rises_start : (ps : List ℕ) → Rises ps true 0 0
rises_start ps = record { within = omega arith; tested = refl }

module _ {ps : List ℕ} {good : Bool} {last i : ℕ} (h : Rises ps good last i) where
  pub rises_step : i < length ps → Rises ps (good && ltb last (get_or ps i 0)) (get_or ps i 0) (i + 1)
  unfolding rise_from
  rises_step below =
      let next : drop i ps ≡ get_or ps i 0 ∷ drop (i + 1) ps = rw (add-one, drop-cons ps i 0) in
      record {
        within = omega arith;
        tested =
            and_assoc good (ltb last (get_or ps i 0)) (rise_from (suc (get_or ps i 0)) (drop (i + 1) ps))
            ∙ ap (λ (l : List ℕ). good && rise_from (suc last) l) (sym next)
            ∙ h.tested;
      }

  pub rises_end : length ps ≤ i → good ≡ rise_from 1 ps
  unfolding rise_from
  rises_end past = sym (and-true good) ∙ rw (drop_of_length-le ps past) at h.tested

last_is : (p : ℕ) (ps : List ℕ) → last_of (p ∷ ps) ≡ get_or (p ∷ ps) (length ps) 0
unfolding last_of
last_is p [] = refl
last_is p (q ∷ ps) = last_is q ps

-- ascending numbers, and the key that ends at the last of them
module _ (ps : List ℕ) (n l : ℕ) (some : 1 ≤ length ps) where
  last_read : last_of ps ≡ get_or ps (length ps - 1) 0
  last_read = by_list ps some
    where
      by_list : (ps : List ℕ) → 1 ≤ length ps → last_of ps ≡ get_or ps (length ps - 1) 0
      by_list [] some = absurd (omega arith)
      by_list (p ∷ ps) some =
          let position : length (p ∷ ps) - 1 ≡ length ps = omega arith in
          last_is p ps ∙ ap (λ (j : ℕ). get_or (p ∷ ps) j 0) (sym position)

  pub list_late : n + 1 < get_or ps (length ps - 1) 0 + l → false ≡ list_good as_is n l ps
  unfolding list_good
  list_late h = rw (lt-leb (last_of ps + l) (suc n) (omega (arith, last_read)))

  pub list_rises : get_or ps (length ps - 1) 0 + l ≤ n + 1 → rise_from 1 ps ≡ list_good as_is n l ps
  unfolding list_good
  list_rises h = rw (le-leb (last_of ps + l) (suc n) (omega (arith, last_read)))

-- the numbers between `from` and `to`
module _ (read : List ℕ → List ℕ) (xs : List ℕ) (n l : ℕ) {from to : ℕ} where
  pub positions_missing : from ≤ length xs → length xs < to → false ≡ line_list_good read n l (to - from) (drop from xs)
  unfolding line_list_good
  positions_missing room h = rw (lt-leb (to - from) (length (drop from xs)) (omega (arith, length-drop from xs)))

  pub positions_none : to ≡ from → false ≡ line_list_good read n l (to - from) (drop from xs)
  unfolding line_list_good
  positions_none h = rw (lt-leb 1 (to - from) (omega arith), and-false (leb (to - from) (length (drop from xs))))

  pub positions_there :
      from < to → to ≤ length xs →
      list_good read n l (take (to - from) (drop from xs)) ≡ line_list_good read n l (to - from) (drop from xs)
  unfolding line_list_good
  positions_there some present =
      rw (le-leb (to - from) (length (drop from xs)) (omega (arith, length-drop from xs)), le-leb 1 (to - from) (omega arith))
