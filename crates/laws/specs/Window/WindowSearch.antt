-- The search algorithm on a window of starts: each of its loops, what one iteration does and how it ends. Assumes nothing.
use Rattle.std.specs.Prelude.{◌≡◌, refl, true, false, cond, List, [], ◌∷◌, leb, get_or, drop, set, replicate}
use Rattle.std.proofs.Math.Path.{sym, ap}
use Rattle.std.proofs.Common.{◌∙◌, ⊎_elim, add-zero, add-one, drop_of_length-le, le-leb, eq-eqb, ne_eqb}
use Prim.Native.Nat.{ℕ, zero, suc, ◌+◌, ◌-◌, ◌≤◌, ◌<◌, max}
use native.Mathlib.Omega.{arith}
use Rattle.std.proofs.Math.ListN.{length}
use Rattle.std.proofs.Math.Seq.{drop-cons}
use Rattle.std.proofs.lemmas.List.{set-get_or}
use Rattle.std.proofs.lemmas.Bool.{lt-leb}
use Rattle.basics.specs.Bools.{le_or_lt}
use Rattle.spec.specs.Dictionary.{Lexicon}
use Rattle.spec.specs.Words.{spells}
use Rattle.spec.specs.Numbers.{Line}
use Rattle.spec.specs.Search.{agrees, found_from}
use Rattle.models.specs.Reach.{extend, reach_positions, reach_key, reach_back, reach_leading, reach_offset, reach_offsets, reach}
use Rattle.models.specs.Window.{found_in, extend_all, positions_all, key_all, back_all, leading_all, offset_all, offsets_all}
use Rattle.laws.specs.Search.Reach.{reach_key_apart, reach_offsets_stop}
use Rattle.laws.specs.Search.ReachExact.{found_reach}
use Rattle.laws.specs.Window.Window.{extended_then, extended_alike, extended_same, extended_one, found_in_extended}

-- THE STEPS, each applied to every start of the window

-- ONE POSITION b OF A KEY'S LIST: it belongs to at most one start, and is skipped if that is no start of the window, if the reach does
-- not come to the offset, or if the reach would not grow

module _ (i o l q b : ℕ) (rs : List ℕ) where
  elsewhere : (j : ℕ) → (b + i ≡ q + j + o → ⊥) → extend i o l (q + j) b (get_or rs j 0) ≡ get_or rs j 0
  unfolding extend
  elsewhere j other = rw (ne_eqb (b + i) (q + j + o) other)

  pub extend_outside : (q + o ≤ b + i → length rs + (q + o) ≤ b + i) → extend_all i o l q b rs ≡ rs
  unfolding extend_all
  extend_outside outside =
      extended_same (λ p r. extend i o l p b r) q rs
      (λ j w. elsewhere j (λ (e : b + i ≡ q + j + o). omega (arith, outside (omega arith))))

-- p is the start, in the window, that the position belongs to
pub record OwnStart (i o q b : ℕ) (rs : List ℕ) (p : ℕ) : Type 0 where
  pub own : p + (q + o) ≡ b + i
  pub inside : p < length rs

module _ {i o : ℕ} (l : ℕ) {q b : ℕ} {rs : List ℕ} {p : ℕ} (h : OwnStart i o q b rs p) where
  here :
      {v : ℕ} → cond (leb o (get_or rs p 0)) (max (get_or rs p 0) ((o + l) - i)) (get_or rs p 0) ≡ v → extend_all i o l q b rs ≡ set rs p v
  unfolding extend_all extend
  here {v} e =
      extended_one (λ p r. extend i o l p b r) q rs p v h.inside (rw (eq-eqb (b + i) (q + p + o) (omega arith)) e)
      (λ j w other. elsewhere i o l q b rs j (λ (z : b + i ≡ q + j + o). other (omega arith)))

  pub extend_passed : (o ≤ get_or rs p 0 → (o + l) - i ≤ get_or rs p 0) → extend_all i o l q b rs ≡ rs
  extend_passed gained =
      here
      (⊎_elim (λ (near : o ≤ get_or rs p 0). rw (le-leb o (get_or rs p 0) near) (omega (arith, gained near)))
      (λ (far : get_or rs p 0 < o). rw (lt-leb o (get_or rs p 0) far)) (le_or_lt o (get_or rs p 0)))
      ∙ set-get_or rs p 0

  pub extend_here :
      o ≤ get_or rs p 0 → get_or rs p 0 ≤ max o ((o + l) - i) → extend_all i o l q b rs ≡ set rs p (max o ((o + l) - i))
  extend_here near gain = here (rw (le-leb o (get_or rs p 0) near) (omega arith))

-- THE POSITIONS OF A KEY, from index j on

module _ (i o l q : ℕ) (bs : List ℕ) (j : ℕ) where
  pub positions_none : length bs ≤ j → (rs : List ℕ) → positions_all i o l q (drop j bs) rs ≡ rs
  unfolding positions_all reach_positions
  positions_none past rs =
      rw (drop_of_length-le bs past) (extended_same (λ p r. r) q rs (λ k w. refl))

  pub positions_next :
      j < length bs → (rs : List ℕ) →
      positions_all i o l q (drop j bs) rs ≡ positions_all i o l q (drop (j + 1) bs) (extend_all i o l q (get_or bs j 0) rs)
  unfolding positions_all reach_positions extend_all
  positions_next some rs =
      rw (add-one j, drop-cons bs j 0)
      (sym (extended_then (λ p r. extend i o l p (get_or bs j 0) r) (λ p r. reach_positions i o l p (drop (suc j) bs) r) q rs))

-- the positions from index j to index k − 1 belong to no start of the window
pub record OutsideWindow (i o q : ℕ) (bs rs : List ℕ) (j k : ℕ) : Type 0 where
  pub order : j ≤ k
  pub within : k ≤ length bs
  pub none : (x : ℕ) → j ≤ x → x < k → q + o ≤ get_or bs x 0 + i → length rs + (q + o) ≤ get_or bs x 0 + i

-- so they are skipped
module _ {i o : ℕ} (l : ℕ) {q : ℕ} {bs rs : List ℕ} where
  skip :
      (n j : ℕ) → OutsideWindow i o q bs rs j (j + n) →
      positions_all i o l q (drop j bs) rs ≡ positions_all i o l q (drop (j + n) bs) rs
  skip zero j h = rw (add-zero j)
  skip (suc n) j h =
      let z : j + 1 + n ≡ j + suc n = omega arith in
      positions_next i o l q bs j (omega arith) rs
      ∙ ap (positions_all i o l q (drop (j + 1) bs)) (extend_outside i o l q (get_or bs j 0) rs (h.none j (omega arith) (omega arith)))
      ∙ rw z at
      (skip n (j + 1)
      (record { order = omega arith; within = omega arith; none = λ x a b. h.none x (omega arith) (omega arith) }))

  pub positions_skip :
      {j k : ℕ} → OutsideWindow i o q bs rs j k → positions_all i o l q (drop j bs) rs ≡ positions_all i o l q (drop k bs) rs
  positions_skip {j} {k} h =
      let z : j + (k - j) ≡ k = omega arith in
      rw z at (skip (k - j) j (rw z h))

-- ONE KEY AT ONE OFFSET

reach_key_agrees :
    (i o : ℕ) (s k : List ℕ) (p : ℕ) (bs : List ℕ) (r : ℕ) → agrees s i k o ≡ true →
    reach_key i o s k p bs r ≡ reach_positions i o (length k) p bs r
unfolding reach_key
reach_key_agrees i o s k p bs r t = rw t

module _ (i o : ℕ) (s k : List ℕ) (q : ℕ) (bs rs : List ℕ) where
  pub key_apart : agrees s i k o ≡ false → key_all i o s k q bs rs ≡ rs
  unfolding key_all
  key_apart f =
      extended_same (λ p r. reach_key i o s k p bs r) q rs (λ j w. reach_key_apart i o s k (q + j) bs (get_or rs j 0) f)

  pub key_agrees : agrees s i k o ≡ true → key_all i o s k q bs rs ≡ positions_all i o (length k) q bs rs
  unfolding key_all positions_all
  key_agrees t =
      extended_alike (λ p r. reach_key i o s k p bs r) (λ p r. reach_positions i o (length k) p bs r) q rs
      (λ p r. reach_key_agrees i o s k p bs r t)

-- ONE KEY AT THE OFFSETS FROM −i DOWN

module _ (s k : List ℕ) (q : ℕ) (bs : List ℕ) (i : ℕ) where
  pub back_none : length k ≤ i → (rs : List ℕ) → back_all (length k - i) i s k q bs rs ≡ rs
  unfolding back_all reach_back
  back_none past rs =
      let z : length k - i ≡ 0 = omega arith in
      rw z (extended_same (λ p r. r) q rs (λ j w. refl))

  pub back_next :
      i < length k → (rs : List ℕ) →
      back_all (length k - i) i s k q bs rs ≡ back_all (length k - (i + 1)) (i + 1) s k q bs (key_all i 0 s k q bs rs)
  unfolding back_all reach_back key_all
  back_next some rs =
      let z : length k - i ≡ suc (length k - suc i) = omega arith in
      rw (add-one i, z)
      (sym
      (extended_then (λ p r. reach_key i 0 s k p bs r) (λ p r. reach_back (length k - suc i) (suc i) s k p bs r) q rs))

-- THE LINES, one after another

module _ (lex : Lexicon) (s : List ℕ) (q : ℕ) where
  pub first_none : (rs : List ℕ) → leading_all lex [] s q rs ≡ rs
  unfolding leading_all reach_leading
  first_none rs = extended_same (λ p r. r) q rs (λ j w. refl)

  pub leading_next :
      (l : Line) (ls : List Line) (rs : List ℕ) →
      leading_all lex (l ∷ ls) s q rs
      ≡ leading_all lex ls s q
      (back_all (length (spells lex l.key_of)) 0 s (spells lex l.key_of) q l.positions rs)
  unfolding leading_all reach_leading back_all
  leading_next l ls rs =
      sym
      (extended_then
      (λ p r. reach_back (length (spells lex l.key_of)) 0 s (spells lex l.key_of) p l.positions r)
      (λ p r. reach_leading lex ls s p r) q rs)

  pub offset_none : (o : ℕ) (rs : List ℕ) → offset_all o lex [] s q rs ≡ rs
  unfolding offset_all reach_offset
  offset_none o rs = extended_same (λ p r. r) q rs (λ j w. refl)

  pub offset_next :
      (o : ℕ) (l : Line) (ls : List Line) (rs : List ℕ) →
      offset_all o lex (l ∷ ls) s q rs ≡ offset_all o lex ls s q (key_all 0 o s (spells lex l.key_of) q l.positions rs)
  unfolding offset_all reach_offset key_all
  offset_next o l ls rs =
      sym
      (extended_then (λ p r. reach_key 0 o s (spells lex l.key_of) p l.positions r) (λ p r. reach_offset o lex ls s p r) q rs)

-- THE OFFSETS FROM o ON

module _ (lex : Lexicon) (ls : List Line) (s : List ℕ) (q : ℕ) where
  pub offsets_none : (o : ℕ) → length s ≤ o → (rs : List ℕ) → offsets_all (length s - o) o lex ls s q rs ≡ rs
  unfolding offsets_all reach_offsets
  offsets_none o past rs =
      let z : length s - o ≡ 0 = omega arith in
      rw z (extended_same (λ p r. r) q rs (λ j w. refl))

  pub offsets_next :
      (o : ℕ) → o < length s → (rs : List ℕ) →
      offsets_all (length s - o) o lex ls s q rs
      ≡ offsets_all (length s - (o + 1)) (o + 1) lex ls s q (offset_all o lex ls s q rs)
  unfolding offsets_all reach_offsets offset_all
  offsets_next o some rs =
      let z : length s - o ≡ suc (length s - suc o) = omega arith in
      rw (add-one o, z)
      (sym
      (extended_then (λ p r. reach_offset o lex ls s p r) (λ p r. reach_offsets (length s - suc o) (suc o) lex ls s p r) q rs))

  -- if no reach comes to o, the offsets from o on change nothing
  pub offsets_stop : (n o : ℕ) (rs : List ℕ) → ((j : ℕ) → j < length rs → get_or rs j 0 < o) → offsets_all n o lex ls s q rs ≡ rs
  unfolding offsets_all
  offsets_stop n o rs low =
      extended_same (λ p r. reach_offsets n o lex ls s p r) q rs (λ j b. reach_offsets_stop lex s (q + j) ls n o (get_or rs j 0) (low j b))

  -- WHAT IS FOUND: the starts whose reach comes to the string's end, once all offsets are done on a window that starts with every reach 0
  pub window_found :
      (n : ℕ) →
      found_in (length s) q (offsets_all (length s - 1) 1 lex ls s q (leading_all lex ls s q (replicate n 0))) ≡ found_from n q lex ls s
  unfolding offsets_all leading_all reach
  window_found n =
      ap (found_in (length s) q)
      (extended_then (λ p r. reach_leading lex ls s p r) (λ p r. reach_offsets (length s - 1) 1 lex ls s p r) q (replicate n 0))
      ∙ found_in_extended (length s) (λ p r. reach_offsets (length s - 1) 1 lex ls s p (reach_leading lex ls s p r)) n q
      ∙ sym (found_reach lex ls s n q)
