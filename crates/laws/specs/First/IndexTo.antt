-- The index without its entries that start after a position: readable, with the same n and exactly the entries up to it. Assumes
-- nothing.
use Rattle.std.specs.Prelude.{◌≡◌, Bool, cond, ℕ, suc, ◌≤◌, leb, eqb}
use Rattle.std.proofs.Math.Path.{refl, sym}
use Rattle.std.proofs.Common.{ap, ◌∙◌, arith}
use Rattle.std.proofs.Math.Bool.{true, false}
use Rattle.std.proofs.Math.Logic.{inl, inr, ⊎_elim}
use mathlib.Core.List.{List, [], ◌∷◌}
use Rattle.std.proofs.Math.ListN.{length}
use borrow.Author.Tests.{le-leb, leb-true, ne_eqb, eqb-false}
use Rattle.basics.specs.Bools.{at_most}
use Rattle.basics.specs.Member.{In, member_index, in_cond_get, in_cond_here, in_cond_there, in_skip_get, in_skip_here, in_skip_there}
use Rattle.spec.specs.Dictionary.{Lexicon}
use Rattle.spec.specs.Words.{Key}
use Rattle.spec.specs.Numbers.{key_before, Line, line}
use Rattle.spec.specs.Index.{n_of, lines_in, readable}
use Rattle.spec.specs.First.{positions_to, with_line, lines_to, index_to}
use Rattle.spec.specs.FurtherTheorems.{Under}
use Rattle.spec.specs.FirstTheorems.{SameTo}
use Rattle.laws.specs.Text.Facts.{Rise, GoodLine, KeysRise, GoodLines}
use Rattle.laws.specs.Numbers.FlatOrder.{rise_least, rise_more}
use Rattle.laws.specs.Numbers.Slices.{n_of_numbers, lines_in_numbers}
use Rattle.laws.specs.Readable.Readable.{Readable, readable_get, readable_put}

-- POSITIONS UP TO q

module _ (q : ℕ) where
  pub positions_to_get : (ps : List ℕ) (p : ℕ) → In p (positions_to q ps) → In p ps × (p ≤ q)
  unfolding positions_to
  positions_to_get [] p m = absurd m
  positions_to_get (x ∷ ps) p m =
      ⊎_elim
      (λ (h : (leb x q ≡ true) × (p ≡ x)). (inl h.1, rw h.1 (leb-true x q h.0)))
      (λ (h : In p (positions_to q ps)). let later = positions_to_get ps p h in (inr later.0, later.1))
      (in_cond_get p x (positions_to q ps) (leb x q) m)

  pub positions_to_put : (ps : List ℕ) (p : ℕ) → In p ps → p ≤ q → In p (positions_to q ps)
  unfolding positions_to
  positions_to_put [] p m early = absurd m
  positions_to_put (x ∷ ps) p (inl e) early =
      rw e (in_cond_here x (positions_to q ps) (leb x q) (le-leb x q (omega arith)))
  positions_to_put (x ∷ ps) p (inr m) early =
      in_cond_there p x (positions_to q ps) (leb x q) (positions_to_put ps p m early)

  positions_to_rise : (a : ℕ) (ps : List ℕ) → Rise a ps → Rise a (positions_to q ps)
  unfolding positions_to
  positions_to_rise a [] r = tt
  positions_to_rise a (p ∷ ps) r = by_test (leb p q) (positions_to_rise (suc p) ps r.1)
    where
      by_test : (b : Bool) → Rise (suc p) (positions_to q ps) → Rise a (cond b (p ∷ positions_to q ps) (positions_to q ps))
      by_test true later = (r.0, later)
      by_test false later =
          rise_more (suc p) a (positions_to q ps) later
          (λ x m. omega (arith, rise_least (suc p) (positions_to q ps) x later m))

  -- LINES UP TO q

  -- a line without its positions after q
  abbrev pub line_to : Line → Line
  line_to l = record { key_of = l.key_of; positions = positions_to q l.positions }

  pub lines_to_get :
      (ls : List Line) (m : Line) → In m (lines_to q ls) → (1 ≤ length m.positions) × ((l : Line) × In l ls × (m ≡ line_to l))
  unfolding lines_to with_line line
  lines_to_get [] m i = absurd i
  lines_to_get (l ∷ ls) m i =
      ⊎_elim
      (λ (h : (eqb (length (positions_to q l.positions)) 0 ≡ false) × (m ≡ line_to l)).
      let unmet = eqb-false (length (positions_to q l.positions)) 0 h.0 in
      let some : 1 ≤ length (positions_to q l.positions) = at_most (length (positions_to q l.positions)) 1
      (λ few. unmet (omega arith)) in
      (rw h.1 some, (l, inl refl, h.1)))
      (λ (h : In m (lines_to q ls)).
      let later = lines_to_get ls m h in (later.0, (later.1.0, inr later.1.1, later.1.2)))
      (in_skip_get m (line_to l) (lines_to q ls) (eqb (length (positions_to q l.positions)) 0) i)

  pub lines_to_put :
      (ls : List Line) (l : Line) (p : ℕ) → In l ls → In p l.positions → p ≤ q → In (line_to l) (lines_to q ls)
  unfolding lines_to with_line line
  lines_to_put [] l p i m early = absurd i
  lines_to_put (k ∷ ls) l p (inl e) m early =
      rw e
      (in_skip_here (line_to k) (lines_to q ls) (eqb (length (positions_to q k.positions)) 0)
      (ne_eqb (length (positions_to q k.positions)) 0
      (λ (none : length (positions_to q k.positions) ≡ 0).
      omega (arith, (member_index p (positions_to q k.positions) 0 (positions_to_put k.positions p (rw e at m) early)).1))))
  lines_to_put (k ∷ ls) l p (inr i) m early =
      in_skip_there (line_to l) (line_to k) (lines_to q ls) (eqb (length (positions_to q k.positions)) 0) (lines_to_put ls l p i m early)

  -- the lines of a readable index stay in order and good up to q
  lines_to_rises : (ls : List Line) → KeysRise ls → KeysRise (lines_to q ls)
  unfolding lines_to with_line line
  lines_to_rises [] r = tt
  lines_to_rises (l ∷ ls) r = by_test (eqb (length (positions_to q l.positions)) 0) (lines_to_rises ls r.1)
    where
      by_test : (b : Bool) → KeysRise (lines_to q ls) → KeysRise (cond b (lines_to q ls) (line_to l ∷ lines_to q ls))
      by_test true later = later
      by_test false later = (after, later)
        where
          after : (m : Line) → In m (lines_to q ls) → key_before l.key_of m.key_of ≡ true
          after m i =
              let h = (lines_to_get ls m i).1 in
              rw h.2 (r.0 h.0 h.1)

  line_to_good :
      {lex : Lexicon} {n : ℕ} {l : Line} → GoodLine lex n l → 1 ≤ length (positions_to q l.positions) → GoodLine lex n (line_to l)
  line_to_good {l} good some =
      record {
        is_key = good.is_key;
        some = some;
        rise = positions_to_rise 1 l.positions good.rise;
        fits = λ p m. good.fits p (positions_to_get l.positions p m).0;
      }

  pub lines_to_good : {lex : Lexicon} {n : ℕ} {ls : List Line} → GoodLines lex n ls → GoodLines lex n (lines_to q ls)
  lines_to_good {lex} {n} {ls} good =
      record {
        each =
            λ m i.
            let h = lines_to_get ls m i in
            rw h.1.2 (line_to_good (good.each h.1.0 h.1.1) (rw h.1.2 at h.0));
        order = lines_to_rises ls good.order;
      }

-- THE INDEX UP TO q

module _ (q : ℕ) (xs : List ℕ) where
  pub n_of_index_to : n_of (index_to q xs) ≡ n_of xs
  unfolding index_to
  n_of_index_to = n_of_numbers (n_of xs) (lines_to q (lines_in xs))

  lines_in_index_to : lines_in (index_to q xs) ≡ lines_to q (lines_in xs)
  unfolding index_to
  lines_in_index_to = lines_in_numbers (n_of xs) (lines_to q (lines_in xs))

  pub index_to_only : (k : Key) (b : ℕ) → Under k b (index_to q xs) → Under k b xs × (b ≤ q)
  unfolding Under
  index_to_only k b u =
      let h = (lines_to_get q (lines_in xs) u.0 (rw lines_in_index_to at u.1)).1 in
      let kept = positions_to_get q h.0.positions b (rw h.2 at u.3) in
      ((h.0, h.1, sym (ap (λ (l : Line). l.key_of) h.2) ∙ u.2, kept.0), kept.1)

  pub index_to_all : (k : Key) (b : ℕ) → Under k b xs → b ≤ q → Under k b (index_to q xs)
  unfolding Under
  index_to_all k b u early = (
    line_to q u.0,
    rw lines_in_index_to (lines_to_put q (lines_in xs) u.0 b u.1 u.3 early),
    u.2,
    positions_to_put q u.0.positions b u.3 early,
  )

  pub index_to_readable : (g : ℕ) (lex : Lexicon) → readable g lex xs ≡ true → readable g lex (index_to q xs) ≡ true
  unfolding index_to
  index_to_readable g lex t =
      let can : Readable g lex xs = readable_get g lex xs t in
      readable_put g (lines_to_good q can.lines)
      can.length_allowed

  -- it has the n and the entries, up to q, of the index
  pub index_to_same : SameTo q xs (index_to q xs)
  index_to_same =
      record {
        n_is = sym n_of_index_to;
        there = λ k b early u. index_to_all k b u early;
        back = λ k b early u. (index_to_only k b u).0;
      }
