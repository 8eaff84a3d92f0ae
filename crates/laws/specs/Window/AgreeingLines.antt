-- The lines whose keys agree with a string at an offset from 0 up, listed: some by number, the others as one range. Assumes nothing.
use Rattle.std.specs.Prelude.{◌≡◌, refl, true, false, ◌⊎◌, List, [], ◌∷◌, ◌++◌, take, set}
use Rattle.std.proofs.Common.{sym, ◌∙◌, append_assoc, add-one, length-set, take-suc-set}
use Rattle.std.proofs.Math.Path.{ap}
use Rattle.std.proofs.Math.Bool.{Bool}
use Rattle.std.proofs.Math.Logic.{inl, inr, ⊎_elim}
use Prim.Native.Nat.{ℕ, suc, ◌+◌, ◌-◌, ◌≤◌, ◌<◌}
use native.Mathlib.Omega.{arith}
use Rattle.std.proofs.Math.ListN.{length, length-append}
use Rattle.basics.specs.Member.{In, in_append_get, in_append_left}
use Rattle.basics.specs.Steps.{Outside, those_from, those_from_get, those_from_put, those_from_none, those_from_append, those_from_fewer}
use Rattle.spec.specs.Dictionary.{Lexicon}
use Rattle.models.specs.Window.{agrees_line, agreeing_lines}
use Rattle.laws.specs.Build.PostingsByKey.{those_short}

-- the listed lines are among the first w, and agree
abbrev pub LinesAgree : (o : ℕ) → Lexicon → (numbers string : List ℕ) → (w : ℕ) → (lines : List ℕ) → Type 0
LinesAgree o lex xs s w is = (i : ℕ) → In i is → (i < w) × (agrees_line o lex xs s i ≡ true)

-- the lines `from` to `to` − 1 agree
abbrev pub RangeAgrees : (o : ℕ) → Lexicon → (numbers string : List ℕ) → (from to : ℕ) → Type 0
RangeAgrees o lex xs s from to = (i : ℕ) → from ≤ i → i < to → agrees_line o lex xs s i ≡ true

module _ (o : ℕ) (lex : Lexicon) (xs s : List ℕ) where
  abbrev those : (a b : ℕ) → List ℕ
  those a b = agreeing_lines o lex xs s a b

  agreeing_yes : (a b : ℕ) → a < b → agrees_line o lex xs s a ≡ true → those a b ≡ a ∷ those (a + 1) b
  unfolding agreeing_lines those_from
  agreeing_yes a b some t = let z : b - a ≡ suc (b - suc a) = omega arith in rw (add-one a, z, t)

  agreeing_no : (a b : ℕ) → a < b → agrees_line o lex xs s a ≡ false → those a b ≡ those (a + 1) b
  unfolding agreeing_lines those_from
  agreeing_no a b some t = let z : b - a ≡ suc (b - suc a) = omega arith in rw (add-one a, z, t)

  -- lines at both ends that do not agree are left out
  agreeing_part :
      {a r t b : ℕ} → Outside (λ i. agrees_line o lex xs s i ≡ false) a r t b → those a b ≡ those r t
  unfolding agreeing_lines
  agreeing_part {a} {r} {t} {b} h =
      let x : b - a ≡ (r - a) + (b - r) = omega arith in
      let y : a + (r - a) ≡ r = omega arith in
      let z : b - r ≡ (t - r) + (b - t) = omega arith in
      rw x
      (those_from_append (r - a) (b - r) a test
      ∙ rw (those_from_none (r - a) a test (λ i l m. h.front i l (omega arith)), y, z)
      (those_from_fewer (t - r) (b - t) r test (λ i l m. h.back i (omega arith) (omega arith))))
    where
      test : ℕ → Bool
      test = agrees_line o lex xs s

  -- of the first w lines, those that agree are the first `count` of the list, then those from lo to hi − 1 that agree
  pub record AgreeingListed (w : ℕ) (lines : List ℕ) (count lo hi : ℕ) : Type 0 where
    pub found : those 0 w ≡ take count lines ++ those lo hi
    pub order : lo ≤ hi
    pub within : hi ≤ w
    pub room : count ≤ length lines

  -- and the lines of that range agree
  pub record AgreeingFound (w : ℕ) (lines : List ℕ) (count lo hi : ℕ) : Type 0 where
    pub listed : AgreeingListed w lines count lo hi
    pub range : RangeAgrees o lex xs s lo hi

module _ {o : ℕ} {lex : Lexicon} {xs s : List ℕ} where
  pub agreeing_start : (w : ℕ) (lines : List ℕ) → AgreeingListed o lex xs s w lines 0 0 w
  agreeing_start w lines = record { found = refl; order = omega arith; within = omega arith; room = omega arith }

  module _ {w : ℕ} {lines : List ℕ} {count lo hi : ℕ} (h : AgreeingListed o lex xs s w lines count lo hi) where
    pub agreeing_push :
        lo < hi → count < length lines → agrees_line o lex xs s lo ≡ true →
        AgreeingListed o lex xs s w (set lines count lo) (count + 1) (lo + 1) hi
    agreeing_push some free t =
        let more : take (count + 1) (set lines count lo) ≡ take count lines ++ lo ∷ [] =
        rw (add-one count) (take-suc-set lines count lo free) in
        record {
          found =
              h.found
              ∙ ap (λ (is : List ℕ). take count lines ++ is) (agreeing_yes o lex xs s lo hi some t)
              ∙ sym (append_assoc (take count lines) (lo ∷ []) (those o lex xs s (lo + 1) hi))
              ∙ ap (λ (is : List ℕ). is ++ those o lex xs s (lo + 1) hi) (sym more);
          order = omega arith;
          within = h.within;
          room = omega (arith, length-set lines count lo);
        }

    pub agreeing_pass : lo < hi → agrees_line o lex xs s lo ≡ false → AgreeingListed o lex xs s w lines count (lo + 1) hi
    agreeing_pass some f =
        record {
          found = h.found ∙ ap (λ (is : List ℕ). take count lines ++ is) (agreeing_no o lex xs s lo hi some f);
          order = omega arith;
          within = h.within;
          room = h.room;
        }

    pub agreeing_range :
        {r t : ℕ} → Outside (λ i. agrees_line o lex xs s i ≡ false) lo r t hi → AgreeingListed o lex xs s w lines count r t
    agreeing_range out =
        record {
          found = h.found ∙ ap (λ (is : List ℕ). take count lines ++ is) (agreeing_part o lex xs s out);
          order = out.order;
          within = omega arith;
          room = h.room;
        }

    -- a listed line is one of the first w, and agrees
    pub listed_agrees : LinesAgree o lex xs s w (take count lines)
    unfolding agreeing_lines
    listed_agrees i m =
        let here : In i (those o lex xs s 0 w) = rw h.found (in_append_left i (take count lines) (those o lex xs s lo hi) m) in
        let there = those_from_get (w - 0) 0 (agrees_line o lex xs s) i here in
        (omega arith, there.2)

    -- a line that agrees is listed or in the range
    pub agrees_listed :
        (i : ℕ) → i < w → agrees_line o lex xs s i ≡ true → In i (take count lines) ⊎ ((lo ≤ i) × (i < hi))
    unfolding agreeing_lines
    agrees_listed i b t =
        let all : In i (those o lex xs s 0 w) = those_from_put (w - 0) 0 (agrees_line o lex xs s) i (omega arith) (omega arith) t in
        ⊎_elim (λ (l : In i (take count lines)). inl l)
        (λ (r : In i (those o lex xs s lo hi)).
        let there = those_from_get (hi - lo) lo (agrees_line o lex xs s) i r in inr (there.0, omega arith))
        (in_append_get i (take count lines) (those o lex xs s lo hi) (rw h.found at all))

    -- no more are listed than there are lines
    pub listed_few : length (take count lines) ≤ w
    unfolding agreeing_lines
    listed_few =
        omega (
          arith,
          those_short (w - 0) 0 (agrees_line o lex xs s),
          ap length h.found ∙ length-append (take count lines) (those o lex xs s lo hi),
        )
