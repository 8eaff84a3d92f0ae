-- A walk over the directory lines from a to b − 1, each with a step on the window; the pass at one offset as such a walk, and the
-- lines that it may skip. Assumes nothing.
use Rattle.std.specs.Prelude.{◌≡◌, false, drop}
use Rattle.std.proofs.Math.Path.{refl, ap}
use Rattle.std.proofs.Common.{sym, ◌∙◌, add-one}
use mathlib.Core.List.{List, [], ◌∷◌}
use Prim.Native.Nat.{ℕ, zero, suc, ◌+◌, ◌-◌, ◌≤◌, ◌<◌}
use Rattle.std.proofs.Math.Nat.{sub-zero}
use native.Mathlib.Omega.{arith}
use Rattle.std.proofs.Math.ListN.{length}
use Rattle.basics.specs.Steps.{Outside}
use Rattle.spec.specs.Dictionary.{Lexicon}
use Rattle.spec.specs.Words.{spells}
use Rattle.spec.specs.Numbers.{Line, line}
use Rattle.spec.specs.Index.{keys_of, key_at, lines_in}
use Rattle.spec.specs.Search.{agrees}
use Rattle.models.specs.Window.{key_all, back_all, leading_all, offset_all, run_from, run, positions_at, offset_at, leading_at, line_of}
use Rattle.laws.specs.Numbers.DirectoryWalk.{lines_next, lines_none}
use Rattle.laws.specs.Window.Window.{Within, Reaches, Progress, progress_start, progress_step, progress_end}
use Rattle.laws.specs.Window.WindowSearch.{key_apart, back_none, back_next, first_none, leading_next, offset_none, offset_next}

-- A WALK OF STEPS

-- the steps a to b − 1 change nothing
abbrev pub Unchanged : (step : ℕ → List ℕ → List ℕ) → (a b : ℕ) → Type 0
Unchanged f a b = (i : ℕ) → a ≤ i → i < b → (rs : List ℕ) → f i rs ≡ rs

module _ (f : ℕ → List ℕ → List ℕ) where
  from_join : (n m i : ℕ) (rs : List ℕ) → run_from f m (i + n) (run_from f n i rs) ≡ run_from f (n + m) i rs
  unfolding run_from
  from_join zero m i rs =
      let y : i + 0 ≡ i = omega arith in
      let z : 0 + m ≡ m = omega arith in
      rw (y, z)
  from_join (suc n) m i rs =
      let y : i + suc n ≡ suc i + n = omega arith in
      let z : suc n + m ≡ suc (n + m) = omega arith in
      rw (y, z) (from_join n m (suc i) (f i rs))

  from_unchanged : (n i : ℕ) → ((j : ℕ) → i ≤ j → j < i + n → (rs : List ℕ) → f j rs ≡ rs) → (rs : List ℕ) → run_from f n i rs ≡ rs
  unfolding run_from
  from_unchanged zero i still rs = refl
  from_unchanged (suc n) i still rs =
      from_unchanged n (suc i) (λ j l r. still j (omega arith) (omega arith)) (f i rs) ∙ still i (omega arith) (omega arith) rs

  pub run_none : (a b : ℕ) → b ≤ a → (rs : List ℕ) → run f a b rs ≡ rs
  unfolding run_from
  run_none a b past rs = let z : b - a ≡ 0 = omega arith in rw z

  pub run_next : (a b : ℕ) → a < b → (rs : List ℕ) → run f a b rs ≡ run f (a + 1) b (f a rs)
  unfolding run_from
  run_next a b some rs = let z : b - a ≡ suc (b - suc a) = omega arith in rw (add-one a, z)

  pub run_one : (a : ℕ) (rs : List ℕ) → run f a (a + 1) rs ≡ f a rs
  run_one a rs = run_next a (a + 1) (omega arith) rs ∙ run_none (a + 1) (a + 1) (omega arith) (f a rs)

  pub run_join : (a b c : ℕ) → a ≤ b → b ≤ c → (rs : List ℕ) → run f b c (run f a b rs) ≡ run f a c rs
  run_join a b c l r rs =
      let y : a + (b - a) ≡ b = omega arith in
      let z : (b - a) + (c - b) ≡ c - a = omega arith in
      rw (y, z) at (from_join (b - a) (c - b) a rs)

  pub run_unchanged : (a b : ℕ) → Unchanged f a b → (rs : List ℕ) → run f a b rs ≡ rs
  run_unchanged a b still rs = from_unchanged (b - a) a (λ j l r. still j l (omega arith)) rs

  -- steps at both ends that change nothing are skipped
  pub run_skip : {a r t b : ℕ} → Outside (λ i. (rs : List ℕ) → f i rs ≡ rs) a r t b → (rs : List ℕ) → run f a b rs ≡ run f r t rs
  run_skip {a} {r} {t} {b} h rs =
      sym (run_join a r b h.from (omega arith) rs)
      ∙ ap (run f r b) (run_unchanged a r h.front rs)
      ∙ sym (run_join r t b h.order h.to rs)
      ∙ run_unchanged t b h.back (run f r t rs)

  module _ (g : ℕ → List ℕ → List ℕ) where
    from_alike :
        (n i : ℕ) → ((j : ℕ) → i ≤ j → j < i + n → (rs : List ℕ) → f j rs ≡ g j rs) → (rs : List ℕ) → run_from f n i rs ≡ run_from g n i rs
    unfolding run_from
    from_alike zero i same rs = refl
    from_alike (suc n) i same rs =
        from_alike n (suc i) (λ j l r. same j (omega arith) (omega arith)) (f i rs)
        ∙ ap (run_from g n (suc i)) (same i (omega arith) (omega arith) rs)

    pub run_alike :
        (a b : ℕ) → ((j : ℕ) → a ≤ j → j < b → (rs : List ℕ) → f j rs ≡ g j rs) → (rs : List ℕ) → run f a b rs ≡ run g a b rs
    run_alike a b same rs = from_alike (b - a) a (λ j l r. same j l (omega arith)) rs

-- WHAT IS LEFT OF A WALK

-- of the steps a to b − 1 those from lo to hi − 1 are still to do, `rs` is the window now, and no reach is above `highest`
pub record Left (step : ℕ → List ℕ → List ℕ) (a b : ℕ) (old rs : List ℕ) (highest lo hi : ℕ) : Type 0 where
  pub way : Progress (run step lo hi) (run step a b old) old rs highest

module _ {f : ℕ → List ℕ → List ℕ} {a b : ℕ} {old : List ℕ} where
  pub left_start : {max_reach : ℕ} → Within max_reach old → Left f a b old old max_reach a b
  left_start {max_reach} w = record { way = progress_start (run f a b) old max_reach w }

  module _ {rs : List ℕ} {highest lo hi : ℕ} (h : Left f a b old rs highest lo hi) where
    -- the first of them is done
    pub left_step :
        lo < hi → {now : List ℕ} {max_reach : ℕ} → length now ≡ length rs → Reaches (f lo rs) now max_reach →
        Left f a b old now max_reach (lo + 1) hi
    left_step some kept r = record { way = progress_step (run f (lo + 1) hi) h.way (run_next f lo hi some rs) kept r }

    pub left_end : hi ≤ lo → Reaches (run f a b old) rs highest
    left_end past = progress_end h.way (run_none f lo hi past rs)

-- THE LINES OF AN INDEX

-- a pass that takes lines one after the other, each by its step
record Pass (xs : List ℕ) (step : ℕ → List ℕ → List ℕ) (pass : List Line → List ℕ → List ℕ) : Type 0 where
  none : (rs : List ℕ) → pass [] rs ≡ rs
  next : (i : ℕ) (ls : List Line) (rs : List ℕ) → pass (line_of xs i ∷ ls) rs ≡ pass ls (step i rs)

module _ (xs : List ℕ) (f : ℕ → List ℕ → List ℕ) (pass : List Line → List ℕ → List ℕ) (h : Pass xs f pass) where
  pass_from : (n i : ℕ) → i + n ≡ keys_of xs → (rs : List ℕ) → run_from f n i rs ≡ pass (drop i (lines_in xs)) rs
  unfolding run_from
  pass_from zero i e rs = rw (lines_none xs i (omega arith)) (sym (h.none rs))
  pass_from (suc n) i e rs =
      pass_from n (suc i) (omega arith) (f i rs)
      ∙ rw (lines_next xs i (omega arith)) (rw (add-one i) (sym (h.next i (drop (suc i) (lines_in xs)) rs)))

  -- over all lines it is the walk over them
  pass_whole : (rs : List ℕ) → run f 0 (keys_of xs) rs ≡ pass (lines_in xs) rs
  pass_whole rs = rw (sub-zero (keys_of xs)) (pass_from (keys_of xs) 0 (omega arith) rs)

module _ (lex : Lexicon) (xs s : List ℕ) (q : ℕ) where
  pub offset_whole : (o : ℕ) (rs : List ℕ) → run (offset_at o lex xs s q) 0 (keys_of xs) rs ≡ offset_all o lex (lines_in xs) s q rs
  unfolding offset_at line
  offset_whole o =
      pass_whole xs (offset_at o lex xs s q) (λ ls. offset_all o lex ls s q)
      (record { none = offset_none lex s q o; next = λ i. offset_next lex s q o (line_of xs i) })

  pub leading_whole : (rs : List ℕ) → run (leading_at lex xs s q) 0 (keys_of xs) rs ≡ leading_all lex (lines_in xs) s q rs
  unfolding leading_at line
  leading_whole =
      pass_whole xs (leading_at lex xs s q) (λ ls. leading_all lex ls s q)
      (record { none = first_none lex s q; next = λ i. leading_next lex s q (line_of xs i) })

  -- a key that does not agree
  pub offset_apart : (o i : ℕ) → agrees s 0 (spells lex (key_at xs i)) o ≡ false → (rs : List ℕ) → offset_at o lex xs s q i rs ≡ rs
  unfolding offset_at
  offset_apart o i f rs = key_apart 0 o s (spells lex (key_at xs i)) q (positions_at xs i) rs f

  -- a key of one character has one offset of 0 or below
  pub leading_single :
      (i : ℕ) → length (spells lex (key_at xs i)) ≡ 1 → (rs : List ℕ) → leading_at lex xs s q i rs ≡ offset_at 0 lex xs s q i rs
  unfolding leading_at offset_at
  leading_single i one rs = single (spells lex (key_at xs i)) one
    where
      single :
          (k : List ℕ) → length k ≡ 1 →
          back_all (length k) 0 s k q (positions_at xs i) rs ≡ key_all 0 0 s k q (positions_at xs i) rs
      single k e =
          ap (λ (n : ℕ). back_all n 0 s k q (positions_at xs i) rs) (sym (sub-zero (length k)))
          ∙ back_next s k q (positions_at xs i) 0 (omega arith) rs
          ∙ back_none s k q (positions_at xs i) 1 (omega arith) (key_all 0 0 s k q (positions_at xs i) rs)
