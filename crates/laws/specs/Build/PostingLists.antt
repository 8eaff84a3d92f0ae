-- Positions inverted by key code: a directory line for each code that has any, in the order of the codes. Assumes nothing.
use Rattle.std.specs.Prelude.{◌≡◌, refl, true, length}
use Rattle.std.proofs.Common.{sym, ◌∙◌, inl, inr, ⊎_elim, arith}
use Rattle.std.proofs.Math.Path.{ap}
use mathlib.Core.List.{List, [], ◌∷◌}
use Prim.Native.Nat.{ℕ, zero, suc, ◌+◌, ◌≤◌, ◌<◌}
use Rattle.std.proofs.Math.ListN.{length-append}
use Rattle.basics.specs.Bools.{le_or_lt}
use Rattle.basics.specs.Member.{In}
use Rattle.spec.specs.Numbers.{key_before, Line, line, all_positions}
use Rattle.models.specs.Inversion.{code_key, with_positions, lines_from}
use Rattle.laws.specs.Text.Facts.{KeysRise}
use Rattle.laws.specs.Build.KeyCode.{code_key_before}

pub lines_some :
    (n k : ℕ) (f : ℕ → List ℕ) → 1 ≤ length (f k) → lines_from (suc n) k f ≡ line (code_key k) (f k) ∷ lines_from n (suc k) f
unfolding lines_from with_positions
lines_some n k f h = go (f k) h
  where
    go : (ps : List ℕ) → 1 ≤ length ps → with_positions k ps (lines_from n (suc k) f) ≡ line (code_key k) ps ∷ lines_from n (suc k) f
    go [] b = absurd (omega arith)
    go (p ∷ ps) b = refl

pub lines_none : (n k : ℕ) (f : ℕ → List ℕ) → f k ≡ [] → lines_from (suc n) k f ≡ lines_from n (suc k) f
unfolding lines_from with_positions
lines_none n k f e = rw e

pub lines_alike :
    (n k : ℕ) (f g : ℕ → List ℕ) → ((x : ℕ) → k ≤ x → x < k + n → f x ≡ g x) → lines_from n k f ≡ lines_from n k g
unfolding lines_from
lines_alike zero k f g h = refl
lines_alike (suc n) k f g h =
    rw (h k (omega arith) (omega arith), lines_alike n (suc k) f g (λ x lo hi. h x (omega arith) (omega arith)))

-- codes without positions may be skipped
pub lines_skip :
    (m n k : ℕ) (f : ℕ → List ℕ) → ((x : ℕ) → k ≤ x → x < k + m → f x ≡ []) → lines_from (m + n) k f ≡ lines_from n (k + m) f
lines_skip zero n k f h =
    let a : 0 + n ≡ n = omega arith in
    let b : k + 0 ≡ k = omega arith in
    rw (a, b)
lines_skip (suc m) n k f h =
    let a : suc m + n ≡ suc (m + n) = omega arith in
    let b : k + suc m ≡ suc k + m = omega arith in
    rw (a, b)
    (lines_none (m + n) k f (h k (omega arith) (omega arith))
    ∙ lines_skip m n (suc k) f (λ x lo hi. h x (omega arith) (omega arith)))

pub lines_empty : (n k : ℕ) (f : ℕ → List ℕ) → ((x : ℕ) → k ≤ x → x < k + n → f x ≡ []) → lines_from n k f ≡ []
unfolding lines_from
lines_empty zero k f h = refl
lines_empty (suc n) k f h =
    lines_none n k f (h k (omega arith) (omega arith)) ∙ lines_empty n (suc k) f (λ x lo hi. h x (omega arith) (omega arith))

-- MEMBERS

-- a line of the codes from k to below k + n
pub record LineOf (n k : ℕ) (f : ℕ → List ℕ) (l : Line) : Type 0 where
  pub code : ℕ
  pub from : k ≤ code
  pub below : code < k + n
  pub is : l ≡ line (code_key code) (f code)
  pub some : 1 ≤ length (f code)

later_line : {n : ℕ} (k : ℕ) {f : ℕ → List ℕ} {l : Line} → LineOf n (suc k) f l → LineOf (suc n) k f l
later_line k m =
    record { code = m.code; from = omega arith; below = omega arith; is = m.is; some = m.some }

pub lines_get : (n k : ℕ) (f : ℕ → List ℕ) (l : Line) → In l (lines_from n k f) → LineOf n k f l
unfolding lines_from with_positions
lines_get zero k f l m = absurd m
lines_get (suc n) k f l m = go (f k) refl m (lines_get n (suc k) f l)
  where
    go :
        (ps : List ℕ) → f k ≡ ps → In l (with_positions k ps (lines_from n (suc k) f)) →
        (In l (lines_from n (suc k) f) → LineOf n (suc k) f l) → LineOf (suc n) k f l
    go [] e i ih = later_line k (ih i)
    go (p ∷ ps) e (inl q) ih =
        record {
          code = k;
          from = omega arith;
          below = omega arith;
          is = q ∙ ap (λ (xs : List ℕ). line (code_key k) xs) (sym e);
          some = omega (arith, ap length e);
        }
    go (p ∷ ps) e (inr i) ih = later_line k (ih i)

pub lines_put :
    (n k : ℕ) (f : ℕ → List ℕ) (x : ℕ) → k ≤ x → x < k + n → 1 ≤ length (f x) → In (line (code_key x) (f x)) (lines_from n k f)
lines_put zero k f x lo hi some = absurd (omega arith)
lines_put (suc n) k f x lo hi some =
    ⊎_elim
    (λ (h : x ≤ k).
    let e : x ≡ k = omega arith in
    rw (lines_some n k f (rw (← e) some)) (inl (ap (λ (y : ℕ). line (code_key y) (f y)) e)))
    (λ (h : k < x). there (f k) refl (lines_put n (suc k) f x h (omega arith) some)) (le_or_lt x k)
  where
    there :
        (ps : List ℕ) → f k ≡ ps → In (line (code_key x) (f x)) (lines_from n (suc k) f) →
        In (line (code_key x) (f x)) (lines_from (suc n) k f)
    there [] e m = rw (lines_none n k f e) m
    there (p ∷ ps) e m = rw (lines_some n k f (omega (arith, ap length e))) (inr m)

-- ORDER

pub lines_order : (n k : ℕ) (f : ℕ → List ℕ) → KeysRise (lines_from n k f)
unfolding lines_from with_positions line
lines_order zero k f = tt
lines_order (suc n) k f = go (f k) (lines_order n (suc k) f)
  where
    after : (m : Line) → In m (lines_from n (suc k) f) → key_before (code_key k) m.key_of ≡ true
    after m i =
        let l : LineOf n (suc k) f m = lines_get n (suc k) f m i in
        rw l.is (code_key_before k l.code (omega arith))

    go : (ps : List ℕ) → KeysRise (lines_from n (suc k) f) → KeysRise (with_positions k ps (lines_from n (suc k) f))
    go [] ih = ih
    go (p ∷ ps) ih = (after, ih)

-- HOW MANY

-- the lines ms have one position more than ls, under a code that had none or had some
pub record Grown (had : List ℕ) (ls ms : List Line) : Type 0 where
  pub one_more : length (all_positions ms) ≡ suc (length (all_positions ls))
  pub new_line : had ≡ [] → length ms ≡ suc (length ls)
  pub same_lines : 1 ≤ length had → length ms ≡ length ls

-- g lists the position p more than f, under a code
pub record OneMore (f g : ℕ → List ℕ) (code p : ℕ) : Type 0 where
  pub more : g code ≡ p ∷ f code
  pub same : (x : ℕ) → (x ≡ code → ⊥) → g x ≡ f x

module _ {f g : ℕ → List ℕ} {code p : ℕ} (h : OneMore f g code p) where
  grown_here : (n : ℕ) → Grown (f code) (lines_from (suc n) code f) (lines_from (suc n) code g)
  unfolding lines_from with_positions all_positions line
  grown_here n = rw (h.more, rest) (go (f code) refl)
    where
      rest : lines_from n (suc code) g ≡ lines_from n (suc code) f
      rest = lines_alike n (suc code) g f (λ x lo hi. h.same x (λ (e : x ≡ code). omega arith))

      go :
          (had : List ℕ) → f code ≡ had →
          Grown had (with_positions code had (lines_from n (suc code) f)) (line (code_key code) (p ∷ had) ∷ lines_from n (suc code) f)
      go [] e = record { one_more = refl; new_line = λ h. refl; same_lines = λ h. absurd (omega arith) }
      go (q ∷ qs) e =
          record {
            one_more = refl;
            new_line = λ h. let z : suc (length qs) ≡ 0 = ap length h in absurd (omega arith);
            same_lines = λ h. refl;
          }

  grown_later :
      (n k : ℕ) → (k ≡ code → ⊥) → Grown (f code) (lines_from n (suc k) f) (lines_from n (suc k) g) →
      Grown (f code) (lines_from (suc n) k f) (lines_from (suc n) k g)
  unfolding lines_from with_positions all_positions line
  grown_later n k other ih = rw (h.same k other) (go (f k))
    where
      go :
          (ps : List ℕ) →
          Grown (f code) (with_positions k ps (lines_from n (suc k) f)) (with_positions k ps (lines_from n (suc k) g))
      go [] = ih
      go (q ∷ qs) =
          record {
            one_more =
                ap suc
                (length-append qs (all_positions (lines_from n (suc k) g))
                ∙ omega (arith, length-append qs (all_positions (lines_from n (suc k) f))));
            new_line = λ h. ap suc (ih.new_line h);
            same_lines = λ h. ap suc (ih.same_lines h);
          }

  pub lines_grow : (n k : ℕ) → k ≤ code → code < k + n → Grown (f code) (lines_from n k f) (lines_from n k g)
  lines_grow zero k lo hi = absurd (omega arith)
  lines_grow (suc n) k lo hi =
      ⊎_elim (λ (b : code ≤ k). let e : k ≡ code = omega arith in rw e (grown_here n))
      (λ (b : k < code).
      grown_later n k (λ (e : k ≡ code). omega arith) (lines_grow n (suc k) b (omega arith)))
      (le_or_lt code k)
