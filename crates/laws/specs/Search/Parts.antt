-- A string contained in another, and a suffix of one that is a prefix of the other, as agreement. Assumes nothing.
use Rattle.std.specs.Prelude.{◌≡◌, Bool, ◌&&◌, List, get_or, take, drop}
use Rattle.std.proofs.Math.Path.{refl}
use Rattle.std.proofs.Common.{sym, ap, ◌∙◌, length-take, length-drop, ext_get_or, get_or-take, get_or-drop}
use Rattle.std.proofs.Math.Bool.{true}
use Prim.Native.Nat.{ℕ, zero, suc, ◌+◌, ◌-◌, ◌≤◌, ◌<◌}
use native.Mathlib.Omega.{arith}
use Rattle.std.proofs.Math.Dec.{leb}
use Rattle.std.proofs.Math.ListN.{length}
use borrow.Author.Tests.{le-leb, leb-true}
use Rattle.basics.specs.Bools.{and_put, and_left, and_right}
use Rattle.basics.specs.Steps.{any_from, any_from_get, any_from_put}
use Rattle.spec.specs.Words.{same, stands}
use Rattle.spec.specs.Cut.{lies_from, lies_in, joins_from, joins}
use Rattle.laws.specs.Text.Strings.{same_get, same_put, Stand, stands_get, stands_put}
use Rattle.laws.specs.Search.Agree.{Agree, agree_move}

-- A STRING CONTAINED IN ANOTHER

module _ (a b : List ℕ) where
  lies_at : ℕ → Bool
  lies_at i = same (take (length a) (drop i b)) a

  lies_from_any : (n i : ℕ) → lies_from n i a b ≡ any_from n i lies_at
  unfolding lies_from any_from lies_at
  lies_from_any zero i = refl
  lies_from_any (suc n) i = rw (lies_from_any n (suc i))

  pub lies_in_get : lies_in a b ≡ true → (p : ℕ) × Stand a b p
  unfolding lies_in lies_at stands
  lies_in_get t =
      let at = any_from_get (suc (length b) - length a) 0 lies_at (sym (lies_from_any (suc (length b) - length a) 0) ∙ t) in
      let back : suc at.0 - 1 ≡ at.0 = omega arith in (
        suc at.0,
        stands_get a b (suc at.0)
            (and_put (and_put (le-leb 1 (suc at.0) (omega arith)) (le-leb (suc at.0 + length a) (suc (length b)) (omega arith)))
            (rw back at.3)),
      )

  pub lies_in_put : {p : ℕ} → Stand a b p → lies_in a b ≡ true
  unfolding lies_in lies_at stands
  lies_in_put {p} st =
      lies_from_any (suc (length b) - length a) 0
      ∙ any_from_put (suc (length b) - length a) 0 lies_at (p - 1) (omega arith) (omega arith)
      (and_right (leb 1 p && leb (p + length a) (suc (length b))) (same (take (length a) (drop (p - 1) b)) a) (stands_put a b p st))

-- A SUFFIX OF ONE IS A PREFIX OF THE OTHER

-- the last characters of a, from index d on, are the first of b
pub record Join (a b : List ℕ) (d : ℕ) : Type 0 where
  pub inside : d < length a
  pub room : length a ≤ d + length b
  pub equal : (x : ℕ) → d ≤ x → x < length a → get_or a x 0 ≡ get_or b (x - d) 0

module _ (a b : List ℕ) where
  joins_at : ℕ → Bool
  joins_at i = leb i (length a) && (leb i (length b) && same (drop (length a - i) a) (take i b))

  joins_from_any : (n i : ℕ) → joins_from n i a b ≡ any_from n i joins_at
  unfolding joins_from any_from joins_at
  joins_from_any zero i = refl
  joins_from_any (suc n) i = rw (joins_from_any n (suc i))

  pub joins_get : joins a b ≡ true → (d : ℕ) × Join a b d
  unfolding joins joins_at
  joins_get t =
      let at = any_from_get (length a) 1 joins_at (sym (joins_from_any (length a) 1) ∙ t) in from_test at.0 at.1 at.3
    where
      from_test : (i : ℕ) → 1 ≤ i → joins_at i ≡ true → (d : ℕ) × Join a b d
      from_test i some u = (
        length a - i,
        record {
          inside = omega (arith, i_a);
          room = omega (arith, i_a, i_b);
          equal = λ x lo hi. equal x lo hi;
        },
      )
        where
          i_a : i ≤ length a
          i_a = leb-true i (length a) (and_left (leb i (length a)) (leb i (length b) && same (drop (length a - i) a) (take i b)) u)

          rest : (leb i (length b) && same (drop (length a - i) a) (take i b)) ≡ true
          rest = and_right (leb i (length a)) (leb i (length b) && same (drop (length a - i) a) (take i b)) u

          i_b : i ≤ length b
          i_b = leb-true i (length b) (and_left (leb i (length b)) (same (drop (length a - i) a) (take i b)) rest)

          part : drop (length a - i) a ≡ take i b
          part = same_get (drop (length a - i) a) (take i b) (and_right (leb i (length b)) (same (drop (length a - i) a) (take i b)) rest)

          equal : (x : ℕ) → length a - i ≤ x → x < length a → get_or a x 0 ≡ get_or b (x - (length a - i)) 0
          equal x lo hi =
              let at : (length a - i) + (x - (length a - i)) ≡ x = omega arith in
              let here : x - (length a - i) < i = omega (arith, i_a) in
              ap (λ (j : ℕ). get_or a j 0) (sym at)
              ∙ sym (get_or-drop (length a - i) a (x - (length a - i)) 0)
              ∙ ap (λ (l : List ℕ). get_or l (x - (length a - i)) 0) part
              ∙ get_or-take i b (x - (length a - i)) 0 here

  pub joins_put : {d : ℕ} → Join a b d → joins a b ≡ true
  unfolding joins joins_at
  joins_put {d} h =
      joins_from_any (length a) 1
      ∙ any_from_put (length a) 1 joins_at (length a - d) (omega arith) (omega arith)
      (and_put (le-leb (length a - d) (length a) (omega arith))
      (and_put (le-leb (length a - d) (length b) (omega arith))
      (same_put (drop (length a - (length a - d)) a) (take (length a - d) b) part)))
    where
      back : length a - (length a - d) ≡ d
      back = omega arith

      len : length (drop d a) ≡ length (take (length a - d) b)
      len = simp (length-drop, length-take) (omega arith)

      part : drop (length a - (length a - d)) a ≡ take (length a - d) b
      part =
          rw back
          (ext_get_or 0 (drop d a) (take (length a - d) b) len
          (λ i below.
          let far : i < length a - d = rw (length-drop d a) at below in
          let off : (d + i) - d ≡ i = omega arith in
          get_or-drop d a i 0
          ∙ h.equal (d + i) (omega arith) (omega arith)
          ∙ ap (λ (j : ℕ). get_or b j 0) off
          ∙ sym (get_or-take (length a - d) b i 0 far)))

-- AGREEMENT

module _ {a b : List ℕ} where
  pub stand_agree : {p : ℕ} → 1 ≤ length a → Stand a b p → Agree a p b 1
  stand_agree {p} some st =
      record {
        shared = p;
        string_from = omega arith;
        string_to = omega arith;
        entry_from = st.from;
        entry_to = omega arith;
        equal = λ x lo hi l h. st.equal x lo hi;
      }

  -- a string that agrees, starts no earlier and ends no later is contained in the other
  pub agree_stand : {p q : ℕ} → Agree a p b q → q ≤ p → p + length a ≤ q + length b → Stand a b (suc (p - q))
  agree_stand {p} {q} h lo hi =
      let moved = agree_move (suc (p - q)) 1 (omega arith) h in
      record {
        from = omega arith;
        within = omega arith;
        equal = λ x l u. moved.equal x l u (omega arith) (omega arith);
      }

  pub join_agree : {d : ℕ} → Join a b d → Agree a 0 b d
  join_agree {d} h =
      record {
        shared = d;
        string_from = omega arith;
        string_to = omega arith;
        entry_from = omega arith;
        entry_to = omega arith;
        equal = λ x lo hi l u. let z : x - 0 ≡ x = omega arith in rw z (h.equal x l (omega arith));
      }

  -- a string that agrees, starts no later and ends no later has a suffix that is a prefix of the other
  pub agree_join : {p q : ℕ} → Agree a p b q → p ≤ q → p + length a ≤ q + length b → Join a b (q - p)
  agree_join {p} {q} h lo hi =
      let moved = agree_move 0 (q - p) (omega arith) h in
      record {
        inside = omega arith;
        room = omega arith;
        equal = λ x l u. let z : x - 0 ≡ x = omega arith in rw z at (moved.equal x (omega arith) (omega arith) l (omega arith));
      }
