-- The front of a slice, to which a replaced text is written: elements of any type that a character converts to. Assumes nothing.
use Rattle.std.specs.Prelude.{◌≡◌, refl, List, ◌++◌, ℕ, ◌+◌, ◌-◌, ◌≤◌, ◌<◌, length, get_or, drop, set}
use Rattle.std.proofs.Common.{sym, ap, ◌∙◌, arith, ⊎_elim, ext_get_or, get_or-drop, get_or-set_same, get_or-set_other, length-append}
use Rattle.std.proofs.Common.{length-drop}
use Rattle.std.proofs.lemmas.List.{get_or-append_right, get_or_append_left}
use Rattle.std.proofs.lemmas.Bool.{cases_eq, cases_lt}
use Rattle.spec.specs.Replaced.{replaced_char, replaced}
use Rattle.spec.specs.Calls.{in_front}
use Rattle.laws.specs.Text.WidthFolding.{length_replaced, getD_replaced}

-- the first i characters of a text are converted, replaced, and the rest of the slice is as before
pub record Front {X : Type 0} (gives : ℕ → X → Type 0) (text : List ℕ) (old new : List X) (i : ℕ) : Type 0 where
  pub front : (k : ℕ) (d : X) → k < i → gives (replaced_char (get_or text k 0)) (get_or new k d)
  pub rest : (k : ℕ) (d : X) → i ≤ k → get_or new k d ≡ get_or old k d

module _ {X : Type 0} {gives : ℕ → X → Type 0} (text : List ℕ) (old : List X) where
  pub front_start : Front gives text old old 0
  front_start = record { front = λ k d h. absurd (omega arith); rest = λ k d h. refl }

  pub front_step :
      (new : List X) (i : ℕ) (x : X) → Front gives text old new i → i < length new → gives (replaced_char (get_or text i 0)) x →
      Front gives text old (set new i x) (i + 1)
  front_step new i x h room this =
      record {
        front =
            λ k d below.
            ⊎_elim
            (λ (e : k ≡ i). rw (e, get_or-set_same new i x d room) this)
            (λ (other : k ≡ i → ⊥). rw (get_or-set_other new i k x d other) (h.front k d (omega (arith, other))))
            (cases_eq k i);
        rest = λ k d past. get_or-set_other new i k x d (λ (e : k ≡ i). omega arith) ∙ h.rest k d (omega arith);
      }

-- converted to numbers of the same value
pub front_numbers :
    (text old new : List ℕ) → length text ≤ length old → length new ≡ length old →
    Front (λ x y. y ≡ x) text old new (length text) → new ≡ in_front (replaced text) old
unfolding in_front
front_numbers text old new room len h =
    ext_get_or 0 new (replaced text ++ drop (length (replaced text)) old)
    (simp (length-append, length-drop, length_replaced) (omega arith))
    (λ k below.
    ⊎_elim
    (λ (p : k < length text).
    h.front k 0 p
    ∙ sym (getD_replaced text k)
    ∙ sym (get_or_append_left (replaced text) (drop (length (replaced text)) old) 0 k (omega (arith, length_replaced text))))
    (λ (q : length text ≤ k).
    let at : length (replaced text) + (k - length (replaced text)) ≡ k = omega (arith, length_replaced text) in
    h.rest k 0 q
    ∙ sym
    (get_or-append_right (replaced text) (drop (length (replaced text)) old) (length (replaced text)) k 0 refl
    (omega (arith, length_replaced text))
    ∙ get_or-drop (length (replaced text)) old (k - length (replaced text)) 0
    ∙ ap (λ (n : ℕ). get_or old n 0) at))
    (cases_lt k (length text)))
