-- Writing into a slice from an index on: the content afterwards, and a run of writes one after the other. Assumes nothing.
use Rattle.std.specs.Prelude.{◌≡◌, refl, List, [], ◌∷◌, ◌++◌, ℕ, ◌+◌, ◌≤◌, ◌<◌, length, take, drop, set}
use Rattle.std.proofs.Common.{sym, ap, ◌∙◌, append_assoc, add-zero, add_assoc, add-one}
use Rattle.std.proofs.Common.{arith, length-append, length-drop, take-append-drop, length-take-le, take_at, drop-drop}
use Rattle.std.proofs.Math.Seq.{drop-append-add}
use Rattle.std.proofs.lemmas.List.{set_split}

-- PLACED

-- a slice's content with other content at an index, and the rest unchanged
unfoldable pub placed : (new : List ℕ) → (at : ℕ) → (old : List ℕ) → List ℕ
placed ys at xs = take at xs ++ (ys ++ drop (at + length ys) xs)

pub placed_none : (at : ℕ) (xs : List ℕ) → placed [] at xs ≡ xs
unfolding placed
placed_none at xs = rw (add-zero at) (take-append-drop at xs)

pub placed_one : (b at : ℕ) (xs : List ℕ) → at < length xs → set xs at b ≡ placed (b ∷ []) at xs
unfolding placed
placed_one b at xs h = rw (add-one at) (set_split xs at b h)

pub length_placed : (ys : List ℕ) (at : ℕ) (xs : List ℕ) → at + length ys ≤ length xs → length (placed ys at xs) ≡ length xs
unfolding placed
length_placed ys at xs h =
    let front : length (take at xs) ≡ at = length-take-le at xs (omega arith) in
    simp (length-append, length-drop) (omega arith)

pub placed_append :
    (ys zs : List ℕ) (at : ℕ) (xs : List ℕ) → at + length ys ≤ length xs →
    placed zs (at + length ys) (placed ys at xs) ≡ placed (ys ++ zs) at xs
unfolding placed
placed_append ys zs at xs h =
    let front : length (take at xs ++ ys) ≡ at + length ys =
    length-append (take at xs) ys ∙ ap (λ (n : ℕ). n + length ys) (length-take-le at xs (omega arith)) in
    let whole : take at xs ++ (ys ++ drop (at + length ys) xs) ≡ (take at xs ++ ys) ++ drop (at + length ys) xs =
    sym (append_assoc (take at xs) ys (drop (at + length ys) xs)) in
    let kept : take (at + length ys) ((take at xs ++ ys) ++ drop (at + length ys) xs) ≡ take at xs ++ ys =
    take_at (take at xs ++ ys) (drop (at + length ys) xs) (at + length ys) front in
    let rest : drop (at + length ys + length zs) ((take at xs ++ ys) ++ drop (at + length ys) xs) ≡ drop (at + (length ys + length zs)) xs =
    ap (λ (n : ℕ). drop (n + length zs) ((take at xs ++ ys) ++ drop (at + length ys) xs)) (sym front)
    ∙ drop-append-add (take at xs ++ ys) (drop (at + length ys) xs) (length zs)
    ∙ drop-drop (length zs) (at + length ys) xs
    ∙ ap (λ (n : ℕ). drop n xs) (add_assoc at (length ys) (length zs)) in
    rw (
      whole,
      kept,
      rest,
      length-append ys zs,
      append_assoc (take at xs) ys (zs ++ drop (at + (length ys + length zs)) xs),
      append_assoc ys zs (drop (at + (length ys + length zs)) xs),
    )

-- what a writer answers: the index after what it wrote, and the slice's content
pub record Wrote (new : List ℕ) (at : ℕ) (old : List ℕ) (end : ℕ) (now : List ℕ) : Type 0 where
  pub ends : end ≡ at + length new
  pub content : now ≡ placed new at old

pub wrote_one : (b at : ℕ) (old : List ℕ) → at < length old → Wrote (b ∷ []) at old (at + 1) (set old at b)
wrote_one b at old h = record { ends = refl; content = placed_one b at old h }

-- what was written to the start of a slice is there
pub wrote_taken : {new old now : List ℕ} {end : ℕ} → Wrote new 0 old end now → take end now ≡ new
unfolding placed
wrote_taken {new} {old} {end} w = rw w.content (take_at new (drop (0 + length new) old) end (omega arith))

-- A RUN OF WRITES

-- `all` is to be written from `start` on: `left` is still to be written, from `at` on, and `now` is the slice so far
pub record Writing (all : List ℕ) (start : ℕ) (old left : List ℕ) (at : ℕ) (now : List ℕ) : Type 0 where
  pub same_end : at + length left ≡ start + length all
  pub room : at + length left ≤ length now
  pub len : length now ≡ length old
  pub same_content : placed left at now ≡ placed all start old

pub writing_start : (all : List ℕ) (start : ℕ) (old : List ℕ) → start + length all ≤ length old → Writing all start old all start old
writing_start all start old h = record { same_end = refl; room = h; len = refl; same_content = refl }

module _ {all : List ℕ} {start : ℕ} {old : List ℕ} where
  pub writing_room :
      {at : ℕ} {now : List ℕ} (new left : List ℕ) → Writing all start old (new ++ left) at now → at + length new ≤ length now
  writing_room new left h = omega (arith, length-append new left)

  pub writing_step :
      {at end : ℕ} {now then : List ℕ} (new left : List ℕ) → Writing all start old (new ++ left) at now → Wrote new at now end then →
      Writing all start old left end then
  writing_step {at} {end} {now} {then} new left h w =
      let fits : at + length new ≤ length now = writing_room new left h in
      let kept : length (placed new at now) ≡ length now = length_placed new at now fits in
      let next : Writing all start old left (at + length new) (placed new at now) =
      record {
        same_end = omega (arith, length-append new left);
        room = omega (arith, length-append new left);
        len = kept ∙ h.len;
        same_content = placed_append new left at now fits ∙ h.same_content;
      } in
      rw (w.ends, w.content) next

  -- the same record, with what is left written as another list
  pub writing_as :
      {at : ℕ} {now left other : List ℕ} → left ≡ other → Writing all start old left at now → Writing all start old other at now
  writing_as e h = rw e at h

  pub writing_end : {at : ℕ} {now : List ℕ} → Writing all start old [] at now → Wrote all start old at now
  writing_end {at} {now} h = record { ends = omega arith; content = sym (placed_none at now) ∙ h.same_content }

  -- one element of a run, stored
  pub writing_one :
      {at : ℕ} {now : List ℕ} (b : ℕ) (left : List ℕ) → Writing all start old (b ∷ left) at now →
      Writing all start old left (at + 1) (set now at b)
  writing_one {at} {now} b left h = writing_step (b ∷ []) left h (wrote_one b at now (omega arith))

  -- the last write of a run
  pub writing_last :
      {at end : ℕ} {now then : List ℕ} (new : List ℕ) → Writing all start old new at now → Wrote new at now end then →
      Wrote all start old end then
  writing_last new h w =
      record { ends = w.ends ∙ h.same_end; content = w.content ∙ h.same_content }
