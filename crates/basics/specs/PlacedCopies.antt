-- Writing a list element by element: what is left of it from i on. Assumes nothing.
use Rattle.std.specs.Prelude.{◌≡◌, List, ◌∷◌, ℕ, ◌+◌, ◌≤◌, ◌<◌, length, get_or, drop, set}
use Rattle.std.proofs.Common.{add-one, arith, length-drop, drop_of_length-le, drop-cons}
use Rattle.basics.specs.Placed.{Wrote, Writing, writing_as, writing_one, writing_end}

pub drop_next : (xs : List ℕ) (i : ℕ) → i < length xs → drop i xs ≡ get_or xs i 0 ∷ drop (i + 1) xs
drop_next xs i h = rw (add-one, drop-cons xs i 0)

module _ {all : List ℕ} {start : ℕ} {old : List ℕ} {at : ℕ} {now : List ℕ} (xs : List ℕ) (i : ℕ) where
  pub copy_room : Writing all start old (drop i xs) at now → i < length xs → at < length now
  copy_room w h = omega (arith, length-drop i xs)

  pub copy_step :
      Writing all start old (drop i xs) at now → i < length xs →
      Writing all start old (drop (i + 1) xs) (at + 1) (set now at (get_or xs i 0))
  copy_step w h = writing_one (get_or xs i 0) (drop (i + 1) xs) (writing_as (drop_next xs i h) w)

  pub copy_end : Writing all start old (drop i xs) at now → length xs ≤ i → Wrote all start old at now
  copy_end w h = writing_end (writing_as (drop_of_length-le xs h) w)
