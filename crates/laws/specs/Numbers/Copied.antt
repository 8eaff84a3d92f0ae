-- A part of a slice, written by one call of the library: `out[at..at + n].copy_from_slice(new)`. Assumes nothing.
use Rattle.std.specs.Prelude.{◌≡◌, List, ℕ, length}
use Rattle.std.proofs.Common.{drop-drop}
use borrow.Rule.Slice.PartMut.{put_mid}
use Rattle.basics.specs.Placed.{placed}

-- the part of k numbers from `at` on is `part` now, which is `new`
pub copied : (at k : ℕ) (old new part : List ℕ) → part ≡ new → k ≡ length new → put_mid at k old part ≡ placed new at old
unfolding placed
copied at k old new part e fits = rw (e, fits, drop-drop (length new) at old)
