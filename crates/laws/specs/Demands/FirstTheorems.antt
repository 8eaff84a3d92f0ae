-- The statements of `spec`'s FirstTheorems, proved. Assumes nothing.
use Rattle.std.specs.Prelude.{◌≡◌, refl, true, List, ℕ, ◌+◌, ◌-◌, length}
use Rattle.std.proofs.Common.{sym, ◌∙◌}
use Rattle.spec.specs.Dictionary.{Lexicon}
use Rattle.spec.specs.Index.{readable}
use Rattle.spec.specs.First.{first_position, index_to}
use Rattle.spec.specs.FirstTheorems.{FirstHeads, KeptTo, IndexTo, FirstLocal, FirstKept}
use Rattle.laws.specs.Readable.IndexOf.{under_unique}
use Rattle.laws.specs.First.Positions.{first_heads_find, first_there}
use Rattle.laws.specs.First.IndexTo.{n_of_index_to, index_to_only, index_to_all, index_to_readable, index_to_same}

pub first_heads : FirstHeads
unfolding FirstHeads
first_heads = first_heads_find

-- THE INDEX UP TO A POSITION

module _ (g : ℕ) (lex : Lexicon) (xs : List ℕ) (q : ℕ) (can : readable g lex xs ≡ true) where
  kept_to : KeptTo g lex q xs (index_to q xs)
  kept_to =
      record {
        can_read = index_to_readable q xs g lex can;
        n_is = n_of_index_to q xs;
        only = index_to_only q xs;
        all = index_to_all q xs;
      }

  kept_only : (ys : List ℕ) → KeptTo g lex q xs ys → ys ≡ index_to q xs
  kept_only ys kept =
      under_unique g lex ys (index_to q xs) kept.can_read kept_to.can_read (kept.n_is ∙ sym kept_to.n_is)
      (λ k b. (
        λ u. let h = kept.only k b u in kept_to.all k b h.0 h.1,
        λ u. let h = kept_to.only k b u in kept.all k b h.0 h.1,
      ))

pub index_to_holds : (g : ℕ) → IndexTo g
unfolding IndexTo
index_to_holds g lex xs q can = (kept_to g lex xs q can, kept_only g lex xs q can)

-- WHERE A READER MAY STOP

pub first_local : FirstLocal
unfolding FirstLocal
first_local lex xs ys s some same = first_there lex xs ys s (first_position lex xs s) some same refl

pub first_kept : (g : ℕ) → FirstKept g
unfolding FirstKept FirstLocal
first_kept g lex xs s can some =
    let q = first_position lex xs s + length s - 1 in
    (index_to_readable q xs g lex can, first_local lex xs (index_to q xs) s some (index_to_same q xs))
