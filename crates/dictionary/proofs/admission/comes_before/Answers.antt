-- `comes_before` meets its contract: the order of words is the library's order of slices.
use Rattle.std.specs.Prelude.{◌≡◌, refl, ℕ, List}
use mathlib.Core.Path.{◌∙◌}
use native.Mathlib.Omega.{arith}
use Rattle.std.specs.Ordering.{is_lt, nat_cmp}
use Rattle.std.specs.declared.cmp.Ordering.{Ordering}
use Rattle.std.specs.Cmp.Lexicographic.{slice_cmp}
use Rattle.std.proofs.lemmas.Cmp.{same_from_slice_cmp}
use Rattle.std.proofs.lemmas.Bool.Decides.{nat_tests}
use Rattle.spec.specs.Dictionary.{word_before}
use Rattle.dictionary.proofs.admission.comes_before.Goals as goal

is_word_before : (w v : List ℕ) (o : Ordering) → o ≡ slice_cmp nat_cmp w v → is_lt o ≡ word_before w v
unfolding word_before
is_word_before =
    same_from_slice_cmp nat_cmp is_lt word_before refl (λ _ _. refl) (λ _ _. refl) (λ x y xs ys o h. grind (arith, nat_tests))

pub returns : goal.returns
returns c = c.is_lt.ensures ∙ is_word_before _ _ _ c.cmp.ensures
