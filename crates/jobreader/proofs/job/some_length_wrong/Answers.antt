-- `some_length_wrong` meets its contract: its test is that of the definition.
use Rattle.std.proofs.Common.{◌≡◌, refl, ap, ◌∙◌, List, [], ◌∷◌, ℕ, Bool, ◌||◌, eqb, ltb, rules, tests}
use Rattle.std.specs.List.{list_any}
use Rattle.std.proofs.lemmas.Iterator.{YieldsList-from_slice}
use Rattle.std.proofs.lemmas.Iterator.Search.{any_from_yields_List}
use Rattle.models.specs.JobSheet.{some_length_wrong}
use Rattle.jobreader.proofs.job.some_length_wrong.Goals as goal

any_is : (ls : List ℕ) → list_any (λ l. eqb l 0 || ltb 256 l) ls ≡ some_length_wrong ls
unfolding some_length_wrong
any_is [] = refl
any_is (l ∷ ls) = ap (λ (b : Bool). (eqb l 0 || ltb 256 l) || b) (any_is ls)

pub returns : goal.returns
returns c =
    any_from_yields_List (λ l. eqb l 0 || ltb 256 l) _ _ c.any.result c.any.ensures.ran
    (YieldsList-from_slice c.args.lengths.now c.iter.ensures.rest) (λ x b q k. search (rules, tests))
    ∙ any_is c.args.lengths.now
