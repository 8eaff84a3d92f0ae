-- `is_form` meets its contract: the line begins with another head, or its end decides.
use Rattle.std.proofs.Common.{◌≡◌, List, [], ◌∷◌, ℕ, ◌-◌, eqb, nat_eq, length, drop, refl, ap, sym, ◌∙◌, arith}
use Rattle.std.specs.Cmp.Lexicographic.{pointwise}
use Rattle.std.proofs.Math.Seq.{take_all}
use Rattle.spec.specs.JobSheet.{ends_well}
use Rattle.std.proofs.Common.{length-drop}
use Rattle.std.proofs.lemmas.Bool.Decides.{nat_tests}
use Rattle.spec.specs.Words.{same}
use Rattle.laws.specs.JobSheet.FormReading.{form_other, form_headed}
use Rattle.jobreader.proofs.form.is_form.Goals as goal

eqb_sym : (x y : ℕ) → eqb x y ≡ eqb y x
eqb_sym x y = grind (arith, nat_tests)

-- the order of the two sides does not matter
same_is : (a b : List ℕ) → pointwise nat_eq b a ≡ same a b
unfolding same
same_is [] [] = refl
same_is [] (y ∷ ys) = refl
same_is (x ∷ xs) [] = refl
same_is (x ∷ xs) (y ∷ ys) = rw (eqb_sym y x, same_is xs ys) refl

pub returns-then-starts_with : goal.returns-then-starts_with
returns-then-starts_with c =
    let l = c.args.line.now in
    c.ends_well.ensures
    ∙ ap ends_well (take_all (length l - 5) (drop 5 l) (omega (arith, length-drop 5 l)))
    ∙ sym (form_headed l c.args.head.now c.requires (sym (same_is _ _) ∙ sym c.starts_with.ensures.value ∙ c.if-starts_with.true))

pub returns-else-starts_with : goal.returns-else-starts_with
returns-else-starts_with c =
    c.if-starts_with.false
    ∙ sym (form_other c.args.line.now c.args.head.now c.requires
    (sym (same_is _ _) ∙ sym c.starts_with.ensures.value ∙ c.if-starts_with.false))
