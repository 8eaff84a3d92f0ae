-- `ends_well` meets its contract: what follows the last piece of five bytes is `)`, and every piece is a space and four digits.
use Rattle.std.proofs.Common.{◌≡◌, ap, sym, ◌∙◌, rules, tests}
use Rattle.std.specs.List.{list_all}
use Rattle.std.proofs.lemmas.Bool.Decides.{Decides-eqb}
use Rattle.std.proofs.lemmas.Slice.Eq.{slice_eq-Decides}
use Rattle.std.proofs.lemmas.Iterator.Search.{all_from_yields_List}
use Rattle.models.specs.JobSheet.{spaced_at}
use Rattle.jobreader.proofs.Fives.{rest_of, fives_of, fives_yielded, ends_closed, ends_open}
use Rattle.jobreader.proofs.form.ends_well.Goals as goal

pub returns-then-eq : goal.returns-then-eq
returns-then-eq c =
    let all = all_from_yields_List (λ x. spaced_at x 0) _ _ c.all.result c.all.ensures.ran
    (fives_yielded _ cc) (λ x b q k. search (rules, tests)) in
    let closing = slice_eq-Decides Decides-eqb _ _ _ (rw c.as_slice.ensures at c.eq.ensures) in
    let rest : c.remainder.result.now ≡ rest_of c.args.rest.now = c.remainder.ensures ∙ c.chunks_exact-fives.ensures.remainder in
    all
    ∙ ap (λ l. list_all (λ x. spaced_at x 0) (fives_of l)) c.chunks_exact-fives.ensures.rest
    ∙ sym (ends_closed c.args.rest.now (sym rest ∙ closing.0 c.if-eq.true))

pub returns-else-eq : goal.returns-else-eq
returns-else-eq c =
    let closing = slice_eq-Decides Decides-eqb _ _ _ (rw c.as_slice.ensures at c.eq.ensures) in
    let rest : c.remainder.result.now ≡ rest_of c.args.rest.now = c.remainder.ensures ∙ c.chunks_exact-fives.ensures.remainder in
    c.if-eq.false
    ∙ sym (ends_open c.args.rest.now (λ e. let t = closing.1 (rest ∙ e) in cc))
