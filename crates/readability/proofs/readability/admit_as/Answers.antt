-- `admit_as` meets its contract: for each return one law, whose tests the path has passed.
use Rattle.spec.specs.Dictionary.{longest_text}
use Rattle.spec.specs.Gaps.{with_lists}
use Rattle.models.specs.Readability.{read_as}
use mathlib.Core.Path.{sym, ◌∙◌}
use Rattle.laws.specs.Dictionary.Refused.{refused_number}
use Rattle.laws.specs.Readable.IndexRefusal.{refuses_dictionary, refuses_unreadable, accepts_index}
use Rattle.dictionary.specs.Passing.{passed_on}
use Rattle.readability.proofs.readability.admit_as.Goals as goal

pub returns-in_err-dictionary-clause-number : goal.returns-in_err-dictionary-clause-number
returns-in_err-dictionary-clause-number g c =
    let a = c.args in
    let found = c.in_err-dictionary.ensures.number in
    rw (passed_on _ _ c.from_residual.ensures.1)
    (found
    ∙ refuses_dictionary longest_text a.chars.now a.lengths.now (with_lists (read_as g.F.ListForm.as_gaps) a.index.now)
    (refused_number _ found))

pub returns-then-not-readable-clause-number : goal.returns-then-not-readable-clause-number
returns-then-not-readable-clause-number g c =
    let a = c.args in
    let lent = c.in_ok-dictionary.ensures.lent in
    refuses_unreadable longest_text a.chars.now a.lengths.now (with_lists (read_as g.F.ListForm.as_gaps) a.index.now)
    (sym c.in_ok-dictionary.ensures.number)
    (rw (lent.0, lent.1) at (sym c.readable.ensures ∙ c.if-not-readable.true))

pub returns-clause-number : goal.returns-clause-number
returns-clause-number g c =
    let a = c.args in
    let lent = c.in_ok-dictionary.ensures.lent in
    accepts_index longest_text a.chars.now a.lengths.now (with_lists (read_as g.F.ListForm.as_gaps) a.index.now)
    (sym c.in_ok-dictionary.ensures.number)
    (rw (lent.0, lent.1) at (sym c.readable.ensures ∙ c.if-not-readable.false))
