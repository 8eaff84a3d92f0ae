-- `search_index` meets its contract: the call is refused, or the index, which is readable, is searched.
use Rattle.std.proofs.Math.Path.{sym}
use Rattle.laws.specs.Dictionary.Refused.{refused_some}
use Rattle.laws.specs.Window.Searching.{search_refused, search_says}
use Rattle.dictionary.specs.Passing.{passed_on}
use Rattle.directory.specs.Opening.{index_refused, string_tested, string_is}
use Rattle.searcher.proofs.search.search_index.Goals as goal

pub returns-in_err-opened : goal.returns-in_err-opened
returns-in_err-opened c =
    let e = c.in_err-opened.field-0.0 in
    rw (passed_on _ e c.from_residual.ensures.1)
    (search_refused _ _ _ _ _ _ (index_refused _ _ _ _ c.args.string.now e c.in_err-opened.ensures.number) (refused_some e))

pub returns-in_err-check_string : goal.returns-in_err-check_string
returns-in_err-check_string c =
    let e = c.in_err-check_string.field-0.0 in
    rw (passed_on _ e c.from_residual-in_err-check_string.ensures.1)
    (search_refused _ _ _ _ _ _ (string_tested _ _ _ _ c.args.string.now c.in_ok-opened.ensures.number c.in_err-check_string.ensures)
    (refused_some e))

pub search_lines-requires : goal.search_lines-requires
search_lines-requires c =
    string_is _ _ _ _ c.args.string.now c.in_ok-opened.ensures.number c.in_ok-check_string.ensures

pub returns : goal.returns
returns c =
    let lent = c.in_ok-opened.ensures.lent in
    let directory = c.directory_of-directory.ensures in
    let none = sym (string_tested _ _ _ _ c.args.string.now c.in_ok-opened.ensures.number c.in_ok-check_string.ensures) in
    search_says _ _ _ _ _ none (rw (directory.0, directory.1, lent.0, lent.1, lent.2) at c.search_lines.ensures)
