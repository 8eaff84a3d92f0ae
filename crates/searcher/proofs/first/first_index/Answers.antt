-- `first_index` meets its contract: the call is refused, or the index, which is readable, is searched.
use Rattle.std.proofs.Common.{refl, arith, rules, unwrap_or, ◌≡◌, ◌≤◌, ◌+◌}
use Rattle.std.proofs.Math.Path.{sym, ◌∙◌}
use Rattle.spec.specs.Replaced.{replaced}
use Rattle.spec.specs.Dictionary.{longest_text, lexicon}
use Rattle.laws.specs.Dictionary.Refused.{refused_some}
use Rattle.laws.specs.Readable.IndexRefusal.{accepted_length}
use Rattle.laws.specs.First.Found.{first_position_small}
use Rattle.laws.specs.First.Answers.{first_refused, first_says}
use Rattle.dictionary.specs.Passing.{passed_on}
use Rattle.directory.specs.Opening.{index_refused, string_tested, string_is}
use Rattle.searcher.proofs.first.first_index.Goals as goal

pub returns-in_err-opened-clause-says : goal.returns-in_err-opened-clause-says
returns-in_err-opened-clause-says c =
    let e = c.in_err-opened.field-0.0 in
    let is = index_refused _ _ _ _ c.args.string.now e c.in_err-opened.ensures.number in
    rw (passed_on _ e c.from_residual.ensures.1)
    (first_refused _ _ _ _ _ (λ none. refused_some e (is ∙ none)) (record { number = is; at = refl }))

pub returns-in_err-check_string-clause-says : goal.returns-in_err-check_string-clause-says
returns-in_err-check_string-clause-says c =
    let e = c.in_err-check_string.field-0.0 in
    let is = string_tested _ _ _ _ c.args.string.now c.in_ok-opened.ensures.number c.in_err-check_string.ensures in
    rw (passed_on _ e c.from_residual-in_err-check_string.ensures.1)
    (first_refused _ _ _ _ _ (λ none. refused_some e (is ∙ none)) (record { number = is; at = refl }))

pub first_lines-requires : goal.first_lines-requires
first_lines-requires c =
    string_is _ _ _ _ c.args.string.now c.in_ok-opened.ensures.number c.in_ok-check_string.ensures

pub map-requires : goal.map-requires
map-requires c =
    let a = c.args in
    let lent = c.in_ok-opened.ensures.lent in
    let directory = c.directory_of-directory.ensures in
    let found = rw (directory.0, directory.1, lent.0, lent.1, lent.2) at c.first_lines.ensures.position in
    let small : unwrap_or c.first_lines.result 0 ≤ longest_text + 2 =
    omega (
      arith,
      found,
      first_position_small (lexicon a.chars.now a.lengths.now) a.index.now (replaced a.string.now),
      accepted_length longest_text a.chars.now a.lengths.now a.index.now (sym c.in_ok-opened.ensures.number),
    ) in
    search (rules, small)

pub returns-clause-says : goal.returns-clause-says
returns-clause-says c =
    let lent = c.in_ok-opened.ensures.lent in
    let directory = c.directory_of-directory.ensures in
    let is = string_tested _ _ _ _ c.args.string.now c.in_ok-opened.ensures.number c.in_ok-check_string.ensures in
    let found = rw (directory.0, directory.1, lent.0, lent.1, lent.2) at c.first_lines.ensures.position in
    let same : unwrap_or c.map.result 0 ≡ unwrap_or c.first_lines.result 0 = search rules in
    first_says _ _ _ _ _ (sym is) (record { number = is; at = same ∙ found })
