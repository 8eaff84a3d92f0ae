-- `extend_line` meets its contract: a word that agrees extends the reach at each of its positions.
use Rattle.std.proofs.Common.{ℕ, List, arith}
use Rattle.std.proofs.Common.{ap, ◌∙◌}
use Rattle.spec.specs.Search.{agrees}
use Rattle.laws.specs.Window.Window.{reaches_by}
use Rattle.laws.specs.Window.WindowSearch.{key_agrees}
use Rattle.laws.specs.Window.Searches.{word_short, word_list_rises, word_offset}
use Rattle.cover.specs.Queries.{query_searches}
use Rattle.cover.proofs.lines.extend_line.Goals as goal

pub invariant_of-placement : goal.invariant_of-placement
invariant_of-placement c =
    let h = query_searches c.args.query.now c.requires.is_window.first_small in
    record { shared = omega arith; end_small = omega (arith, word_short h c.requires.below c.word-word.ensures, h.string.short) }

pub extend_at_positions-requires-clause-ascending : goal.extend_at_positions-requires-clause-ascending
extend_at_positions-requires-clause-ascending c =
    let h = query_searches c.args.query.now c.requires.is_window.first_small in
    word_list_rises h c.requires.below c.word-word.ensures c.positions-positions.ensures

pub returns-clause-extended : goal.returns-clause-extended
returns-clause-extended c =
    let a = c.args in
    let h = query_searches c.args.query.now c.requires.is_window.first_small in
    let key = c.word-word.ensures in
    word_offset h c.requires.below key c.positions-positions.ensures a.window.now.reach.now a.key_start
    (reaches_by
    (key_agrees 0 a.key_start a.query.now.string.now c.word-word.result.now a.window.now.first c.positions-positions.result.now
    a.window.now.reach.now (ap (λ (k : List ℕ). agrees a.query.now.string.now 0 k a.key_start) key ∙ c.requires.agrees))
    c.extend_at_positions.ensures.extended)
