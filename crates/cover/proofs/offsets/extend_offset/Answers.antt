-- `extend_offset` meets its contract: the lines of words, then those of lone characters.
use Rattle.laws.specs.Window.Searches.{offset_both}
use Rattle.cover.specs.Queries.{query_searches}
use Rattle.cover.proofs.offsets.extend_offset.Goals as goal

pub returns-clause-extended : goal.returns-clause-extended
returns-clause-extended c =
    let words = c.extend_words.ensures in
    offset_both (query_searches c.args.query.now c.requires.is_window.first_small) c.args.window.now.reach.now c.args.key_start
    words.extended (rw words.same.0 at c.extend_lone.ensures.extended)
