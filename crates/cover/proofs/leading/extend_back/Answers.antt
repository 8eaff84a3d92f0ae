use Rattle.cover.specs.Queries.{query_searches}
use Rattle.cover.specs.Windows.{same_on}
use Rattle.laws.specs.Window.Extending.{backing_step, backing_pass, backing_end}
use Rattle.laws.specs.Window.Searches.{word_short, word_list_rises, word_leading}
use Rattle.cover.proofs.leading.extend_back.Goals as goal
use Rattle.cover.proofs.leading.extend_back.Goals.{then-character-query, else-character-query}

pub extend_key-requires-clause-short : goal.extend_key-requires-clause-short
extend_key-requires-clause-short c =
    let h = query_searches c.args.query.now c.requires.is_window.first_small in
    word_short h c.requires.below c.word-key.ensures

pub extend_key-requires-clause-ascending : goal.extend_key-requires-clause-ascending
extend_key-requires-clause-ascending c =
    let h = query_searches c.args.query.now c.requires.is_window.first_small in
    word_list_rises h c.requires.below c.word-key.ensures c.positions-positions.ensures

pub loop-at-preserved : goal.loop-at-preserved
loop-at-preserved c =
    let l = c.loop-at in
    let same = l.invariant.same in
    elim c.if-character-query.branch [
      | then-character-query w ↦ rw w.window-is
          (let done = w.extend_key.ensures in
          record {
            way = backing_step l.invariant.way c.loop-at-test.true done.same.2 (rw same.0 at done.extended);
            same = same_on c.args.window.now l.window w.extend_key.new.self same done.same;
          })
      | else-character-query w ↦ rw w.window-is
          (record { way = backing_pass l.invariant.way c.loop-at-test.true w.if-character-query.false; same = same })
    ]

pub returns-clause-extended : goal.returns-clause-extended
returns-clause-extended c =
    let h = query_searches c.args.query.now c.requires.is_window.first_small in
    word_leading h c.requires.below c.word-key.ensures c.positions-positions.ensures c.args.window.now.reach.now
    (backing_end c.loop-at.invariant.way c.loop-at-test.false)
