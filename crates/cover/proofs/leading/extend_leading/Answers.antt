use Rattle.cover.specs.Queries.{query_searches}
use Rattle.cover.specs.Windows.{same_on}
use Rattle.dictionary.specs.Words.{lexicon_of}
use Rattle.laws.specs.Window.LeadingLines.{listed_step, listed_end, leading_below, leading_reaches}
use Rattle.laws.specs.Window.Searches.{leading_both}
use Rattle.cover.proofs.leading.extend_leading.Goals as goal

pub extend_back-requires-clause-below : goal.extend_back-requires-clause-below
extend_back-requires-clause-below c =
    let q = c.args.query.now in
    leading_below 0 (lexicon_of q.postings.directory.words) q.postings.directory.index.now q.string.now q.word_lines q.listed _
    c.loop-line-test.true

pub loop-line-preserved : goal.loop-line-preserved
loop-line-preserved c =
    let l = c.loop-line in
    let done = c.extend_back.ensures in
    record {
      way = listed_step l.invariant.way c.loop-line-test.true done.same.2 (rw l.invariant.same.0 at done.extended);
      same = same_on c.args.window.now l.window c.extend_back.new.window l.invariant.same done.same;
    }

pub returns-clause-extended : goal.returns-clause-extended
returns-clause-extended c =
    let a = c.args in
    let q = a.query.now in
    leading_both (query_searches q c.requires.first_small) a.window.now.reach.now
    (leading_reaches (lexicon_of q.postings.directory.words) q.postings.directory.index.now q.string.now a.window.now.first q.word_lines
    a.window.now.reach.now q.listed (listed_end c.loop-line.invariant.way c.loop-line-test.false))
    (rw c.loop-line.invariant.same.0 at c.extend_lone.ensures.extended)
