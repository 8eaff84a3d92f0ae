-- `extend_lone` meets its contract: the character has one line, or none.
use Rattle.std.proofs.Common.{arith}
use Rattle.laws.specs.Window.LineRanges.{lone_rise}
use Rattle.laws.specs.Window.Searches.{lone_found, lone_none}
use Rattle.laws.specs.Window.ListRange.{listed_rise}
use Rattle.directory.specs.Directory.{directory_reads}
use Rattle.cover.specs.Queries.{query_searches}
use Rattle.cover.proofs.lines.extend_lone.Goals as goal

pub lone_line-requires : goal.lone_line-requires
lone_line-requires c =
    let can = (directory_reads c.args.query.now.postings.directory).can in
    (can.fits, lone_rise can c.args.query.now.split)

pub returns-in_default-clause-extended : goal.returns-in_default-clause-extended
returns-in_default-clause-extended c =
    let window = c.requires.is_window in
    let none = rw c.in_default.is at c.lone_line.ensures.line in
    lone_none (query_searches c.args.query.now window.first_small) c.args.key_start none c.args.window.now.reach.now (omega arith)
    window.within

pub extend_at_positions-requires-clause-ascending : goal.extend_at_positions-requires-clause-ascending
extend_at_positions-requires-clause-ascending c =
    let can = (directory_reads c.args.query.now.postings.directory).can in
    listed_rise can c.in-Some.line (rw c.in-Some.is at c.lone_line.ensures.below) c.positions-positions.result.now
    c.positions-positions.ensures

pub returns-clause-extended : goal.returns-clause-extended
returns-clause-extended c =
    let a = c.args in
    lone_found (query_searches a.query.now c.requires.is_window.first_small) a.key_start
    (rw c.in-Some.is at c.lone_line.ensures.line) a.window.now.reach.now (rw c.in-Some.is at c.lone_line.ensures.below)
    c.requires.inside c.positions-positions.ensures c.extend_at_positions.ensures.extended
