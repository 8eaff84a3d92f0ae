-- `first_in_window` meets its contract: none is found where no start reaches the string's end, else the first
-- that does is.
use Rattle.std.proofs.Common.{length, rules}
use Rattle.laws.specs.First.Found.{first_in_none, first_in_window}
use Rattle.finding.proofs.window.first_in_window.Goals as goal

pub returns-then-extend_window-query : goal.returns-then-extend_window-query
returns-then-extend_window-query c = record {
  is = first_in_none (length c.args.reach.now) c.requires.cleared c.extend_window.ensures c.if-extend_window-query.true;
  onward = search rules;
}

pub returns : goal.returns
returns c = record {
  is = first_in_window (length c.args.reach.now) c.requires.cleared c.extend_window.ensures c.first_found.ensures.is;
  onward = c.first_found.ensures.onward;
}
