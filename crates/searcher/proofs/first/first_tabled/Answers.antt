-- `first_tabled` meets its contract: the starts are all those at which the string fits, and the string is the replaced one.
use Rattle.laws.specs.First.Found.{first_in_all}
use Rattle.searcher.proofs.first.first_tabled.Goals as goal

pub returns-clause-position : goal.returns-clause-position
returns-clause-position c =
    let starts = c.new-starts.ensures in
    rw (starts.0, starts.1, c.replaced_string-own.ensures) at (first_in_all c.new-starts.result.counted c.first_of_starts.ensures.is)
