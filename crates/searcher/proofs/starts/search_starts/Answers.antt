-- `search_starts` meets its contract: the starts are all those at which the string fits.
use Rattle.laws.specs.Window.Searching.{all_starts}
use Rattle.searcher.proofs.starts.search_starts.Goals as goal

pub returns-then-starts-le1024 : goal.returns-then-starts-le1024
returns-then-starts-le1024 c = all_starts c.args.starts.now.counted c.search_in.ensures

pub returns-then-starts-le8192 : goal.returns-then-starts-le8192
returns-then-starts-le8192 c = all_starts c.args.starts.now.counted c.search_in-then-starts-le8192.ensures

pub returns : goal.returns
returns c = all_starts c.args.starts.now.counted c.search_in-2.ensures
