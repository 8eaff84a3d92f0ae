-- `search_window` meets its contract: none is found where no start reaches the string's end, else those that
-- do are written.
use Rattle.std.proofs.Common.{length}
use mathlib.Core.Path.{refl}
use Rattle.laws.specs.Window.Searching.{says_none, says_answered}
use Rattle.finding.proofs.window.search_window.Goals as goal

pub returns-then-extend_window-string : goal.returns-then-extend_window-string
returns-then-extend_window-string c =
    says_none (length c.args.reach.now) c.requires.cleared c.extend_window.ensures c.if-extend_window-string.true refl refl

pub returns : goal.returns
returns c =
    says_answered (length c.args.reach.now) c.requires.cleared c.extend_window.ensures c.answer_window.ensures
