use native.Mathlib.Omega.{arith}
use Rattle.laws.specs.Cut.Flagging.{agreeing_below}
use Rattle.searcher.proofs.estimate.Estimate.visits_of_words.Goals as goal

pub visits_of_line-sum-requires : goal.visits_of_line-sum-requires
visits_of_line-sum-requires c =
    rw c.from.ensures
    (agreeing_below c.agreeing_words-agreeing.ensures.listed {n = c.args.self.now.word_lines} (omega arith) c.loop-listed.listed-index
    c.loop-listed-test.true)
