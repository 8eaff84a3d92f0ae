-- `flag_words` meets its contract: no line, or the listed lines and then the range.
use native.Mathlib.Omega.{arith}
use Rattle.laws.specs.Cut.Flagging.{agreeing_below, flagged_words}
use Rattle.bearing.proofs.offsets.Bearing.flag_words.Goals as goal

pub flag_list-requires : goal.flag_list-requires
flag_list-requires c =
    agreeing_below c.agreeing_words-agreeing.ensures.listed (omega arith)

pub returns : goal.returns
returns c =
    flagged_words c.agreeing_words-agreeing.ensures c.args.self.now.split.within c.requires.flags c.flag_list.ensures c.flag_run.ensures
