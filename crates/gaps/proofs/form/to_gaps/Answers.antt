-- `to_gaps` meets its contract: the contract of both directions, at the one that takes gaps.
use Rattle.spec.specs.Dictionary.{longest_text}
use Rattle.spec.specs.Refusals.{answer_of}
use Rattle.laws.specs.Demands.GapCalls.{to_gaps_said}
use Rattle.gaps.proofs.form.to_gaps.Goals as goal

pub returns : goal.returns
returns c =
    let a = c.args in
    to_gaps_said longest_text a.chars.now a.lengths.now a.index.now (answer_of c.put_form.result) a.output.now _
    c.put_form.ensures
