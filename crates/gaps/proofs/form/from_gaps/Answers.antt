-- `from_gaps` meets its contract: the contract of both directions, at the restoring one.
use Rattle.spec.specs.Dictionary.{longest_text}
use Rattle.spec.specs.Refusals.{answer_of}
use Rattle.laws.specs.Demands.GapCalls.{from_gaps_said}
use Rattle.gaps.proofs.form.from_gaps.Goals as goal

pub returns : goal.returns
returns c =
    let a = c.args in
    from_gaps_said longest_text a.chars.now a.lengths.now a.gaps.now (answer_of c.put_form.result) a.output.now _
    c.put_form.ensures
