-- `put_answer` meets its contract: the output holds any answer, so the call is accepted.
use Rattle.jobsheet.specs.Accepted.{answer_ok, answer_taken}
use Rattle.lookup.proofs.put_answer.Goals as goal

pub unwrap-requires : goal.unwrap-requires
unwrap-requires c = answer_ok c.args.sheet.now c.args.output.now c.answer.new.output c.requires _ c.answer.ensures

pub returns : goal.returns
returns c = answer_taken c.args.sheet.now c.args.output.now c.answer.new.output c.requires c.unwrap.ensures c.answer.ensures
