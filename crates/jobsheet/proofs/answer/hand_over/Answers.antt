-- `hand_over` meets its contract: nothing is written before the bytes are known to fit.
use Rattle.std.proofs.Common.{refl, arith}
use Rattle.laws.specs.Search.Sizing.{sized_short}
use Rattle.laws.specs.JobSheet.JobAnswering.{handed_over}
use Rattle.jobsheet.proofs.answer.hand_over.Goals as goal

pub returns-then-output-bytes : goal.returns-then-output-bytes
returns-then-output-bytes c = sized_short c.if-output-bytes.true refl refl

pub returns : goal.returns
returns c = handed_over _ c.if-output-bytes.false refl (omega arith) c.put_bytes.ensures
