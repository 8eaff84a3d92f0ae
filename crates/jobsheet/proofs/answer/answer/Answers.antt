-- `answer` meets its contract: the answer is the first bytes of the buffer, which are copied out.
use Rattle.std.proofs.Common.{sym, length-take-le}
use Rattle.laws.specs.JobSheet.JobAnswering.{written_in_hand, job_says}
use Rattle.jobsheet.proofs.answer.answer.Goals as goal

pub slice_bounds-buffer-end : goal.slice_bounds-buffer-end
slice_bounds-buffer-end c = (written_in_hand c.put_answer-end.ensures).room

pub slice_bounds-hand_over-end : goal.slice_bounds-hand_over-end
slice_bounds-hand_over-end c = sym (length-take-le _ _ (written_in_hand c.put_answer-end.ensures).room)

pub returns : goal.returns
returns c = job_says _ _ _ _ _ (written_in_hand c.put_answer-end.ensures).is c.hand_over.ensures
