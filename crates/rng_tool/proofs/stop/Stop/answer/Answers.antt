use Rattle.rng_tool.proofs.LiveAnswers.{fault_ends, line_ends, memory_ends}
use Rattle.rng_tool.proofs.stop.Stop.answer.Goals as goal

pub returns-in-Err-clause-ends : goal.returns-in-Err-clause-ends
returns-in-Err-clause-ends g c = λ left left_after held ends.
    memory_ends left left_after held _ _ (rw c.in-NoMemory.is at ends) c.flush.ensures.kept

pub returns-in-Refused-clause-ends : goal.returns-in-Refused-clause-ends
returns-in-Refused-clause-ends g c = λ left left_after held ends.
    fault_ends left left_after held _ _ c.in-Refused.fault c.refusal_line.result.bytes c.put_line.result
    (rw c.in-Refused.is at ends) c.refusal_line.ensures c.put_line.ensures.answered
    c.put_line.ensures.ends

pub returns-in-NotAlone-clause-ends : goal.returns-in-NotAlone-clause-ends
returns-in-NotAlone-clause-ends g c = λ left left_after held ends.
    line_ends left left_after held _ _ c.in-NotAlone.number c.not_alone_line.result.bytes c.put_line-in-NotAlone.result
    (rw c.in-NotAlone.is at ends) c.not_alone_line.ensures
    c.put_line-in-NotAlone.ensures.answered c.put_line-in-NotAlone.ensures.ends
