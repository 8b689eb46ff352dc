use Rattle.tool_ends.proofs.Inputs.{wider}
use Rattle.tool_ends.proofs.Pairs.{failed_by, refused_by}
use Rattle.tool_ends.proofs.answers.put_refusal.Goals as goal

pub returns-in-Refused-clause-ends : goal.returns-in-Refused-clause-ends
returns-in-Refused-clause-ends g c =
    rw c.in-Refused.is
    (wider _ _ (refused_by c.in-Refused.fault _ c.refusal_line.ensures) _ _ _ c.put_line.ensures.ends)

pub returns-in-NoTranscript-clause-ends : goal.returns-in-NoTranscript-clause-ends
returns-in-NoTranscript-clause-ends g c =
    rw c.in-NoTranscript.is
    (wider _ _ (failed_by 1 _ c.no_line.ensures) _ _ _ c.put_line-in-NoTranscript.ensures.ends)

pub returns-in-TooManyLines-clause-ends : goal.returns-in-TooManyLines-clause-ends
returns-in-TooManyLines-clause-ends g c =
    rw c.in-TooManyLines.is
    (wider _ _ (failed_by 2 _ c.no_line-in-TooManyLines.ensures) _ _ _ c.put_line-in-TooManyLines.ensures.ends)
