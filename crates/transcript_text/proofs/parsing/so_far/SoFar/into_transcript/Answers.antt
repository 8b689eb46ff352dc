use Rattle.std.proofs.Common.{arith}
use Rattle.transcript_text.proofs.CountingOn.{more_lines}
use Rattle.transcript_text.proofs.FeedingOn.{few_callers, whole}
use Rattle.transcript_text.proofs.parsing.so_far.SoFar.into_transcript.Goals as goal

pub returns-then-self : goal.returns-then-self
returns-then-self c = λ text t.
    let s = c.args.self in more_lines text _ s.lines s.most t.counted c.if-self.true

pub finish-requires-clause-few : goal.finish-requires-clause-few
finish-requires-clause-few c = few_callers c.args.self c.requires.0 _ c.requires.1

pub returns : goal.returns
returns c = λ text t.
    whole c.args.self text c.in_ok-finish.field-0 t (omega (arith, c.if-self.false)) c.in_ok-finish.ensures
