use Rattle.transcript_text.proofs.Keeping.{all_within}
use Rattle.transcript_text.proofs.caller_lines.CallerLines.lines.Goals as goal

pub returns-clause-within : goal.returns-clause-within
returns-clause-within c = rw (c.deref.ensures.value, ← c.self.view_is)
    (all_within c.self.inside.bytes.items c.self.inside.steps.items c.self.inside.lines.items c.self.invariant)
