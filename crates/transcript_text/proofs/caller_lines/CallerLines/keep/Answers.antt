use Rattle.transcript_text.specs.Views.{bytes_of}
use Rattle.transcript_text.proofs.Keeping.{kept_more, seen_lines-more}
use Rattle.transcript_text.proofs.caller_lines.CallerLines.keep.Goals as goal

pub invariant_of-self : goal.invariant_of-self
invariant_of-self c = rw (c.keep_shown.ensures.items, c.keep_steps.ensures.items)
    (kept_more c.self.inside.bytes.items (bytes_of c.args.line.shown) c.self.inside.steps.items c.args.line.steps.now
    c.self.inside.lines.items c.self.invariant)

pub returns-clause-lines : goal.returns-clause-lines
returns-clause-lines c = rw (c.keep_shown.ensures.items, c.keep_steps.ensures.items, ← c.self.view_is)
    (seen_lines-more c.self.inside.bytes.items (bytes_of c.args.line.shown) c.self.inside.steps.items
    c.args.line.steps.now c.self.inside.lines.items c.self.invariant.within)
