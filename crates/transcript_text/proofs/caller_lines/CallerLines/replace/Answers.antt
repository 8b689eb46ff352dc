use Rattle.std.proofs.Common.{ap, ◌∙◌}
use Rattle.transcript_text.specs.Gathered.{Gathered}
use Rattle.transcript_text.proofs.Keeping.{kept_replaced, seen_replaced}
use Rattle.transcript_text.proofs.caller_lines.CallerLines.replace.Goals as goal

pub invariant_of-self : goal.invariant_of-self
invariant_of-self c = kept_replaced c.args.self.now.bytes c.self.inside.bytes.items
    c.args.self.now.steps c.self.inside.steps.items c.args.line c.keep-kept.result
    (ap (λ (g : Gathered). g.bytes) c.self.view_is ∙ c.keep-kept.ensures.bytes)
    (ap (λ (g : Gathered). g.steps) c.self.view_is ∙ c.keep-kept.ensures.steps) c.keep-kept.ensures.line
    c.args.number c.self.inside.lines.items c.requires.fits c.self.invariant

pub returns-clause-lines : goal.returns-clause-lines
returns-clause-lines c = seen_replaced c.args.self.now.bytes c.self.inside.bytes.items
    c.args.self.now.steps c.self.inside.steps.items c.args.line c.keep-kept.result
    (ap (λ (g : Gathered). g.bytes) c.self.view_is ∙ c.keep-kept.ensures.bytes)
    (ap (λ (g : Gathered). g.steps) c.self.view_is ∙ c.keep-kept.ensures.steps) c.keep-kept.ensures.line
    c.args.number c.self.inside.lines.items c.args.self.now.lines
    (ap (λ (g : Gathered). g.lines) c.self.view_is ∙ c.keep-kept.ensures.lines)
