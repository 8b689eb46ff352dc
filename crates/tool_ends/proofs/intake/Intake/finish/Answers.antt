use Rattle.std.proofs.Common.{sym, subst, ◌∙◌}
use Rattle.tool_ends.specs.Intakes.{IsOpened}
use Rattle.tool_ends.proofs.intake.Intake.finish.Goals as goal

pub returns-in_ok-open-in-Front-clause-not_read : goal.returns-in_ok-open-in-Front-clause-not_read
returns-in_ok-open-in-Front-clause-not_read g c = λ input taken short.
    let taken = rw c.in-Front.is at taken in
    let opened = c.in_ok-open-in-Front in
    c.finish-in-Front.ensures.not_read input
    (subst (λ text. IsOpened text opened.field-0) (c.deref.ensures.value ∙ sym taken.0) opened.ensures.opened) short
