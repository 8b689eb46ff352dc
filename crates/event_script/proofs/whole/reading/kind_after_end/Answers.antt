use Rattle.std.proofs.Common.{◌∙◌, refl}
use Rattle.event_script.proofs.Stages.{end_fails}
use Rattle.event_script.proofs.whole.reading.kind_after_end.Goals as goal

pub returns-in-Ok : goal.returns-in-Ok
returns-in-Ok c = λ number later.
    end_fails c.args.text.now c.requires.whole c.requires.some number later ∙ rw c.in-Ok.ensures.line refl

pub returns-in-Err : goal.returns-in-Err
returns-in-Err c = λ number later.
    end_fails c.args.text.now c.requires.whole c.requires.some number later ∙ rw c.in-Err.ensures.line refl
