use Rattle.std.proofs.Common.{sym, ap, ◌∙◌, List, take}
use Rattle.key_names.specs.declared.names.Step.{Step}
use Rattle.audit_keys.proofs.Starts.{none_past, own_kept}
use Rattle.audit_keys.proofs.lists.steps_before.Goals as goal

pub returns-in-Some : goal.returns-in-Some
returns-in-Some c = λ callers own.
    let found = c.in-Some.ensures.lookup in
    c.first_steps.ensures
    ∙ ap (λ (s : List Step). take c.args.fork.steps s) (c.deref.ensures.value
    ∙ own_kept c.args.own.now callers c.args.fork.parent c.in-Some.steps.now own found.3.0 found.1)

pub returns-in-None : goal.returns-in-None
returns-in-None c = λ callers own.
    let found = c.in-None.ensures.lookup in
    sym (none_past c.args.own.now callers c.args.fork.parent c.args.fork.steps own found.3)
