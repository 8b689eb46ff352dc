use Rattle.std.proofs.Common.{[], ◌∷◌, ◌++◌, ◌∙◌, refl, sym, subst, arith}
use Rattle.key_names.specs.declared.events.Word.TheVariants.{Fork as ForkWord}
use Rattle.caller_run.specs.Says.{line_of}
use Rattle.caller_run.specs.Standing.{HasAdvanced, waiting_in}
use Rattle.caller_run.specs.RunningCallers.{kid_of}
use Rattle.caller_run.proofs.Forks.Forking.{gone_fork}
use Rattle.caller_run.proofs.Forks.WentOn.{can_past}
use Rattle.caller_run.proofs.forking.running_callers.RunningCaller.tell_fork.Goals as goal

pub returns-clause-can : goal.returns-clause-can
returns-clause-can c t rest can =
    let w = c.args.self.now in
    can_past w.buffers.log.lines c.tell.new.lines _ c.tell.ensures.lines c.tell.ensures.line_room
    (let a = c.tell.ensures.step_room in let few = c.tell.ensures.few_steps in omega arith)
    (let a = c.tell.ensures.byte_room in omega arith) t c.args.child w.caller c.go_on.new.self w.buffers.log refl
    c.go_on.ensures can

pub returns-clause-gone : goal.returns-clause-gone
returns-clause-gone c begun events rest kids m u from low gone =
    let w = c.args.self.now in
    subst (λ l. HasAdvanced begun events rest c.go_on.new.self l (waiting_in w.buffers.log)
    (kids ++ kid_of m c.args.child u ∷ []))
    (sym (c.tell.ensures.lines
    ∙ (λ i. w.buffers.log.lines.lines ++ line_of (from.set i) ForkWord [] (c.only-done.ensures i) c.args.trace.now ∷ [])))
    (gone_fork w.caller c.go_on.new.self u c.args.trace.now gone from.set from.states c.go_on.ensures low from.took)
