use Rattle.std.proofs.Common.{length, ◌∷◌, ◌++◌, [], sym, subst, take, ◌∙◌, arith, rules, ◌≡◌}
use Rattle.caller_run.specs.Says.{line_of, most_shown}
use Rattle.caller_run.specs.Standing.{waiting_in, HasAdvanced}
use Rattle.caller_run.proofs.Planning.LogFills.{fills_call}
use Rattle.caller_run.proofs.Events.CanAdvance.{can_next}
use Rattle.caller_run.proofs.Forks.Alone.{called_once}
use Rattle.caller_run.proofs.Forks.HasAdvanced.{gone_call}
use Rattle.caller_run.proofs.Law.Seeing.{called_kept}
use Rattle.caller_run.proofs.making.caller.Caller.make.Goals as goal

pub returns : goal.returns
returns g c inside =
    let log = c.args.log.now in let call = c.call_once-recorded.new in let recorded = c.call_once-recorded.ensures in
    let event = c.args.event.now in
    let called = called_once event c.requires.kind recorded.called in
    let k = called_kept called in
    let long : length (take c.call_once-recorded.result.shown call.served) ≡ most_shown event = search rules in
    record {
      can = λ rest can. record {
        goes = can_next call.self k.set k.has (k.states can.goes.states) c.go_on.ensures
            (fills_call log.lines c.tell.new.lines _ c.tell.ensures.lines c.tell.ensures.line_room c.requires.kind
            (let b = c.tell.ensures.step_room in let few = c.tell.ensures.few_steps in omega arith)
            (let b = c.tell.ensures.byte_room in omega arith)
            can.goes.fresh can.goes.recorded) can.goes;
        act_room = can.act_room;
      };
      gone = λ begun events rest kids gone.
          subst (λ l. HasAdvanced begun events rest c.go_on.new.self l (waiting_in log) kids)
          (sym (c.tell.ensures.lines
          ∙ (λ i. log.lines.lines ++ line_of call.self.set (recorded.word i) (take (recorded.shown i) call.served)
          c.call_once-recorded.result.said call.trace ∷ [])))
          (gone_call c.requires.kind called c.go_on.ensures gone);
    }
