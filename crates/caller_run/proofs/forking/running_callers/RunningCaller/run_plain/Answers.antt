use Rattle.std.proofs.Common.{◌≡◌, List, [], ◌∷◌, rules, subst, sym}
use Rattle.std.specs.Prelude.{vec_len}
use Rattle.key_names.specs.declared.events.Event.{Event}
use Rattle.caller_run.specs.Standing.{CanAdvance}
use Rattle.caller_run.specs.RunningCallers.{CanAdvanceIn, GoneIn, AreAbove}
use Rattle.caller_run.proofs.Events.CanAdvance.{first_can}
use Rattle.caller_run.proofs.Forks.WentOn.{plain_event, as_slices}
use Rattle.caller_run.proofs.forking.running_callers.RunningCaller.run_plain.Goals as goal

pub step-requires : goal.step-requires
step-requires g c =
    let running = c.loop-event.self in
    let is : c.loop-event.rest.now ≡ c.in-Some.event.now ∷ c.in-Some.tail.now = search rules in
    record {
      can = as_slices (λ n m. CanAdvance c.args.shared.now.lanes.now running.caller running.buffers.log n m
          (c.in-Some.event.now ∷ [])) (vec_len running.buffers.served) (vec_len running.buffers.inside) _ _ c.deref_mut.ensures.len
          c.deref_mut-in-Some.ensures.len
          (first_can (subst (CanAdvanceIn c.args.shared.now.lanes.now running) is c.loop-event.invariant.can));
      plain = plain_event c.in-Some.event.now c.in_default-event.not-Fork;
    }

pub loop-event-preserved : goal.loop-event-preserved
loop-event-preserved g c =
    let running = c.loop-event.self in let k = c.loop-event.invariant in let rest = c.in-Some.tail.now in
    let served = vec_len running.buffers.served in let inside = vec_len running.buffers.inside in
    let first = c.deref_mut.ensures.len in let second = c.deref_mut-in-Some.ensures.len in
    let is : c.loop-event.rest.now ≡ c.in-Some.event.now ∷ rest = search rules in
    let t = c.args.shared.now.lanes.now in
    record {
      can = as_slices (λ n m. CanAdvance t c.step.new.self c.step.new.log n m rest) _ _ served inside (sym first)
          (sym second)
          (c.step.ensures.can rest
          (as_slices (λ n m. CanAdvance t running.caller running.buffers.log n m (c.in-Some.event.now ∷ rest)) served inside _ _
          first second (subst (CanAdvanceIn t running) is k.can)));
      gone = λ begun all kids gone. c.step.ensures.gone begun all rest kids
          (subst (λ (l : List Event). GoneIn begun all l running.caller running kids) is (k.gone begun all kids gone));
      forks' = search rules;
      above = λ n h. (subst (AreAbove n) is (k.above n h)).1;
      short = search rules;
      kids = search rules;
    }
