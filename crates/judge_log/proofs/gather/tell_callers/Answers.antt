use Rattle.std.proofs.Common.{◌≡◌, length}
use Rattle.std.proofs.lemmas.List.{length_push}
use Rattle.std.proofs.lemmas.Slice.Zip.{zip_turn, zip_end}
use Rattle.judge_log.specs.Tables.{tables_of}
use Rattle.judge_log.proofs.Tables.TellSteps.{callers_more, callers_end, callers_from_next, short_of, calls_at}
use Rattle.judge_log.proofs.gather.tell_callers.Goals as goal

pub loop-calls-preserved : goal.loop-calls-preserved
loop-calls-preserved c = λ final rest.
    let first : c.into_iter-calls-iterator.result.a.rest.now ≡ c.args.callers.now = cc in
    let second : c.into_iter-calls-iterator.result.b.rest.now ≡ c.args.settings.now = cc in
    let turn = zip_turn c.args.callers.now c.args.settings.now c.loop-calls.yielded c.into_iter-calls-iterator.result
    c.loop-calls.calls-iterator c.next.new.self c.next.result first second c.loop-calls.yielded_by
    (c.in-Some.calls, c.in-Some.sets) c.in-Some.is c.next.ensures.steps in
    c.loop-calls.invariant final
    (callers_more c.args.callers.now c.args.settings.now (length c.loop-calls.yielded) c.in-Some.calls.now c.in-Some.sets.now
    (tables_of c.loop-calls.inferred) _ final turn.0 turn.1 (turn.2 c.in-Some.calls.now) (turn.3 c.in-Some.sets.now)
    (calls_at c.in-Some.calls.now.items c.deref.result.now c.in-Some.sets.now.items c.deref-in-loop-calls.result.now _ _
    c.deref.ensures.value c.deref-in-loop-calls.ensures.value c.tell_calls.ensures)
    (callers_from_next c.args.callers.now c.args.settings.now _ _ _ final (length_push c.loop-calls.yielded (c.in-Some.calls, c.in-Some.sets)) rest))

pub returns : goal.returns
returns c =
    let first : c.into_iter-calls-iterator.result.a.rest.now ≡ c.args.callers.now = cc in
    let second : c.into_iter-calls-iterator.result.b.rest.now ≡ c.args.settings.now = cc in
    let end = zip_end c.args.callers.now c.args.settings.now c.loop-calls.yielded c.into_iter-calls-iterator.result
    c.loop-calls.calls-iterator c.next.new.self c.next.result first second c.loop-calls.yielded_by c.in-None.is
    c.next.ensures.steps in
    c.loop-calls.invariant (tables_of c.loop-calls.inferred)
    (callers_end c.args.callers.now c.args.settings.now (length c.loop-calls.yielded) (tables_of c.loop-calls.inferred)
    (short_of (length c.loop-calls.yielded) (length c.args.callers.now) (length c.args.settings.now) end))
