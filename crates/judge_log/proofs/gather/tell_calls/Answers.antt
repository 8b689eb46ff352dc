use Rattle.std.proofs.Common.{◌≡◌, length}
use Rattle.std.proofs.lemmas.List.{length_push}
use Rattle.std.proofs.lemmas.Slice.Zip.{zip_turn, zip_end}
use Rattle.judge_log.specs.Tables.{tables_of}
use Rattle.judge_log.proofs.Tables.TellSteps.{calls_more, calls_end, calls_from_next, short_of}
use Rattle.judge_log.proofs.gather.tell_calls.Goals as goal

pub loop-call-preserved : goal.loop-call-preserved
loop-call-preserved c = λ final rest.
    let first : c.into_iter-call-iterator.result.a.rest.now ≡ c.args.calls.now = cc in
    let second : c.into_iter-call-iterator.result.b.rest.now ≡ c.args.settings.now = cc in
    let turn = zip_turn c.args.calls.now c.args.settings.now c.loop-call.yielded c.into_iter-call-iterator.result
    c.loop-call.call-iterator c.next.new.self c.next.result first second c.loop-call.yielded_by
    (c.in-Some.call, c.in-Some.set) c.in-Some.is c.next.ensures.steps in
    c.loop-call.invariant final
    (calls_more c.args.calls.now c.args.settings.now (length c.loop-call.yielded) c.in-Some.call.now c.in-Some.set.now
    (tables_of c.loop-call.inferred) _ final turn.0 turn.1 (turn.2 c.in-Some.call.now) (turn.3 c.in-Some.set.now) c.tell_call.ensures
    (calls_from_next c.args.calls.now c.args.settings.now _ _ _ final (length_push c.loop-call.yielded (c.in-Some.call, c.in-Some.set)) rest))

pub returns : goal.returns
returns c =
    let first : c.into_iter-call-iterator.result.a.rest.now ≡ c.args.calls.now = cc in
    let second : c.into_iter-call-iterator.result.b.rest.now ≡ c.args.settings.now = cc in
    let end = zip_end c.args.calls.now c.args.settings.now c.loop-call.yielded c.into_iter-call-iterator.result
    c.loop-call.call-iterator c.next.new.self c.next.result first second c.loop-call.yielded_by c.in-None.is
    c.next.ensures.steps in
    c.loop-call.invariant (tables_of c.loop-call.inferred)
    (calls_end c.args.calls.now c.args.settings.now (length c.loop-call.yielded) (tables_of c.loop-call.inferred)
    (short_of (length c.loop-call.yielded) (length c.args.calls.now) (length c.args.settings.now) end))
