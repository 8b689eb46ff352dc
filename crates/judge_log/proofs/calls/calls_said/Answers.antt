use Rattle.std.proofs.Common.{◌≡◌, ◌<◌, map, length, sym, subst, arith}
use Rattle.std.proofs.lemmas.List.{length-map, length_push}
use Rattle.std.proofs.lemmas.Slice.Zip.{zip_turn, zip_end}
use Rattle.judge_lines.specs.Called.{seen_call}
use Rattle.judge_log.specs.Said.{CallInRange}
use Rattle.judge_log.proofs.AnswersMade.Going.{mapped_at, each_mapped_at}
use Rattle.judge_log.proofs.AnswersMade.CallLoop.{SoFar, Left, so_far_more, left_more, none_left, all_said}
use Rattle.judge_log.proofs.calls.calls_said.Goals as goal

pub call-requires : goal.call-requires
call-requires g c =
    let first : c.into_iter-call-iterator.result.a.rest.now ≡ c.args.calls.now = cc in
    let second : c.into_iter-call-iterator.result.b.rest.now ≡ c.args.settings.now =
    rw c.into_iter-call-iterator.ensures.into_iter_gives c.zip-call-items.ensures.second.0 in
    let turn = zip_turn c.args.calls.now c.args.settings.now c.loop-call.yielded c.into_iter-call-iterator.result
    c.loop-call.call-iterator c.next.new.self c.next.result first second c.loop-call.yielded_by
    (c.in-Some.call, c.in-Some.set) c.in-Some.is c.next.ensures.steps in
    each_mapped_at c.args.calls.now (length c.loop-call.yielded) c.in-Some.call.now turn.0 (turn.2 c.in-Some.call.now)
    seen_call CallInRange c.requires.in_range

pub returns-then-not-branch : goal.returns-then-not-branch
returns-then-not-branch g c = λ t writes said.
    let first : c.into_iter-call-iterator.result.a.rest.now ≡ c.args.calls.now = cc in
    let second : c.into_iter-call-iterator.result.b.rest.now ≡ c.args.settings.now =
    rw c.into_iter-call-iterator.ensures.into_iter_gives c.zip-call-items.ensures.second.0 in
    let turn = zip_turn c.args.calls.now c.args.settings.now c.loop-call.yielded c.into_iter-call-iterator.result
    c.loop-call.call-iterator c.next.new.self c.next.result first second c.loop-call.yielded_by
    (c.in-Some.call, c.in-Some.set) c.in-Some.is c.next.ensures.steps in
    let n = length c.loop-call.yielded in
    let low' : n < length (map seen_call c.args.calls.now) = rw length-map turn.0 in
    let unsaid = rw (
      c.loop-call.invariant.lists,
      c.loop-call.invariant.how,
      c.loop-call.invariant.caller,
      c.if-not-branch.true,
    ) at c.in_ok-call.ensures.said in
    none_left c.args.lists.now c.args.settings.now (map seen_call c.args.calls.now) n turn.1 low' c.in-Some.set.now
    (seen_call c.in-Some.call.now) (turn.3 c.in-Some.set.now)
    (sym (mapped_at c.args.calls.now n c.in-Some.call.now turn.0 (turn.2 c.in-Some.call.now) seen_call))
    c.loop-call.walk.states unsaid (c.loop-call.invariant.left t writes said)

pub loop-call-preserved : goal.loop-call-preserved
loop-call-preserved g c =
    let first : c.into_iter-call-iterator.result.a.rest.now ≡ c.args.calls.now = cc in
    let second : c.into_iter-call-iterator.result.b.rest.now ≡ c.args.settings.now =
    rw c.into_iter-call-iterator.ensures.into_iter_gives c.zip-call-items.ensures.second.0 in
    let turn = zip_turn c.args.calls.now c.args.settings.now c.loop-call.yielded c.into_iter-call-iterator.result
    c.loop-call.call-iterator c.next.new.self c.next.result first second c.loop-call.yielded_by
    (c.in-Some.call, c.in-Some.set) c.in-Some.is c.next.ensures.steps in
    let n = length c.loop-call.yielded in
    let low' : n < length (map seen_call c.args.calls.now) = rw length-map turn.0 in
    let call_is = sym (mapped_at c.args.calls.now n c.in-Some.call.now turn.0 (turn.2 c.in-Some.call.now) seen_call) in
    let one = rw (
      c.loop-call.invariant.lists,
      c.loop-call.invariant.how,
      c.loop-call.invariant.caller,
      c.if-not-branch.false,
    ) at c.in_ok-call.ensures.said in
    let more = sym (length_push c.loop-call.yielded (c.in-Some.call, c.in-Some.set)) in record {
      lists = rw c.in_ok-call.ensures.lists c.loop-call.invariant.lists;
      how = rw c.in_ok-call.ensures.notes c.loop-call.invariant.how;
      caller = rw c.in_ok-call.ensures.notes c.loop-call.invariant.caller;
      so_far = subst (λ k. SoFar c.args.lists.now c.args.settings.now (map seen_call c.args.calls.now)
          (g.N.Note.IsNoted c.args.how.now c.args.caller) k c.call.new.self.states
          c.call.new.self.notes.noted.items) more
          (so_far_more c.args.lists.now c.args.settings.now (map seen_call c.args.calls.now) n turn.1 low' c.in-Some.set.now
          (seen_call c.in-Some.call.now) (turn.3 c.in-Some.set.now) call_is c.loop-call.walk.states
          (g.N.Note.IsNoted c.args.how.now c.args.caller) c.call.new.self.states
          c.loop-call.walk.notes.noted.items c.call.new.self.notes.noted.items c.loop-call.invariant.so_far one);
      left = λ t writes said.
          subst (λ k. Left c.args.lists.now c.args.settings.now (map seen_call c.args.calls.now) k c.call.new.self.states)
          more
          (left_more c.args.lists.now c.args.settings.now (map seen_call c.args.calls.now) n turn.1 low' c.in-Some.set.now
          (seen_call c.in-Some.call.now) (turn.3 c.in-Some.set.now) call_is c.loop-call.walk.states
          c.call.new.self.states one.0 one.1 (c.loop-call.invariant.left t writes said));
    }

pub returns : goal.returns
returns g c =
    let first : c.into_iter-call-iterator.result.a.rest.now ≡ c.args.calls.now = cc in
    let second : c.into_iter-call-iterator.result.b.rest.now ≡ c.args.settings.now =
    rw c.into_iter-call-iterator.ensures.into_iter_gives c.zip-call-items.ensures.second.0 in
    let end = zip_end c.args.calls.now c.args.settings.now c.loop-call.yielded c.into_iter-call-iterator.result
    c.loop-call.call-iterator c.next.new.self c.next.result first second c.loop-call.yielded_by c.in-None.is
    c.next.ensures.steps in
    let so_far = c.loop-call.invariant.so_far in
    let long = length-map c.args.calls.now seen_call in (
      c.loop-call.walk.states,
      so_far.0,
      all_said c.args.lists.now c.args.settings.now (map seen_call c.args.calls.now) (length c.loop-call.yielded) _
          c.loop-call.walk.states so_far.0 (omega arith) so_far.1,
      so_far.2,
    )
