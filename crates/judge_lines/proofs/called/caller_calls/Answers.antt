use Rattle.std.proofs.Common.{◌≡◌, ◌+◌, ◌<◌, ◌≤◌, true, false, refl, ◌∙◌, arith}
use Rattle.std.specs.Prelude.{nat_lt}
use Rattle.std.proofs.lemmas.Bool.Decides.{nat_tests}
use Rattle.judge_lines.proofs.CallsFrom.{vread_next, waits_next, unbound_next, alone_next, calls_end}
use Rattle.judge_lines.proofs.called.caller_calls.Goals as goal
use Rattle.judge_lines.proofs.called.caller_calls.Goals.{in-Vread+in_ok-push-in-Vread, in-Inside+then-number-end+in_ok-push-in-Inside, in-Inside+else-number-end+in_ok-push-in-Inside-2, in_default+in_ok-push-in_default}

pub loop-number-preserved : goal.loop-number-preserved
loop-number-preserved c = elim c.match-event.branch [
  | in-Vread+in_ok-push-in-Vread w ↦
      rw (w.calls-is, w.waiting-is, w.in_ok-push-in-Vread.ensures.items, w.replace-acts.ensures.after, w.new.ensures.items)
      (vread_next c.args.events.now c.args.lines.now c.loop-number.number c.index-events-number.result
      c.index-lines-number.result c.loop-number-test.true (omega arith) c.index-events-number.is c.index-lines-number.is
      c.loop-number.calls.items c.loop-number.waiting.items _ c.loop-number.invariant w.in-Vread.len w.in-Vread.flags
      w.in-Vread.is _ (rw w.replace-acts.ensures.value refl))
  | in-Inside+then-number-end+in_ok-push-in-Inside w ↦
      let t : nat_lt (c.loop-number.number + 1) c.vreads_end-end.result ≡ true =
      (let low : c.loop-number.number + 1 < c.vreads_end-end.result = w.if-number-end.true in grind (arith, nat_tests)) in
      rw (w.calls-is, w.waiting-is, w.in_ok-push-in-Inside.ensures.items)
      (waits_next c.args.events.now c.args.lines.now c.loop-number.number c.index-events-number.result
      c.index-lines-number.result c.loop-number-test.true (omega arith) c.index-events-number.is c.index-lines-number.is
      c.loop-number.calls.items c.loop-number.waiting.items _ c.loop-number.invariant w.in-Inside.point w.in-Inside.act
      w.in-Inside.is (c.vreads_end-end.ensures (c.loop-number.number + 1) ∙ t) _ refl)
  | in-Inside+else-number-end+in_ok-push-in-Inside-2 w ↦
      let t : nat_lt (c.loop-number.number + 1) c.vreads_end-end.result ≡ false =
      (let high : c.vreads_end-end.result ≤ c.loop-number.number + 1 = w.if-number-end.false in
      grind (arith, nat_tests)) in
      rw (w.calls-is, w.waiting-is, w.in_ok-push-in-Inside-2.ensures.items)
      (unbound_next c.args.events.now c.args.lines.now c.loop-number.number c.index-events-number.result
      c.index-lines-number.result c.loop-number-test.true (omega arith) c.index-events-number.is c.index-lines-number.is
      c.loop-number.calls.items c.loop-number.waiting.items _ c.loop-number.invariant w.in-Inside.point w.in-Inside.act
      w.in-Inside.is (c.vreads_end-end.ensures (c.loop-number.number + 1) ∙ t) _ refl)
  | in_default+in_ok-push-in_default w ↦
      rw (w.calls-is, w.waiting-is, w.in_ok-push-in_default.ensures.items)
      (alone_next c.args.events.now c.args.lines.now c.loop-number.number c.index-events-number.result
      c.index-lines-number.result c.loop-number-test.true (omega arith) c.index-events-number.is c.index-lines-number.is
      c.loop-number.calls.items c.loop-number.waiting.items _ c.loop-number.invariant w.in_default.not-Vread
      w.in_default.not-Inside _ refl)
]

pub returns : goal.returns
returns c = rw c.in_ok-push.ensures.items
    (calls_end c.args.events.now c.args.lines.now c.loop-number.number c.index-lines-events.result
    c.loop-number.calls.items _ _ _ (omega arith) c.requires c.index-lines-events.is refl c.loop-number.invariant)
