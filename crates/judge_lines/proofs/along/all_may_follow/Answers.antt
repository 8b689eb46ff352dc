use Rattle.std.specs.Prelude.{slice_get}
use Rattle.std.proofs.Common.{◌≡◌, ◌+◌, [], ◌∷◌, ◌++◌, length, refl, sym, ap, ◌∙◌, arith}
use Rattle.std.proofs.lemmas.List.{length_push}
use Rattle.judge_lines.specs.Called.{seen_calls}
use Rattle.judge_lines.proofs.Carried.{get_last}
use Rattle.judge_lines.proofs.AlongOrders.{all_follow, seen_long, must_follow, now_kept, kept_more_callers}
use Rattle.judge_lines.proofs.along.all_may_follow.Goals as goal

pub returns-then-not-may_go : goal.returns-then-not-may_go
returns-then-not-may_go g c =
    let stops = rw c.deref-in-loop-caller.ensures.value at c.if-not-may_go.ensures in (
      (λ h. absurd cc),
      (λ all.
          let false_is = stops.1
          (must_follow (g.C.Carry.after c.args.carry.now) (g.C.Carry.MayFollow c.args.carry.now) c.args.callers.now
          c.args.forks.now c.loop-caller.kept.items c.loop-caller.caller c.index-callers-caller.result
          c.start_of-start.result c.requires.forks c.requires.above c.loop-caller-test.true c.index-callers-caller.is
          c.loop-caller.invariant.each (rw (← c.deref.ensures.value) c.start_of-start.ensures) all) in cc),
    )

pub loop-caller-preserved : goal.loop-caller-preserved
loop-caller-preserved g c =
    let follows = rw c.deref-in-loop-caller.ensures.value at c.if-not-may_go.ensures in
    let kept = rw (c.deref-in-loop-caller-2.ensures.value, c.is_parent-is_parent.ensures) at c.in_ok-kept_of.ensures in
    record {
      long = ap length c.in_ok-push.ensures.items ∙ length_push c.loop-caller.kept.items c.in_ok-kept_of.field-0
          ∙ ap (λ n. n + 1) c.loop-caller.invariant.long;
      each = rw c.in_ok-push.ensures.items
          (kept_more_callers (g.C.Carry.after c.args.carry.now) (g.C.Carry.MayFollow c.args.carry.now) c.args.callers.now
          c.loop-caller.caller c.loop-caller.kept.items c.in_ok-kept_of.field-0 c.loop-caller.invariant.long
          c.loop-caller.invariant.each
          (now_kept (g.C.Carry.after c.args.carry.now) (g.C.Carry.MayFollow c.args.carry.now) c.args.callers.now
          c.args.forks.now c.loop-caller.kept.items c.loop-caller.caller c.index-callers-caller.result
          c.start_of-start.result c.requires.forks c.requires.above c.loop-caller-test.true c.index-callers-caller.is
          c.loop-caller.invariant.each (rw (← c.deref.ensures.value) c.start_of-start.ensures) c.in_ok-kept_of.field-0
          (c.loop-caller.kept.items ++ c.in_ok-kept_of.field-0 ∷ [])
          (ap (slice_get (c.loop-caller.kept.items ++ c.in_ok-kept_of.field-0 ∷ [])) (sym c.loop-caller.invariant.long)
          ∙ get_last c.loop-caller.kept.items c.in_ok-kept_of.field-0) (follows.0 refl) kept));
    }

pub returns : goal.returns
returns g c = (
  (λ h. all_follow (g.C.Carry.after c.args.carry.now) (g.C.Carry.MayFollow c.args.carry.now)
      (seen_calls c.args.callers.now) c.loop-caller.kept.items (λ p low. c.loop-caller.invariant.each p
      (let e : length (seen_calls c.args.callers.now) ≡ length c.args.callers.now = seen_long c.args.callers.now in
      omega (arith, c.loop-caller-test.false)))),
  (λ all. refl),
)
