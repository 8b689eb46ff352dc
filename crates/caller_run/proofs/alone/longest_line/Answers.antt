use Rattle.std.proofs.Common.{ℕ, ◌≡◌, ◌≤◌, subst, take, refl, arith}
use Rattle.std.specs.Prelude.{slice_index_or, All}
use Rattle.std.proofs.lemmas.Bool.{OnTrue_at}
use Rattle.std.proofs.lemmas.List.{take_all}
use Rattle.std.proofs.lemmas.List.Elements.{All-more}
use Rattle.key_names.specs.declared.events.Event.{Event}
use Rattle.key_names.specs.declared.events.Event.TheVariants.{Inside, Fork}
use Rattle.key_names.specs.declared.events.InsideAct.{InsideAct}
use Rattle.key_names.specs.declared.point.Point.{Point}
use Rattle.caller_run.specs.Alone.{IsEmittedOnce}
use Rattle.caller_run.specs.Says.{most_shown}
use Rattle.caller_run.proofs.Planning.LogFills.{above, above_more}
use Rattle.caller_run.proofs.alone.longest_line.Goals as goal

emitted_once : (event : Event) → ((point : Point) (act : InsideAct) → event ≡ Inside point act → ⊥)
    → ((child : ℕ) → event ≡ Fork child → ⊥) → IsEmittedOnce event
emitted_once (Inside point act) no_act no_fork = no_act point act refl
emitted_once (Fork child) no_act no_fork = no_fork child refl
emitted_once event no_act no_fork = tt

pub loop-event-preserved : goal.loop-event-preserved
loop-event-preserved c =
    let item = c.event-item.result in record {
      once = All-more IsEmittedOnce c.args.events.now c.loop-event.event-index item c.loop-event-test.true
          c.loop-event.invariant.once
          (subst IsEmittedOnce c.event-item.is (emitted_once item c.in_default.not-Inside c.in_default.not-Fork));
      longest =
          All-more (λ e. most_shown e ≤ c.max-longest.result) c.args.events.now c.loop-event.event-index item
          c.loop-event-test.true
          (λ k d lt. above (most_shown (slice_index_or (take c.loop-event.event-index c.args.events.now) k d))
          c.loop-event.longest c.most_shown.result c.max-longest.result
          c.max-longest.ensures (c.loop-event.invariant.longest k d lt))
          (subst (λ e. most_shown e ≤ c.max-longest.result) c.event-item.is
          (above_more c.loop-event.longest c.most_shown.result c.max-longest.result (most_shown item)
          c.max-longest.ensures c.most_shown.ensures));
    }

pub loop-event-preserved-then-is_silent : goal.loop-event-preserved-then-is_silent
loop-event-preserved-then-is_silent c =
    let item = c.event-item.result in
    let silent = OnTrue_at c.if-is_silent.true c.is_silent.ensures in record {
      once = All-more IsEmittedOnce c.args.events.now c.loop-event.event-index item c.loop-event-test.true
          c.loop-event.invariant.once (subst IsEmittedOnce c.event-item.is silent.0);
      longest =
          All-more (λ e. most_shown e ≤ c.loop-event.longest) c.args.events.now c.loop-event.event-index item
          c.loop-event-test.true c.loop-event.invariant.longest
          (subst (λ e. most_shown e ≤ c.loop-event.longest) c.event-item.is (omega (arith, silent.1)));
    }

pub returns-clause-once : goal.returns-clause-once
returns-clause-once c =
    subst (All IsEmittedOnce) (take_all c.loop-event.event-index c.args.events.now (omega (arith, c.loop-event-test.false)))
    c.loop-event.invariant.once

pub returns-clause-longest : goal.returns-clause-longest
returns-clause-longest c =
    subst (All (λ event. most_shown event ≤ c.loop-event.longest))
    (take_all c.loop-event.event-index c.args.events.now (omega (arith, c.loop-event-test.false)))
    c.loop-event.invariant.longest
