use Rattle.std.proofs.Common.{◌≤◌, subst, take, arith}
use Rattle.std.specs.Prelude.{slice_index_or}
use Rattle.std.proofs.lemmas.Grind.{common_steps}
use Rattle.std.proofs.lemmas.List.Elements.{All-more}
use Rattle.caller_run.specs.Says.{most_shown}
use Rattle.caller_run.proofs.Planning.LogFills.{above, above_more}
use Rattle.caller_run.proofs.output.logs.Needs.of.Goals as goal

pub loop-event-preserved : goal.loop-event-preserved
loop-event-preserved c = record {
  shown = grind (arith, common_steps);
  longest =
      All-more (λ e. most_shown e ≤ c.max-longest.result) c.args.events.now c.loop-event.event-index c.event-item.result
      c.loop-event-test.true
      (λ k d lt. above (most_shown (slice_index_or (take c.loop-event.event-index c.args.events.now) k d))
      c.loop-event.longest c.most_shown-most.result c.max-longest.result
      c.max-longest.ensures (c.loop-event.invariant.longest k d lt))
      (subst (λ e. most_shown e ≤ c.max-longest.result) c.event-item.is
      (above_more c.loop-event.longest c.most_shown-most.result c.max-longest.result (most_shown c.event-item.result)
      c.max-longest.ensures c.most_shown-most.ensures));
  inside = grind (arith, common_steps);
  few_shown = grind (arith, common_steps);
  few_inside = grind (arith, common_steps);
}
