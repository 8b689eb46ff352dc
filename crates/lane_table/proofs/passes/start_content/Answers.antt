use Rattle.std.proofs.Common.{[], sym, subst}
use Rattle.lane_table.specs.declared.values.LaneState.{LaneState}
use Rattle.lane_table.specs.WorldRule.{Replays}
use Rattle.lane_table.proofs.passes.start_content.Goals as goal

pub returns : goal.returns
returns c = subst (λ (x : LaneState). Replays c.args.lane c.args.first []
    (record { state = x; place = 0; stamp = c.args.first })) (sym c.in_ok-state.ensures)
    (c.start_state.ensures c.args.first)
