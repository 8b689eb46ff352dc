use Rattle.std.proofs.Common.{rules, arith}
use Rattle.lane_table.proofs.Rule.Drawing.{tries}
use Rattle.lane_table.proofs.lanes.Lanes.try_draw.Goals as goal

pub compare_exchange-requires : goal.compare_exchange-requires
compare_exchange-requires c = (
  search rules,
  omega arith,
  rw c.ticket_word.ensures (tries _ _ _ c.args.lane _ (search rules) (search rules) _ (search rules)),
)
