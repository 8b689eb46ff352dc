use Rattle.std.proofs.Common.{rules, arith}
use Rattle.lane_table.proofs.Rule.Putting.{leaves}
use Rattle.lane_table.proofs.lanes.Lanes.leave.Goals as goal

pub store-requires : goal.store-requires
store-requires c = (
  search rules,
  omega arith,
  rw c.serving_word.ensures (leaves _ _ _ c.args.lane c.args.ticket c.args.pass.now.seat.me _ c.args.content c.put_content.ensures.seat
      (let p = c.requires.pass in omega arith) (let p = c.requires.pass in omega arith) c.requires.lane.1
      c.requires.replays c.requires.free),
)
