use Rattle.std.proofs.Common.{arith}
use Rattle.lane_table.proofs.Calls.Telling.{left_is}
use Rattle.lane_table.proofs.lanes.Lanes.back.Goals as goal

pub returns-clause-left : goal.returns-clause-left
returns-clause-left c = let p = c.requires.pass in let h = c.requires.held.holds in
    left_is c.args.held.turn.lane c.args.pass.now.seat.me c.leave.new.pass.seat.me (omega arith) c.leave.ensures.seat
