use Rattle.std.proofs.Common.{rules, arith, refl}
use Rattle.lane_table.proofs.Rule.Looking.{looks}
use Rattle.lane_table.proofs.Calls.Telling.{looked_is}
use Rattle.lane_table.proofs.lanes.Lanes.generation.Goals as goal

pub load-requires : goal.load-requires
load-requires c = let p = c.requires in (search rules, omega arith, looks _ _ _ _ (omega arith))

pub returns-clause-looked : goal.returns-clause-looked
returns-clause-looked c = let t = c.load.ensures.2 refl in
    looked_is c.load.result c.args.pass.now.seat.me c.load.new.seat.me
    (let p = c.requires in let few = c.args.self.now.few in omega arith) t.0 t.1 t.2 t.3 t.4
