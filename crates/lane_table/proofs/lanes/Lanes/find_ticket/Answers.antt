use Rattle.std.proofs.Common.{rules, arith, refl}
use Rattle.lane_table.proofs.Rule.Drawing.{finds}
use Rattle.lane_table.proofs.Rule.Restaging.{restages_found, to_pass}
use Rattle.lane_table.proofs.lanes.Lanes.find_ticket.Goals as goal

pub load-requires : goal.load-requires
load-requires c = (
  search rules,
  omega arith,
  rw c.ticket_word.ensures (finds _ _ _ c.args.lane _ (search rules) (search rules)),
)

pub returns-clause-pass : goal.returns-clause-pass
returns-clause-pass c = let p = c.requires.pass in
    to_pass (restages_found c.args.lane c.load.result c.args.pass.now.seat.me) (omega arith) c.args.self.now
    c.args.pass.now record c.args.pass.now { seat = c.load.new.seat } p refl (c.load.ensures.2 c.args.lane c.ticket_word.ensures).1
    c.load.ensures.0 refl refl
