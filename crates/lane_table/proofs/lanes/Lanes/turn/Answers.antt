use Rattle.std.proofs.Common.{rules, arith, refl, ◌≡◌}
use Rattle.lane_table.specs.Steps.{Got}
use Rattle.lane_table.proofs.Rule.Serving.{serves}
use Rattle.lane_table.proofs.Calls.Telling.{got_pass}
use Rattle.lane_table.proofs.lanes.Lanes.turn.Goals as goal

pub load-serving-requires : goal.load-serving-requires
load-serving-requires c = (
  search rules,
  omega arith,
  rw c.serving_word.ensures (serves _ _ _ c.args.lane c.args.ticket _ (search rules) (search rules) (search rules)),
)

got : (c : goal.After-load-serving) → Got c.args.lane c.args.ticket c.args.pass.now.seat.me c.load-serving.new.seat.me
got c = let t = c.load-serving.ensures.2 c.args.lane c.serving_word.ensures c.args.ticket c.requires.lane.1 in let a = t.0 in let b =
    t.1 in let d = c.requires.served in let r = c.load-serving.result in let e : r ≡ c.args.ticket = omega arith in
    t.2 e

pub returns-clause-pass : goal.returns-clause-pass
returns-clause-pass c = let p = c.requires.pass in
    got_pass (got c) c.args.self.now c.args.pass.now record c.args.pass.now { seat = c.load-serving.new.seat } p refl
    refl c.load-serving.ensures.0 refl refl

pub returns-clause-got : goal.returns-clause-got
returns-clause-got c = got c
