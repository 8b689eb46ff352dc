use Rattle.std.proofs.Common.{arith, refl, ℕ}
use Rattle.lane_table.specs.Steps.{Seated}
use Rattle.lane_table.proofs.Calls.Telling.{added_is, replays_push}
use Rattle.lane_table.proofs.lanes.Lanes.put.Goals as goal

pub decide-requires-clause-replays : goal.decide-requires-clause-replays
decide-requires-clause-replays g c = let k = c.requires.entry in let h = k.holds in
    replays_push _ _ _ _ _ k.makes (omega arith) refl

pub returns-clause-added : goal.returns-clause-added
returns-clause-added g c = let m : Seated = c.args.pass.now.seat.me in let i : ℕ = c.args.held.turn.lane in let k =
    c.requires.entry in let h = k.holds in let p = c.requires.pass in
    added_is i _ m c.decide.new.pass.seat.me (omega arith) k.names (omega arith) c.decide.ensures.seat
    c.decide.ensures.consistent
