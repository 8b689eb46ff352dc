use Rattle.std.proofs.Common.{arith, ◌≢◌, ◌<◌, ℕ, length}
use Rattle.lane_table.specs.Steps.{Seated}
use Rattle.lane_table.proofs.Calls.Telling.{got_early, left_tried, taken_is}
use Rattle.lane_table.proofs.Rule.Trying.{loaded_below, tried, missed_tried, three, three_drawn}
use Rattle.lane_table.proofs.lanes.Lanes.try_take_at.Goals as goal

pub try_draw-ticket-requires-clause-early : goal.try_draw-ticket-requires-clause-early
try_draw-ticket-requires-clause-early c = let i : ℕ = c.args.lane in let m : Seated = c.args.pass.now.seat.me in
    let p = c.requires.pass in let l = c.requires.lane in let near : i < length m.0.lanes = omega arith in
    let low = loaded_below i _ _ m _ _ near c.load_serving-serving.ensures.seat c.find_ticket.ensures.seat
    c.find_ticket.result c.find_ticket.ensures.above in omega arith

pub returns-then-find_ticket-ge-LAST-clause-tried : goal.returns-then-find_ticket-ge-LAST-clause-tried
returns-then-find_ticket-ge-LAST-clause-tried c = let i : ℕ = c.args.lane in let m : Seated =
    c.args.pass.now.seat.me in let p = c.requires.pass in let l = c.requires.lane in let near : i < length m.0.lanes =
    omega arith in
    tried i _ _ m _ _ near c.load_serving-serving.ensures.seat c.find_ticket.ensures.seat

pub returns-then-ticket-ge-LAST-clause-tried : goal.returns-then-ticket-ge-LAST-clause-tried
returns-then-ticket-ge-LAST-clause-tried c = let i : ℕ = c.args.lane in let m : Seated = c.args.pass.now.seat.me in
    let p = c.requires.pass in let l = c.requires.lane in let near : i < length m.0.lanes = omega arith in
    let low = loaded_below i _ _ m _ _ near c.load_serving-serving.ensures.seat c.find_ticket.ensures.seat
    c.find_ticket.result c.find_ticket.ensures.above in
    let other : c.try_draw-ticket.result ≢ c.load_serving-serving.result = (λ e. omega arith) in
    missed_tried i _ _ m _ _ near c.load_serving-serving.ensures.seat c.find_ticket.ensures.seat _ _
    (c.try_draw-ticket.ensures.not_drawn other)

pub returns-then-ticket-serving-clause-tried : goal.returns-then-ticket-serving-clause-tried
returns-then-ticket-serving-clause-tried c = let i : ℕ = c.args.lane in let m : Seated = c.args.pass.now.seat.me in
    let p = c.requires.pass in let l = c.requires.lane in let near : i < length m.0.lanes = omega arith in
    missed_tried i _ _ m _ _ near c.load_serving-serving.ensures.seat c.find_ticket.ensures.seat _ _
    (c.try_draw-ticket.ensures.not_drawn c.if-ticket-serving.true)

pub returns-then-content-ge-LAST-clause-tried : goal.returns-then-content-ge-LAST-clause-tried
returns-then-content-ge-LAST-clause-tried c = let i : ℕ = c.args.lane in let m : Seated = c.args.pass.now.seat.me in
    let p = c.requires.pass in let l = c.requires.lane in let near : i < length m.0.lanes = omega arith in
    let drawn = c.try_draw-ticket.ensures.drawn c.if-ticket-serving.false in
    let r = three i _ _ m _ _ near c.load_serving-serving.ensures.seat c.find_ticket.ensures.seat _ _ drawn in
    left_tried near r c.turn.ensures.got c.take_content-content.ensures.value c.take_content-content.ensures.seat l.1
    (three_drawn i _ _ m _ _ near c.load_serving-serving.ensures.seat c.find_ticket.ensures.seat _ _ drawn)
    c.if-content-ge-LAST.true c.leave.new.pass.seat.me c.leave.ensures.seat

pub held-requires-clause-early : goal.held-requires-clause-early
held-requires-clause-early c = let i : ℕ = c.args.lane in let m : Seated = c.args.pass.now.seat.me in let p =
    c.requires.pass in let l = c.requires.lane in let near : i < length m.0.lanes = omega arith in
    let low = loaded_below i _ _ m _ _ near c.load_serving-serving.ensures.seat c.find_ticket.ensures.seat
    c.find_ticket.result c.find_ticket.ensures.above in
    let r = three i _ _ m _ _ near c.load_serving-serving.ensures.seat c.find_ticket.ensures.seat _ _
    (c.try_draw-ticket.ensures.drawn c.if-ticket-serving.false) in (
      omega arith,
      got_early near r c.turn.ensures.got c.take_content-content.ensures.value c.take_content-content.ensures.seat,
      omega arith,
    )

pub returns-clause-taken : goal.returns-clause-taken
returns-clause-taken c = let i : ℕ = c.args.lane in let m : Seated = c.args.pass.now.seat.me in let p =
    c.requires.pass in let l = c.requires.lane in let near : i < length m.0.lanes = omega arith in
    let drawn = c.try_draw-ticket.ensures.drawn c.if-ticket-serving.false in
    let r = three i _ _ m _ _ near c.load_serving-serving.ensures.seat c.find_ticket.ensures.seat _ _ drawn in
    taken_is near r c.turn.ensures.got c.take_content-content.ensures.value c.take_content-content.ensures.seat c.held.result
    (three_drawn i _ _ m _ _ near c.load_serving-serving.ensures.seat c.find_ticket.ensures.seat _ _ drawn)
    c.if-content-ge-LAST.false c.held.ensures.turn c.held.ensures.list c.held.ensures.state
