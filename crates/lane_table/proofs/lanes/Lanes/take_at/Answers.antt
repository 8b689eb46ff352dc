use Rattle.std.proofs.Common.{arith, ap, ◌<◌, ◌^◌, ℕ, length}
use Rattle.lane_table.specs.Steps.{Seated}
use Rattle.lane_table.proofs.Rule.Restaging.{Restages, restages_queued, restages_to}
use Rattle.lane_table.proofs.Calls.Telling.{got_early, taken_is}
use Rattle.lane_table.proofs.lanes.Lanes.take_at.Goals as goal
use Rattle.lane_table.proofs.lanes.Lanes.take_at.Goals.{then-content-ge-LAST, else-content-ge-LAST}

pub held-requires-clause-early : goal.held-requires-clause-early
held-requires-clause-early g c = let i : ℕ = c.args.lane in let m : Seated = c.args.pass.now.seat.me in let p =
    c.requires.pass in let near : i < length m.0.lanes = omega arith in
    let r : Restages i m c.draw-ticket.new.pass.seat.me =
    restages_to (restages_queued i c.draw-ticket.result m) c.draw-ticket.ensures.drawn in (
      c.draw-ticket.ensures.early,
      got_early near r c.wait_for.ensures.got c.take_content-content.ensures.value c.take_content-content.ensures.seat,
      elim c.if-content-ge-LAST.branch [
        | then-content-ge-LAST w ↦
            absurd w.wait_for_ever.ensures
        | else-content-ge-LAST w ↦ omega arith
      ],
    )

pub returns-clause-taken : goal.returns-clause-taken
returns-clause-taken g c = let i : ℕ = c.args.lane in let m : Seated = c.args.pass.now.seat.me in let p =
    c.requires.pass in let near : i < length m.0.lanes = omega arith in
    let r : Restages i m c.draw-ticket.new.pass.seat.me =
    restages_to (restages_queued i c.draw-ticket.result m) c.draw-ticket.ensures.drawn in
    let early : c.take_content-content.result.stamp < 2 ^ 62 =
    elim c.if-content-ge-LAST.branch [
      | then-content-ge-LAST w ↦
          absurd w.wait_for_ever.ensures
      | else-content-ge-LAST w ↦ omega arith
    ] in
    taken_is near r c.wait_for.ensures.got c.take_content-content.ensures.value c.take_content-content.ensures.seat c.held.result
    (ap (λ (z : Seated). z.0.drawn) c.draw-ticket.ensures.drawn) early c.held.ensures.turn c.held.ensures.list
    c.held.ensures.state
