use Rattle.std.proofs.Common.{◌+◌, ℕ, ap, subst}
use Rattle.lane_table.specs.Calls.{Ended, view}
use Rattle.lane_table.specs.Steps.{Seated}
use Rattle.draw_below.proofs.Paths.{share_is, table_words}
use Rattle.draw_below.proofs.table_draws.draw_on_new_table.Goals as goal

pub close-visits-requires-clause-whole : goal.close-visits-requires-clause-whole
close-visits-requires-clause-whole g c =
    let drawn = c.draw_by_pass-drawn.ensures.drawn in
    share_is c.first-set.result c.first-set.ensures (view c.in_ok-lanes.pass)
    (view c.add_first_sample.new.pass) (view c.draw_by_pass-drawn.new.pass) drawn.0
    (ap (λ (m : Seated). m.0) c.in_ok-lanes.ensures.seat) c.add_first_sample.ensures.did drawn.1

pub returns : goal.returns
returns g c =
    let drawn = c.draw_by_pass-drawn.ensures.drawn in
    let w = c.draw_by_pass-drawn.new.pass in
    let ended : Ended 3 (view w) =
    subst (λ (n : ℕ). Ended (n + 2) (view w)) c.in_ok-lanes.ensures.table.0 c.close-visits.ensures.ended in
    record {
      words = drawn.0;
      table = table_words c.first-set.result c.first-set.ensures (view c.in_ok-lanes.pass)
          (view c.add_first_sample.new.pass) (view w) drawn.0 (ap (λ (m : Seated). m.0) c.in_ok-lanes.ensures.seat)
          c.add_first_sample.ensures.did drawn.1 ended;
      drawn = drawn.2;
    }
