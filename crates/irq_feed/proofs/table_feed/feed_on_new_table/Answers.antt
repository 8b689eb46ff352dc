use Rattle.std.proofs.Common.{◌+◌, ◌/◌, ◌∙◌, ℕ, ap, subst}
use Rattle.lane_table.specs.Calls.{Ended, view}
use Rattle.lane_table.specs.Steps.{Seated}
use Rattle.rng_core.specs.declared.setting.Setting.{Setting}
use Rattle.irq_feed.specs.Fed.{mixed_in}
use Rattle.irq_feed.specs.Mixing.{Mixes}
use Rattle.irq_feed.proofs.FedBooks.{is_fed, whole_share}
use Rattle.irq_feed.proofs.table_feed.feed_on_new_table.Goals as goal

pub close-visits-requires-clause-whole : goal.close-visits-requires-clause-whole
close-visits-requires-clause-whole g c =
    let calls = rw c.in_ok-mixed.was at c.feed-mixed.ensures.calls in
    whole_share (mixed_in c.in_ok-mixed.mixed) (view c.in_ok-lanes.pass) (view c.feed-mixed.new.pass)
    (subst (λ (s : Setting). Mixes s 0 (mixed_in c.in_ok-mixed.mixed) (view c.in_ok-lanes.pass) (view c.feed-mixed.new.pass))
    c.first.ensures calls)
    (ap (λ (m : Seated). m.0) c.in_ok-lanes.ensures.seat)

pub returns : goal.returns
returns g c =
    let calls = rw c.in_ok-mixed.was at c.feed-mixed.ensures.calls in
    let all = rw c.in_ok-mixed.was at c.feed-mixed.ensures.all in
    let w = view c.feed-mixed.new.pass in
    let ended : Ended 3 w =
    subst (λ (n : ℕ). Ended (n + 2) w) c.in_ok-lanes.ensures.table.0 c.close-visits.ensures.ended in
    is_fed _ _ _ _ _ c.in_ok-mixed.mixed _ (view c.in_ok-lanes.pass) w c.in_ok-feeds.ensures all
    (subst (λ (s : Setting). Mixes s 0 (mixed_in c.in_ok-mixed.mixed) (view c.in_ok-lanes.pass) w)
    c.first.ensures calls)
    (ap (λ (m : Seated). m.0) c.in_ok-lanes.ensures.seat) ended
    (c.sums.ensures.samples ∙ c.len.ensures) (c.sums.ensures.dumps ∙ ap (λ n. n / 1024) c.len.ensures) c.sums.ensures.bits
