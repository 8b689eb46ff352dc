use Rattle.std.proofs.Common.{◌≡◌, ℕ, ◌+◌, length, rules, ap, subst}
use Rattle.lane_table.specs.Calls.{Ended, view}
use Rattle.lane_table.specs.Steps.{Seated}
use Rattle.lane_table.proofs.Calls.HandLemmas.{idle_of}
use Rattle.fork_runs.proofs.Ends.{share_is, forked_bytes, plain_sample, plain_reached, plain_over}
use Rattle.fork_runs.proofs.table_forks.fork_at.Goals as goal

pub close-visits-requires-clause-idle : goal.close-visits-requires-clause-idle
close-visits-requires-clause-idle g c =
    idle_of c.in_ok-lanes.lanes 1 c.fork_at_stop-pass.result c.fork_at_stop-pass.ensures.has

pub close-visits-requires-clause-whole : goal.close-visits-requires-clause-whole
close-visits-requires-clause-whole g c =
    let set = c.first.result in
    let call = c.begin.result in
    let later = c.reach_stop.new.held.call in
    let n = length c.args.parent.now in
    let same : call.len ≡ n = search rules in
    let p = view c.in_ok-lanes.pass in
    let q = view c.make_ready.new.pass in
    let w = view c.reach_stop.new.pass in
    share_is c.args.stop.attempt c.args.stop.point n p q w (view c.fork_at_stop-pass.result) later.stage c.reach_stop.new.buf
    c.reach_stop.new.held.st c.fork_at_stop-pass.new.buf c.fork_at_stop-pass.new.child_buf
    (ap (λ (m : Seated). m.0) c.in_ok-lanes.ensures.seat)
    (plain_sample set n call.len later.len call.flags later.flags c.wiped.result c.first.ensures same
    c.reach_stop.ensures.len c.begin.ensures.flags c.reach_stop.ensures.flags c.wiped.ensures p q
    c.make_ready.ensures.did)
    (plain_reached set n call.len later.len call.flags later.flags c.wiped.result c.first.ensures same
    c.reach_stop.ensures.len c.begin.ensures.flags c.reach_stop.ensures.flags c.wiped.ensures c.args.stop.attempt
    c.args.stop.point later.stage c.reach_stop.new.buf c.reach_stop.new.held.st q w
    c.reach_stop.ensures.reached)
    (plain_over set n call.len later.len call.flags later.flags c.wiped.result c.first.ensures same
    c.reach_stop.ensures.len c.begin.ensures.flags c.reach_stop.ensures.flags c.wiped.ensures later.stage
    c.reach_stop.new.buf c.reach_stop.new.held.st c.fork_at_stop-pass.new.buf c.fork_at_stop-pass.new.child_buf w
    (view c.fork_at_stop-pass.result) c.fork_at_stop-pass.ensures.forked)

pub returns : goal.returns
returns g c =
    let set = c.first.result in
    let call = c.begin.result in
    let later = c.reach_stop.new.held.call in
    let n = length c.args.parent.now in
    let same : call.len ≡ n = search rules in
    let p = view c.in_ok-lanes.pass in
    let q = view c.make_ready.new.pass in
    let w = view c.reach_stop.new.pass in
    let x = view c.fork_at_stop-pass.result in
    let ended : Ended 3 x = subst (λ (k : ℕ). Ended (k + 2) x) c.in_ok-lanes.ensures.table.0 c.close-visits.ensures.ended
    in
    forked_bytes c.args.stop.attempt c.args.stop.point n p q w x later.stage c.reach_stop.new.buf
    c.reach_stop.new.held.st c.fork_at_stop-pass.new.buf c.fork_at_stop-pass.new.child_buf
    (ap (λ (m : Seated). m.0) c.in_ok-lanes.ensures.seat)
    (plain_sample set n call.len later.len call.flags later.flags c.wiped.result c.first.ensures same
    c.reach_stop.ensures.len c.begin.ensures.flags c.reach_stop.ensures.flags c.wiped.ensures p q
    c.make_ready.ensures.did)
    (plain_reached set n call.len later.len call.flags later.flags c.wiped.result c.first.ensures same
    c.reach_stop.ensures.len c.begin.ensures.flags c.reach_stop.ensures.flags c.wiped.ensures c.args.stop.attempt
    c.args.stop.point later.stage c.reach_stop.new.buf c.reach_stop.new.held.st q w
    c.reach_stop.ensures.reached)
    (plain_over set n call.len later.len call.flags later.flags c.wiped.result c.first.ensures same
    c.reach_stop.ensures.len c.begin.ensures.flags c.reach_stop.ensures.flags c.wiped.ensures later.stage
    c.reach_stop.new.buf c.reach_stop.new.held.st c.fork_at_stop-pass.new.buf c.fork_at_stop-pass.new.child_buf w x
    c.fork_at_stop-pass.ensures.forked)
    c.requires.some ended c.forks_are_recorded.ensures c.child_takes_key.ensures
