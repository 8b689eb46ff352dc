use Rattle.std.proofs.Common.{◌≡◌, Some, None, sym, ◌∙◌}
use Rattle.event_script.specs.Drafts.{draft_as}
use Rattle.event_script.specs.Tally.{fork_in}
use Rattle.event_script.proofs.Tallies.{limits_are, tallied_event}
use Rattle.event_script.proofs.whole.draft.Draft.add_event.Goals as goal

pub invariant_of-self-in-Some-clause-tallied : goal.invariant_of-self-in-Some-clause-tallied
invariant_of-self-in-Some-clause-tallied c =
    let d = c.args.self.now in
    let forks : fork_in c.args.event ≡ Some c.in-Some.child = sym c.fork_of-child.ensures ∙ c.in-Some.is in
    let limits = limits_are (draft_as d) c.args.event d.event_count d.bytes_read d.acts d.forked d.tallied in
    let within = sym limits ∙ rw (← c.bytes_read-bytes.ensures, ← c.waiting_after-acts.ensures)
    (sym c.is_past_limits.ensures ∙ c.if-is_past_limits.false) in
    let t = tallied_event (draft_as d) c.args.event d.event_count d.bytes_read d.acts d.forked d.tallied c.requires
    within in
    rw (c.in_ok-push.ensures.items, c.from.ensures, c.bytes_read-bytes.ensures, c.waiting_after-acts.ensures)
    (rw forks at t)

pub invariant_of-self-in_default-clause-tallied : goal.invariant_of-self-in_default-clause-tallied
invariant_of-self-in_default-clause-tallied c =
    let d = c.args.self.now in
    let forks : fork_in c.args.event ≡ None = sym c.fork_of-child.ensures ∙ c.in_default.is in
    let limits = limits_are (draft_as d) c.args.event d.event_count d.bytes_read d.acts d.forked d.tallied in
    let within = sym limits ∙ rw (← c.bytes_read-bytes.ensures, ← c.waiting_after-acts.ensures)
    (sym c.is_past_limits.ensures ∙ c.if-is_past_limits.false) in
    let t = tallied_event (draft_as d) c.args.event d.event_count d.bytes_read d.acts d.forked d.tallied c.requires
    within in
    rw (c.in_ok-push.ensures.items, c.from.ensures, c.bytes_read-bytes.ensures, c.waiting_after-acts.ensures)
    (rw forks at t)
