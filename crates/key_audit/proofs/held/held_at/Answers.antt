use Rattle.std.proofs.Common.{◌∙◌, ap}
use Rattle.audit_keys.specs.Listed.{HasEntries}
use Rattle.audit_keys.specs.StateCut.{all_lists_by}
use Rattle.key_audit.specs.Live.{cut_at, lists_until}
use Rattle.key_audit.proofs.KeptVisits.{keeps_visits}
use Rattle.key_audit.proofs.held.held_at.Goals as goal

pub returns : goal.returns
returns c t callers of ms keeps are =
    let visits = keeps_visits c.args.book.now t callers of ms keeps c.args.moments.now are in
    let has : HasEntries (lists_until c.args.until callers of ms) c.in_ok-lanes.lanes c.in_ok-entries.entries.items =
    record {
      base = rw (← c.stamp.ensures) (c.in_ok-lanes.ensures.base of visits);
      cpus = rw (← c.stamp.ensures) (c.in_ok-lanes.ensures.cpus of visits);
      states = c.in_ok-entries.ensures ∙ ap (all_lists_by (cut_at c.args.until) 0) c.deref.ensures.value
          ∙ keeps.cut (cut_at c.args.until);
    } in
    let lists = lists_until c.args.until callers of ms in
    record {
      keys = c.in_ok-held.ensures.keys lists (rw c.deref-2.ensures.value has);
      rests = c.in_ok-held.ensures.rests lists (rw c.deref-2.ensures.value has);
    }
