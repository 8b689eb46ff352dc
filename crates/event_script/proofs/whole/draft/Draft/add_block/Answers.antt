use Rattle.std.proofs.lemmas.List.{map_push}
use Rattle.event_script.specs.Drafts.{draft_as}
use Rattle.event_script.proofs.Tallies.{tallied_block}
use Rattle.event_script.proofs.whole.draft.Draft.add_block.Goals as goal

pub invariant_of-self-2-clause-tallied : goal.invariant_of-self-2-clause-tallied
invariant_of-self-2-clause-tallied c =
    let d = c.args.self.now in
    let t = tallied_block (draft_as d) d.event_count d.bytes_read d.acts d.forked d.tallied in
    rw (
      c.replace-events.ensures.after,
      c.in_ok-no_events.ensures,
      c.push_reserved.ensures.items,
      c.replace-events.ensures.value,
      c.in_ok-reserve.ensures.items,
      map_push,
    ) t
