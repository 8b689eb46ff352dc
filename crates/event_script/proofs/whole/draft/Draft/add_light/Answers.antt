use Rattle.std.proofs.Common.{arith}
use Rattle.event_script.specs.Drafts.{draft_as}
use Rattle.event_script.proofs.Tallies.{tallied_light}
use Rattle.event_script.proofs.whole.draft.Draft.add_light.Goals as goal

pub invariant_of-self-2-clause-tallied : goal.invariant_of-self-2-clause-tallied
invariant_of-self-2-clause-tallied c =
    let d = c.args.self.now in
    let t = tallied_light (draft_as d) c.args.event d.event_count d.bytes_read d.acts d.forked d.tallied c.requires.range
    c.requires.light (omega arith) in
    rw c.in_ok-push.ensures.items t
