use Rattle.std.proofs.Common.{rules, ◌∙◌}
use Rattle.event_script.specs.Drafts.{draft_as}
use Rattle.event_script.proofs.ShortLines.{irq_adds}
use Rattle.event_script.proofs.whole.reading.read_line.Goals as goal

pub returns-in_err-add_light-clause-next : goal.returns-in_err-add_light-clause-next
returns-in_err-add_light-clause-next c =
    let adds = irq_adds (draft_as c.args.draft.now) c.in-Some.v1 c.in-Some.v2 c.args.text.now c.in-Some.rest.now
    c.args.draft.now.head.few c.in-Some.ensures.short c.in-Some.ensures.spelt in
    let failed = rw (← adds.0) at c.in_err-add_light.ensures.next in
    search (rules, failed)

pub returns-in-Some-clause-next : goal.returns-in-Some-clause-next
returns-in-Some-clause-next c =
    let adds = irq_adds (draft_as c.args.draft.now) c.in-Some.v1 c.in-Some.v2 c.args.text.now c.in-Some.rest.now
    c.args.draft.now.head.few c.in-Some.ensures.short c.in-Some.ensures.spelt in
    adds.0 ∙ c.in_ok-add_light.ensures.next

pub returns-in-Some-clause-rest : goal.returns-in-Some-clause-rest
returns-in-Some-clause-rest c =
    (irq_adds (draft_as c.args.draft.now) c.in-Some.v1 c.in-Some.v2 c.args.text.now c.in-Some.rest.now
    c.args.draft.now.head.few c.in-Some.ensures.short c.in-Some.ensures.spelt).1
