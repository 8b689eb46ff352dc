use Rattle.std.proofs.Common.{◌≡◌, true, false, List}
use Rattle.key_names.specs.Transcripts.SeenLine.{SeenLine}
use Rattle.judge_lines.specs.Seen.{seen_callers}
use Rattle.serial_replay.proofs.RemadeLines.{few_calls, forks_are, forks_rise, in_range, callers_conform, none_said, all_fill, all_made}
use Rattle.serial_replay.proofs.remake.of_lines.Goals as goal

pub all_said-requires-clause-few : goal.all_said-requires-clause-few
all_said-requires-clause-few g c =
    let conform = rw c.in-Conforms.is at c.in_ok-clause.ensures in
    rw c.deref.ensures.value
    (few_calls c.args.script.now (seen_callers c.args.lines.now) c.in-Conforms.basis.parts conform.parts c.requires.well)

pub all_said-requires-clause-in_range : goal.all_said-requires-clause-in_range
all_said-requires-clause-in_range g c =
    let conform = rw c.in-Conforms.is at c.in_ok-clause.ensures in
    rw c.deref.ensures.value
    (in_range c.args.script.now (seen_callers c.args.lines.now) c.in-Conforms.basis.parts conform.parts c.requires.well)

pub returns-in_default-clause-made : goal.returns-in_default-clause-made
returns-in_default-clause-made g c =
    let t : List (List SeenLine) = seen_callers c.args.lines.now in
    let conform = rw c.in-Conforms.is at c.in_ok-clause.ensures in
    let only = rw (c.in_default.is, c.deref.ensures.value, c.deref-2.ensures.value) at c.in_ok-callers.ensures.only in
    let there = callers_conform c.args.script.now t c.in-Conforms.basis conform c.requires.fit in
    none_said c.args.script.now t c.in-Conforms.basis conform
    (λ lists keeps lanes means.
    let never : false ≡ true = only c.args.script.now t lists there keeps lanes means in cc)

pub all_may_follow-requires : goal.all_may_follow-requires
all_may_follow-requires g c =
    let conform = rw c.in-Conforms.is at c.in_ok-clause.ensures in
    let parts = conform.parts in
    rw (c.deref-3.ensures.value, c.deref-4.ensures.value) (record {
      forks = forks_are c.args.script.now (seen_callers c.args.lines.now) c.in-Conforms.basis.parts parts c.requires.well;
      above = forks_rise c.args.script.now (seen_callers c.args.lines.now) c.in-Conforms.basis.parts parts c.requires.well;
    })

pub returns-clause-made : goal.returns-clause-made
returns-clause-made g c =
    let t : List (List SeenLine) = seen_callers c.args.lines.now in
    let conform = rw c.in-Conforms.is at c.in_ok-clause.ensures in
    let some = rw (c.in-Some.is, c.deref.ensures.value, c.deref-2.ensures.value) at c.in_ok-callers.ensures.some in
    let there = callers_conform c.args.script.now t c.in-Conforms.basis conform c.requires.fit in
    let fill = all_fill c.args.script.now t c.in-Conforms.basis conform in
    let keeps = conform.keeps conform.lists conform.fills conform.lawful in
    let said = some c.args.script.now t conform.lists there keeps conform.lawful.lanes fill in
    let looks = rw (c.of-looks.ensures.lists, c.deref-3.ensures.value, conform.parts.calls) at c.in_ok-looks_conform.ensures in
    all_made c.args.script.now t c.in-Conforms.basis conform (g.N.Note.IsNoted c.args.how.now)
    (record { callers = c.in-Some.callers; looks_conform = c.in_ok-looks_conform.looks_conform; basis = c.in-Conforms.basis }) said c.of-looks.result.reseeds
    c.of-looks.ensures.reseeds looks

pub returns-clause-basis : goal.returns-clause-basis
returns-clause-basis g c = rw c.in-Conforms.is at c.in_ok-clause.ensures
