use Rattle.std.proofs.Common.{false, refl, subst}
use Rattle.key_names.specs.Texts.ScriptFaults.{script_of_draft}
use Rattle.caller_run.specs.Alone.{last_line}
use Rattle.transcript_text.specs.Lines.{whole_line}
use Rattle.rng_tool.specs.LiveSteps.{At, RunsAt}
use Rattle.rng_tool.proofs.LiveEvents.{at_open, can_make, has_made, none_of, not_alone, number_some, open_by}
use Rattle.rng_tool.proofs.LiveGoes.{goes_to_run}
use Rattle.rng_tool.proofs.LiveTexts.{lined_up}
use Rattle.rng_tool.proofs.session_writer.SessionWriter.make_next.Goals as goal

pub returns-in_default-clause-goes : goal.returns-in_default-clause-goes
returns-in_default-clause-goes g c = λ start text line emitted reads before.
    open_by c.begin.result c.args.self.now c.begin.new.self text line emitted start _ _ c.args.view reads.at reads.goes_on
    (none_of c.args.self.now.run c.in_default.not-Some) reads.clean reads.shown c.begin.ensures.opened
    c.begin.ensures.over before

pub make_event-requires-after_bounds : goal.make_event-requires-after_bounds
make_event-requires-after_bounds g c κs within =
    let asked = c.requires in
    let reads = asked.3 in
    let r : RunsAt c.in-Some.run' asked.0 asked.2 =
    subst (λ o. At false o asked.0 asked.2) c.in-Some.is (at_open c.args.self.now asked.0 asked.2 reads.at reads.goes_on) in
    let last = c.in-Some-last_once.ensures.some in (
      script_of_draft reads.shown.draft,
      _,
      _,
      can_make asked.0 asked.1 reads.clean asked.2 c.args.view reads.shown c.in-Some.run' r last.2.0
          c.in-Some-last_once.event.now last.0 last.1 last.2.1,
    )

pub overflow_sub-result : goal.overflow_sub-result
overflow_sub-result g c =
    let asked = c.requires in
    let reads = asked.3 in
    let r : RunsAt c.in-Some.run' asked.0 asked.2 =
    subst (λ o. At false o asked.0 asked.2) c.in-Some.is (at_open c.args.self.now asked.0 asked.2 reads.at reads.goes_on) in
    number_some asked.0 asked.1 reads.clean asked.2 c.args.view reads.shown c.in-Some.run' r

pub returns-in-Some-last_once-clause-goes : goal.returns-in-Some-last_once-clause-goes
returns-in-Some-last_once-clause-goes g c = λ start text line emitted reads before.
    let r : RunsAt c.in-Some.run' text emitted =
    subst (λ o. At false o text emitted) c.in-Some.is (at_open c.args.self.now text emitted reads.at reads.goes_on) in
    let last = c.in-Some-last_once.ensures.some in
    let line_now = last_line c.make_event.new.run in
    goes_to_run c.make_event.result start _ _ (lined_up text line) emitted (whole_line line_now) _ c.make_event.new.run before
    c.make_event.ensures.wrote reads.goes_on refl
    (has_made text line reads.clean emitted c.args.view reads.shown c.in-Some.run' r last.2.0 c.in-Some-last_once.event.now
    last.0 last.1 last.2.1 c.make_event.new.run line_now c.make_event.ensures.fits
    (c.make_event.ensures.made r.has.draft.cpus r.has.draft.events r.has.lines r.has.made))

pub returns-in-None-clause-goes : goal.returns-in-None-clause-goes
returns-in-None-clause-goes g c = λ start text line emitted reads before.
    let r : RunsAt c.in-Some.run' text emitted =
    subst (λ o. At false o text emitted) c.in-Some.is (at_open c.args.self.now text emitted reads.at reads.goes_on) in
    not_alone text line reads.clean emitted c.args.view reads.shown c.in-Some.run' r _ start _ reads.goes_on refl
    (c.in-None.ensures.none refl) before
