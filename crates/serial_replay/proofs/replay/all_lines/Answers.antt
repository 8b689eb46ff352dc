use Rattle.std.proofs.Common.{◌≡◌, ℕ, ◌<◌, ◌≤◌, List, length, sym, subst, ap, ◌∙◌, arith}
use Rattle.std.specs.List.{AllByRecursion}
use Rattle.std.proofs.lemmas.List.{length-map}
use Rattle.key_names.specs.Lanes.Book.{list_at}
use Rattle.key_names.specs.Transcripts.SeenLine.{SeenLine}
use Rattle.key_names.specs.Texts.TranscriptGrammar.{LastHasLines}
use Rattle.transcript_text.specs.declared.caller_lines.CallerLines.{CallerLines}
use Rattle.judge_log.specs.declared.said.MadeLine.{MadeLine}
use Rattle.serial_replay.specs.Agreement.{Agrees}
use Rattle.serial_replay.specs.Remade.{said_lists}
use Rattle.serial_replay.specs.Written.{MayShow}
use Rattle.serial_replay.proofs.WrittenLines.{callers_end, last_lines, said_long, lines_at, said_at}
use Rattle.serial_replay.proofs.replay.all_lines.Goals as goal

pub caller_lines-requires : goal.caller_lines-requires
caller_lines-requires c =
    let n : ℕ = c.loop-caller.caller in
    let low : n < length c.args.steps.now = (let e = c.callers-caller-end.ensures.number in omega (arith, c.loop-caller-test.true)) in
    let low' : n < length c.args.said.now = omega (arith, c.requires.long) in
    let said : c.deref.result.now ≡ list_at (said_lists c.args.said.now) n =
    c.deref.ensures.value ∙ said_at c.args.said.now n c.index-said-caller.result low' c.index-said-caller.is in
    let lines : c.caller.result.now.lines ≡ list_at c.args.steps.now n = c.caller.ensures ∙ lines_at c.args.steps.now n in
    subst (λ (ls : List SeenLine). AllByRecursion (Agrees MayShow c.deref.result.now) ls) (sym lines)
    (subst (λ (s : List MadeLine). AllByRecursion (Agrees MayShow s) (list_at c.args.steps.now n)) (sym said)
    (c.requires.kinds n low))

pub of-requires-clause-few : goal.of-requires-clause-few
of-requires-clause-few c =
    let high : length c.args.steps.now ≤ c.loop-caller.caller =
    (let e = c.callers-caller-end.ensures.number in omega (arith, c.loop-caller-test.false)) in
    let whole = callers_end c.args.said.now c.args.steps.now _ c.loop-caller.caller high c.loop-caller.invariant in
    let long : length c.loop-caller.callers.items ≡ length c.args.steps.now =
    sym (length-map c.loop-caller.callers.items (λ (l : CallerLines). l.lines)) ∙ ap length whole
    ∙ said_long (said_lists c.args.said.now) c.args.steps.now in
    omega (arith, c.loop-caller.callers.ok.0, c.callers-caller-end.ensures.fits.few_callers)

pub of-requires-clause-last : goal.of-requires-clause-last
of-requires-clause-last c =
    let high : length c.args.steps.now ≤ c.loop-caller.caller =
    (let e = c.callers-caller-end.ensures.number in omega (arith, c.loop-caller-test.false)) in
    let whole = callers_end c.args.said.now c.args.steps.now _ c.loop-caller.caller high c.loop-caller.invariant in
    subst LastHasLines (sym whole)
    (last_lines (said_lists c.args.said.now) c.args.steps.now c.callers-caller-end.ensures.fits.last)
