use Rattle.std.proofs.Common.{◌≡◌, length, map, refl, sym, ◌∙◌, arith}
use Rattle.std.proofs.lemmas.List.{length-map}
use Rattle.judge_lines.specs.Seen.{seen_bare, seen_callers}
use Rattle.judge_lines.proofs.LineFits.{callers_long, callers_more}
use Rattle.judge_lines.proofs.lines.lines_fit.Goals as goal

pub returns-then-callers : goal.returns-then-callers
returns-then-callers c = (
  (λ h. cc),
  (λ fit.
      let e : length c.args.callers.now ≡ length c.args.script.now.callers =
      sym (length-map c.args.callers.now (λ lines. map seen_bare lines.items))
      ∙ callers_long 0 c.args.script.now.callers (seen_callers c.args.callers.now) fit in absurd (omega arith)),
)

pub returns-then-not-caller_fits : goal.returns-then-not-caller_fits
returns-then-not-caller_fits c =
    let more = callers_more c.loop-caller.caller c.args.script.now.callers c.args.callers.now c.events.result.now
    c.index-callers-caller.result c.events.ensures c.loop-caller-test.true c.index-callers-caller.is in (
      (λ h. cc),
      (λ fit. c.if-not-caller_fits.ensures.1 (rw c.deref.ensures.value (more.0 (c.loop-caller.invariant.0 fit)).0)),
    )

pub loop-caller-preserved : goal.loop-caller-preserved
loop-caller-preserved c =
    let more = callers_more c.loop-caller.caller c.args.script.now.callers c.args.callers.now c.events.result.now
    c.index-callers-caller.result c.events.ensures c.loop-caller-test.true c.index-callers-caller.is in (
      (λ fit. (more.0 (c.loop-caller.invariant.0 fit)).1),
      (λ rest. c.loop-caller.invariant.1
          (more.1 (rw (← c.deref.ensures.value) (c.if-not-caller_fits.ensures.0 refl), rest))),
    )
