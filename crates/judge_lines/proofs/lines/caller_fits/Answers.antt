use Rattle.std.proofs.Common.{◌≡◌, ◌+◌, length, map, refl, sym, ◌∙◌, arith}
use Rattle.std.proofs.lemmas.List.{length-map}
use Rattle.key_names.proofs.Samples.Lines.{fits_long}
use Rattle.judge_lines.specs.Seen.{seen_bare}
use Rattle.judge_lines.proofs.LineFits.{fits_more, fits_last}
use Rattle.judge_lines.proofs.lines.caller_fits.Goals as goal

pub returns-then-lines-events : goal.returns-then-lines-events
returns-then-lines-events c = (
  (λ h. cc),
  (λ fit.
      let e : length c.args.lines.now ≡ length c.args.events.now + 1 =
      sym (length-map c.args.lines.now seen_bare)
      ∙ fits_long c.args.caller 0 c.args.events.now (map seen_bare c.args.lines.now) fit in absurd (omega arith)),
)

pub returns-then-not-is_line : goal.returns-then-not-is_line
returns-then-not-is_line c =
    let more = fits_more c.args.caller c.loop-number.number c.args.events.now c.args.lines.now
    c.index-events-number.result c.index-lines-number.result c.loop-number-test.true (omega arith)
    c.index-events-number.is c.index-lines-number.is in (
      (λ h. cc),
      (λ fit. c.if-not-is_line.ensures.1 (rw c.word.ensures (more.0 (c.loop-number.invariant.0 fit)).0)),
    )

pub loop-number-preserved : goal.loop-number-preserved
loop-number-preserved c =
    let more = fits_more c.args.caller c.loop-number.number c.args.events.now c.args.lines.now
    c.index-events-number.result c.index-lines-number.result c.loop-number-test.true (omega arith)
    c.index-events-number.is c.index-lines-number.is in (
      (λ fit. (more.0 (c.loop-number.invariant.0 fit)).1),
      (λ rest. c.loop-number.invariant.1
          (more.1 (rw (← c.word.ensures) (c.if-not-is_line.ensures.0 refl), rest))),
    )

pub returns : goal.returns
returns c =
    let last = fits_last c.args.caller c.loop-number.number c.args.events.now c.args.lines.now
    c.index-lines-events.result (length c.args.events.now) (omega arith) refl c.if-lines-events.false
    c.index-lines-events.is in (
      (λ is. c.loop-number.invariant.1 (last.1 (c.is_line-2.ensures.0 is))),
      (λ fit. c.is_line-2.ensures.1 (last.0 (c.loop-number.invariant.0 fit))),
    )
