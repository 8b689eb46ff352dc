use Rattle.std.proofs.Common.{◌≡◌, length, map, sym, ap, ◌∙◌, arith}
use Rattle.std.specs.Global.{Vec}
use Rattle.std.proofs.lemmas.List.{length-map}
use Rattle.key_names.proofs.Samples.Lines.{fits_long}
use Rattle.judge_lines.specs.declared.bare.BareLine.{BareLine}
use Rattle.judge_lines.specs.Seen.{seen_bare, seen_callers}
use Rattle.judge_lines.specs.Called.{seen_calls}
use Rattle.judge_lines.proofs.LineFits.{callers_long, callers_more}
use Rattle.judge_lines.proofs.AllCalls.{calls_next, calls_end}
use Rattle.judge_lines.proofs.begin.all_calls.Goals as goal

pub caller_calls-requires : goal.caller_calls-requires
caller_calls-requires c =
    let more = callers_more c.loop-caller.caller c.args.script.now.callers c.args.lines.now c.events.result.now
    c.index-lines-caller.result c.events.ensures c.loop-caller-test.true c.index-lines-caller.is in
    ap length c.deref.ensures.value ∙ sym (length-map c.index-lines-caller.result.items seen_bare)
    ∙ fits_long c.loop-caller.caller 0 c.events.result.now (map seen_bare c.index-lines-caller.result.items)
    (more.0 c.loop-caller.invariant.fits).0

pub loop-caller-preserved : goal.loop-caller-preserved
loop-caller-preserved c =
    let more = callers_more c.loop-caller.caller c.args.script.now.callers c.args.lines.now c.events.result.now
    c.index-lines-caller.result c.events.ensures c.loop-caller-test.true c.index-lines-caller.is in record {
      calls = rw c.in_ok-push.ensures.items
          (calls_next c.loop-caller.caller c.args.script.now.callers c.args.lines.now c.loop-caller.calls.items
          c.events.result.now c.index-lines-caller.result c.in_ok-caller_calls.field-0 _ c.events.ensures
          c.loop-caller-test.true c.index-lines-caller.is
          (rw (← c.deref.ensures.value) c.in_ok-caller_calls.ensures) c.loop-caller.invariant.calls);
      fits = (more.0 c.loop-caller.invariant.fits).1;
    }

pub returns : goal.returns
returns c =
    let many : length c.args.lines.now ≡ length c.args.script.now.callers =
    sym (length-map c.args.lines.now (λ (lines : Vec BareLine). map seen_bare lines.items))
    ∙ callers_long 0 c.args.script.now.callers (seen_callers c.args.lines.now) c.requires.lines in
    calls_end c.loop-caller.caller c.args.script.now.callers _ (seen_calls c.loop-caller.calls.items) _
    (omega (arith, c.loop-caller-test.false)) c.loop-caller.invariant.calls
