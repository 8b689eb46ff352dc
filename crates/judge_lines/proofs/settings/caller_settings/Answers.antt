use Rattle.std.proofs.Common.{map, refl}
use Rattle.judge_lines.specs.Called.{seen_call}
use Rattle.judge_lines.specs.Settings.{settings_from}
use Rattle.judge_lines.proofs.Fronts.{all_done}
use Rattle.judge_lines.proofs.SettingsFound.{found_next}
use Rattle.judge_lines.proofs.settings.caller_settings.Goals as goal

pub loop-call-preserved : goal.loop-call-preserved
loop-call-preserved c = rw (c.in_ok-push.ensures.items, c.follow.ensures, c.again.ensures)
    (found_next c.args.calls.now c.loop-call.call-index c.call-item.result c.loop-call.set c.loop-call.settings.items _
    c.loop-call-test.true c.call-item.is c.loop-call.invariant)

pub returns : goal.returns
returns c =
    all_done (λ xs. settings_from c.loop-call.set (map seen_call xs)) c.args.calls.now c.loop-call.call-index
    c.loop-call.settings.items _ c.loop-call-test.false refl c.loop-call.invariant
