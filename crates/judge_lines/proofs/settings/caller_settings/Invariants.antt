use Rattle.std.proofs.Common.{◌≡◌, ◌++◌, map, drop}
use Rattle.judge_lines.specs.Called.{seen_call}
use Rattle.judge_lines.specs.Settings.{settings_from}
use Rattle.judge_lines.proofs.settings.caller_settings.Given as goal

abbrev pub invariant-loop-call : goal.invariant-loop-call
invariant-loop-call l =
    l.settings.items ++ settings_from l.set (map seen_call (drop l.call-index l.calls))
    ≡ settings_from l.fn.start (map seen_call l.calls)
