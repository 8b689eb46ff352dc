use Rattle.std.proofs.Common.{◌≡◌}
use Rattle.event_script.specs.LoadScript.{load_events}
use Rattle.event_script.proofs.load.load_events.Given as goal

abbrev pub invariant-loop-number : goal.invariant-loop-number
invariant-loop-number l = l.events.items ≡ load_events l.start l.callers l.number l.caller
