use Rattle.std.proofs.Common.{◌≡◌, map}
use Rattle.std.specs.List.{range_with_len}
use Rattle.event_script.specs.LoadScript.{load_events}
use Rattle.event_script.proofs.load.load_blocks.Given as goal

abbrev pub invariant-loop-caller : goal.invariant-loop-caller
invariant-loop-caller l =
    map (λ events. events.items) l.blocks.items ≡ map (load_events l.start l.callers l.count)
    (range_with_len 0 l.caller)
