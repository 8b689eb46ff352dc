-- The code groups events and lines into calls. Here these calls become calls of the definitions in `key_names`.
use Rattle.std.specs.Prelude.{Bool, true, false, List, map}
use Rattle.std.specs.Global.{Vec}
use Rattle.key_names.specs.declared.events.Event.{Event}
use Rattle.key_names.specs.declared.events.Event.TheVariants.{Vread as VreadEvent}
use Rattle.key_names.specs.Callers.Calls as calls
use Rattle.judge_lines.specs.declared.called.ActLine.{ActLine}
use Rattle.judge_lines.specs.declared.called.CalledLines.{CalledLines}
use Rattle.judge_lines.specs.declared.called.CalledLines.TheVariants.{Alone, Vread, Unbound, Ending}
use Rattle.judge_lines.specs.Seen.{seen_bare}

abbrev pub seen_act : ActLine → calls.BoundAct
seen_act a = record { point = a.point; act = a.act; line = seen_bare a.line }

abbrev pub seen_call : CalledLines → calls.Call
seen_call (Alone event line) = calls.alone event.now (seen_bare line)
seen_call (Vread len flags line acts) = calls.vread_call len flags (seen_bare line) (map seen_act acts.items)
seen_call (Unbound act) = calls.unbound (seen_act act)
seen_call (Ending line) = calls.ending (seen_bare line)

abbrev pub seen_calls : List (Vec CalledLines) → List (List calls.Call)
seen_calls callers = map (λ calls. map seen_call calls.items) callers

abbrev pub is_vread : Event → Bool
is_vread (VreadEvent len flags) = true
is_vread _ = false
