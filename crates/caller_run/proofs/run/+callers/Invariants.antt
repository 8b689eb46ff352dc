use Rattle.std.proofs.Common.{◌+◌, length}
use Rattle.key_names.specs.Lanes.Book.{list_at}
use Rattle.caller_run.specs.Layouts.{layout}
use Rattle.caller_run.specs.RunningCallers.{load, kids_of}
use Rattle.caller_run.proofs.run.+callers.Given as goal

abbrev pub decreases-run_from-scope-start : goal.decreases-run_from-scope-start
decreases-run_from-scope-start g l = length (list_at l.script.now.callers (layout l.kid).caller) + load l.script.now.callers (layout l.kid).kids + 3

abbrev pub decreases-run_from-scope : goal.decreases-run_from-scope
decreases-run_from-scope g l = length l.rest.now + load l.script.now.callers (kids_of l.running)
    + (length (list_at l.script.now.callers (layout l.kid).caller) + load l.script.now.callers (layout l.kid).kids + 4)

abbrev pub decreases-run_family : goal.decreases-run_family
decreases-run_family g l = length (list_at l.shared.now.script.now.callers (layout l.room).caller) + load l.shared.now.script.now.callers (layout l.room).kids + 2

abbrev pub decreases-run_from : goal.decreases-run_from
decreases-run_from g l = length l.events.now + load l.shared.now.script.now.callers (kids_of l.running)
