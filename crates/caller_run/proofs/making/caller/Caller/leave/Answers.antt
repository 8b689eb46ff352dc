use Rattle.std.proofs.Common.{rules}
use Rattle.caller_run.proofs.Events.OwnSites.{has_left}
use Rattle.caller_run.proofs.making.caller.Caller.leave.Goals as goal

pub returns : goal.returns
returns g c = has_left (search rules) (search rules) c.requires.new c.end.ensures.does c.end.ensures.reached
