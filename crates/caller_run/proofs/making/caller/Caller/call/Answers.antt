use Rattle.std.proofs.Common.{rules}
use Rattle.caller_run.proofs.Events.Callings.{called}
use Rattle.caller_run.proofs.making.caller.Caller.call.Goals as goal

pub returns : goal.returns
returns g c = called (search rules) (search rules) c.requires.new c.ask.ensures
