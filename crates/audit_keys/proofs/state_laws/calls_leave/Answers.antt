use Rattle.audit_keys.proofs.CallersLeave.{calls_leave}
use Rattle.audit_keys.proofs.state_laws.calls_leave.Goals as goal

pub returns : goal.returns
returns c = calls_leave
