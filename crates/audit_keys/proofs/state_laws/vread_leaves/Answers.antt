use Rattle.audit_keys.proofs.VreadsLeave.{vread_leaves}
use Rattle.audit_keys.proofs.state_laws.vread_leaves.Goals as goal

pub returns : goal.returns
returns c = vread_leaves
