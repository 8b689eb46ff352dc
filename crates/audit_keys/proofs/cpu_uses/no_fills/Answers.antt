use Rattle.std.proofs.Common.{None}
use Rattle.audit_keys.proofs.FillsMore.{at_replicate}
use Rattle.audit_keys.proofs.cpu_uses.no_fills.Goals as goal

pub returns : goal.returns
returns c = λ w low. at_replicate 256 w None low
