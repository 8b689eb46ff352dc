use Rattle.judge_vread.proofs.VreadInferred.{vread_inferred}
use Rattle.judge_vread.proofs.laws.vread_is_inferred.Goals as goal

pub returns : goal.returns
returns c = vread_inferred
