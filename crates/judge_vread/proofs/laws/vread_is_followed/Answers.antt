use Rattle.judge_vread.proofs.Vreads.{followed_of_vread}
use Rattle.judge_vread.proofs.laws.vread_is_followed.Goals as goal

pub returns : goal.returns
returns c = followed_of_vread
