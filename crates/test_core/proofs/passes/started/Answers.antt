use Rattle.lane_table.proofs.Calls.HandLemmas.{has_new}
use Rattle.test_core.proofs.passes.started.Goals as goal

pub returns-clause-has : goal.returns-clause-has
returns-clause-has c = let k = c.in_ok-started.ensures in has_new _ _ _ _ k.pass.0 k.pass.1 k.seat
