use Rattle.std.proofs.Common.{refl, arith}
use Rattle.lane_table.proofs.Rule.Floors.{generation_begun}
use Rattle.rng_core.proofs.SiteLemmas.{does_base}
use Rattle.rng_core.proofs.callers.running.end.Goals as goal

pub returns-clause-does : goal.returns-clause-does
returns-clause-does g c = does_base _ _ _ _ _ _ c.enter-base.ensures c.visit_base.ensures

pub returns-clause-reached : goal.returns-clause-reached
returns-clause-reached g c = let a = c.enter-base.ensures in let seen = c.visit_base.ensures.seen in
    let fresh = (a.low refl).seen in
    let rises = generation_begun _ _ (c.visit_base.ensures.visited.recorded.went.grows 1
    (let s = a.holds.has.pass.sized in omega arith)) in omega arith
