use Rattle.std.proofs.Common.{length, ap, arith}
use Rattle.rng_core.proofs.ActRuns.{acts_onward}
use Rattle.rng_core.proofs.Hosting.{published_more}
use Rattle.rng_core.proofs.vdso.hosting.LaneHostVHost.at.Goals as goal

pub invariant_of-self-clause-room : goal.invariant_of-self-clause-room
invariant_of-self-clause-room g c =
    let o = (acts_onward _ _ _ _ _ _ _ c.run_acts-wiped.ensures.ran).floors in
    let r = c.args.self.now.room in let t = ap length c.run_acts-wiped.ensures.keeps.trace in omega arith

pub returns-then-is_first-clause-floor : goal.returns-then-is_first-clause-floor
returns-then-is_first-clause-floor g c = published_more _ _
    (acts_onward _ _ _ _ _ _ _ c.run_acts-wiped.ensures.ran).floors
