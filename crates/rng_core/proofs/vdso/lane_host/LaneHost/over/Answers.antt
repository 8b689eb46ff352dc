use Rattle.rng_core.proofs.InsideCalls.{fresh_ready}
use Rattle.rng_core.proofs.vdso.lane_host.LaneHost.over.Goals as goal

pub invariant_of-result-clause-ready : goal.invariant_of-result-clause-ready
invariant_of-result-clause-ready g c = fresh_ready c.args.acts.now c.requires.fresh
