use Rattle.std.proofs.Common.{arith}
use Rattle.lane_table.specs.Meaning.{nothing}
use Rattle.lane_table.proofs.Calls.Lent.{lent}
use Rattle.rng_core.proofs.crng.reads.read_fresh.Goals as goal

pub visit_cpu-requires-clause-makes : goal.visit_cpu-requires-clause-makes
visit_cpu-requires-clause-makes c = c.read-rest.ensures.made _ _ nothing c.args.look (omega arith)
    (lent _ _ _ _ c.state_mut.ensures.value c.requires.holds.value)
