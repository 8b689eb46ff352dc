use Rattle.std.proofs.Common.{arith}
use Rattle.lane_table.specs.Meaning.{nothing}
use Rattle.lane_table.proofs.Calls.Lent.{lent}
use Rattle.rng_core.specs.Sites.{lane_of, own_lane}
use Rattle.rng_core.proofs.crng.integers.serve.Goals as goal

pub visit_cpu-requires-clause-makes : goal.visit_cpu-requires-clause-makes
visit_cpu-requires-clause-makes c = let s = c.args.site.now in
    c.serve.ensures.made (own_lane s) (lane_of s (own_lane s)) nothing c.args.filled (omega arith) c.requires.fill.fills
    (lent _ _ _ _ c.state_mut.ensures.value c.requires.holds.value)
