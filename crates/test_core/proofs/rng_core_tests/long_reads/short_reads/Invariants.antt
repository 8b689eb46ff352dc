use Rattle.std.proofs.Common.{[]}
use Rattle.lane_table.specs.Hands.{HoldsLanes}
use Rattle.test_core.proofs.rng_core_tests.long_reads.short_reads.Given as goal

abbrev pub invariant-loop : goal.invariant-loop
invariant-loop g l = HoldsLanes l.lanes 1 [] l.pass
