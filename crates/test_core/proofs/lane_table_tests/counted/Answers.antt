use Rattle.std.proofs.Common.{sym, ◌∙◌}
use Rattle.lane_table.specs.Calls.{view}
use Rattle.lane_table.proofs.Calls.HandLemmas.{has_joined, idle_of}
use Rattle.test_core.proofs.lane_table_tests.counted.Goals as goal

pub close-requires-clause-idle : goal.close-requires-clause-idle
close-requires-clause-idle c = let p = c.requires.pass.0 in let o = c.requires.other.0 in
    idle_of c.args.lanes 0 c.join.new.pass (has_joined c.args.lanes 0 (view c.args.other) c.args.pass c.join.new.pass
    (p.pass.sized ∙ sym o.pass.sized) p c.join.ensures.pass c.join.ensures.both)
