use Rattle.std.proofs.Common.{subst}
use Rattle.lane_table.specs.declared.values.LaneState.{LaneState}
use Rattle.lane_table.specs.Meaning.{ValueRepresents}
use Rattle.rng_core.proofs.cpu_values.serve.Goals as goal

pub returns-clause-made : goal.returns-clause-made
returns-clause-made c = λ lane s got fills two ef h. let k =
    subst (λ (z : LaneState). ValueRepresents lane z s) c.in-Cpu.is h in
    (two, c.serve.ensures.made s.cpu got fills k.1 ef)
