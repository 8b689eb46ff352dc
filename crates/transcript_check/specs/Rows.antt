-- The integers among the inferred entries of CPUs have 1, 2, 4 or 8 bytes.
use Rattle.std.specs.Prelude.{List, All}
use Rattle.std.specs.Global.{Vec}
use Rattle.judge_log.specs.Tables.{CpuIsWide}
use Rattle.judge_log.specs.declared.inferred.InferredCpu.{InferredCpu}

abbrev pub AreWide : List (Vec InferredCpu) → Type 0
AreWide lanes = All (λ (lane : Vec InferredCpu). All (λ (t : InferredCpu). CpuIsWide t.entry) lane.items) lanes
