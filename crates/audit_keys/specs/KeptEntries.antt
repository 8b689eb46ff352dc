-- The entries of the base and of a CPU, taken from the data that `judge_log` keeps of each visit.
use Rattle.std.specs.Prelude.{List, map}
use Rattle.key_names.specs.declared.entries.BaseEntry.{BaseEntry}
use Rattle.key_names.specs.declared.entries.CpuEntry.{CpuEntry}
use Rattle.judge_log.specs.declared.kept.KeptBase.{KeptBase}
use Rattle.judge_log.specs.declared.kept.KeptCpu.{KeptCpu}

abbrev pub base_entries : List KeptBase → List BaseEntry
base_entries kept = map (λ k. k.entry) kept

abbrev pub cpu_entries : List KeptCpu → List CpuEntry
cpu_entries kept = map (λ k. k.entry) kept
