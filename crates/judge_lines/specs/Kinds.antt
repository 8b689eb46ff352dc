-- The kinds of the steps in a line.
use Rattle.std.specs.Prelude.{ℕ, ◌==◌, Bool, true, false, List, map, if◌then◌else◌}
use Rattle.key_names.specs.declared.entries.BaseEntry.{BaseEntry}
use Rattle.key_names.specs.declared.entries.BaseEntry.TheVariants.{Resume}
use Rattle.key_names.specs.Callers.Effects.{Effect, looked, at_pool, at_base, at_cpu, nothing_there}
use Rattle.judge_lines.specs.declared.kind.Kind.{Kind}
use Rattle.judge_lines.specs.declared.kind.Kind.TheVariants.{Unready, Ready, Pool, Base, Resumed, Cpu, OtherCpu}

-- the kind of a look: one kind if it found generation 0, another if it found a higher generation
abbrev pub look_kind : ℕ → Kind
look_kind g = if g == 0 then Unready else Ready

-- the kind of a visit of the base: a visit that ended a wait because the core was ready has its own kind
abbrev pub base_kind : BaseEntry → Kind
base_kind Resume = Resumed
base_kind _ = Base

-- the kind of a visit of a CPU: one kind for the line's CPU, another for each other CPU
abbrev pub cpu_kind : Bool → Kind
cpu_kind true = Cpu
cpu_kind false = OtherCpu

-- the kind of a step, in a line whose CPU is `cpu`
abbrev pub kind_of : ℕ → Effect → Kind
kind_of cpu (looked g) = look_kind g
kind_of cpu (at_pool v) = Pool
kind_of cpu (at_base v) = base_kind v.entry
kind_of cpu (at_cpu v) = cpu_kind (v.cpu == cpu)
kind_of cpu nothing_there = OtherCpu

abbrev pub kinds_of : ℕ → List Effect → List Kind
kinds_of cpu effects = map (kind_of cpu) effects

-- whether this is the entry of a caller that waited and goes on because the core is ready
abbrev pub is_resume : BaseEntry → Bool
is_resume Resume = true
is_resume _ = false
