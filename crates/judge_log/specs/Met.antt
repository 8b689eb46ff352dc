-- The data kept about the steps of a line, and the seen steps made from them (kinds, found generations and keys).
use Rattle.std.specs.Prelude.{ℕ, ◌==◌, Bool, true, false, Option, Some, None, List, map, slice_get, unwrap_or}
use Rattle.std.specs.Prelude.{if◌then◌else◌}
use Rattle.std.specs.Global.{Vec}
use Rattle.key_names.specs.declared.names.LaneId.{LaneId}
use Rattle.key_names.specs.declared.names.LaneId.TheVariants.{Pool as PoolLane, Base as BaseLane, Cpu as CpuLane}
use Rattle.key_names.specs.declared.names.Step.{Step}
use Rattle.key_names.specs.declared.names.Step.TheVariants.{Look, Visit as Marked}
use Rattle.key_names.specs.Keys.KeyInUse.{zero_key}
use Rattle.judge_lines.specs.declared.kind.Kind.{Kind}
use Rattle.judge_lines.specs.Kinds.{is_resume}
use Rattle.judge_log.specs.declared.kept.KeptPool.{KeptPool}
use Rattle.judge_log.specs.declared.kept.KeptBase.{KeptBase}
use Rattle.judge_log.specs.declared.kept.KeptCpu.{KeptCpu}
use Rattle.judge_log.specs.declared.kept.Lists.{Lists as KeptLists}
use Rattle.judge_vread.specs.declared.seen.SeenStep.{SeenStep}
use Rattle.judge_vread.specs.declared.seen.SeenStep.TheVariants.{Unready, Ready, Pool, Base, Resumed, Cpu, Elsewhere}
use Rattle.judge_vread.specs.Seen.{seen_kind}
use Rattle.judge_log.specs.declared.met.KeptStep.{KeptStep}
use Rattle.judge_log.specs.declared.met.KeptStep.TheVariants.{Looked, InPool, InBase, InCpu, Nothing}

abbrev pub pool_met : Option KeptPool → KeptStep
pool_met None = Nothing
pool_met (Some kept) = InPool kept

abbrev pub base_met : Option KeptBase → KeptStep
base_met None = Nothing
base_met (Some kept) = InBase kept

abbrev pub cpu_met : ℕ → Option KeptCpu → KeptStep
cpu_met cpu None = Nothing
cpu_met cpu (Some kept) = InCpu cpu kept

abbrev pub lane_met : ℕ → ℕ → Option (Vec KeptCpu) → KeptStep
lane_met cpu place None = Nothing
lane_met cpu place (Some lane) = cpu_met cpu (slice_get lane.items place)

abbrev pub mark_met : KeptLists → LaneId → ℕ → KeptStep
mark_met kept PoolLane place = pool_met (slice_get kept.pool.items place)
mark_met kept BaseLane place = base_met (slice_get kept.base.items place)
mark_met kept (CpuLane cpu) place = lane_met cpu place (slice_get kept.cpus.items cpu)

-- a step; a visit also has the data that was kept about it
abbrev pub met_at : KeptLists → Step → KeptStep
met_at kept (Look found) = Looked found
met_at kept (Marked mark) = mark_met kept mark.lane mark.place

abbrev pub met_in : KeptLists → List Step → List KeptStep
met_in kept steps = map (met_at kept) steps

abbrev pub look_seen : ℕ → SeenStep
look_seen g = if g == 0 then Unready else Ready g

abbrev pub base_seen : Bool → List ℕ → SeenStep
base_seen true key = Resumed
base_seen false key = Base key

abbrev pub cpu_seen : Bool → List ℕ → SeenStep
cpu_seen true key = Cpu key
cpu_seen false key = Elsewhere

-- the seen step (kind, found generation or key) made from the kept data; `cpu` is the CPU of the step's line
abbrev pub seen_of : ℕ → KeptStep → SeenStep
seen_of cpu (Looked g) = look_seen g
seen_of cpu (InPool kept) = Pool
seen_of cpu (InBase kept) = base_seen (is_resume kept.entry) (unwrap_or kept.key zero_key)
seen_of cpu (InCpu on kept) = cpu_seen (on == cpu) (unwrap_or kept.source.key zero_key)
seen_of cpu Nothing = Elsewhere

abbrev pub seen_in : ℕ → List KeptStep → List SeenStep
seen_in cpu met = map (seen_of cpu) met

abbrev pub kind_met : ℕ → KeptStep → Kind
kind_met cpu one = seen_kind (seen_of cpu one)

abbrev pub kinds_met : ℕ → List KeptStep → List Kind
kinds_met cpu met = map (kind_met cpu) met
