-- The generation that a caller has seen so far, computed from the data kept about the lanes.
use Rattle.std.specs.Prelude.{ℕ, ◌≤◌, ⊤, ◌-◌, max, Option, Some, None, List, [], length, slice_get, unwrap_or, option_map}
use Rattle.std.specs.Global.{Vec}
use Rattle.key_names.specs.declared.names.LaneId.{LaneId}
use Rattle.key_names.specs.declared.names.LaneId.TheVariants.{Pool as PoolLane, Base as BaseLane, Cpu as CpuLane}
use Rattle.key_names.specs.declared.names.Step.{Step}
use Rattle.key_names.specs.declared.names.Step.TheVariants.{Look, Visit as Marked}
use Rattle.judge_log.specs.declared.kept.KeptBase.{KeptBase}
use Rattle.judge_log.specs.declared.kept.KeptCpu.{KeptCpu}
use Rattle.judge_log.specs.declared.kept.Lists.{Lists as KeptLists}

-- the data kept about the visits of a CPU; an empty list if the CPU does not exist
abbrev pub lane_of : Option (Vec KeptCpu) → List KeptCpu
lane_of None = []
lane_of (Some lane) = lane.items

-- the generation after the visit at `place` of a lane; for a visit of the pool, none
abbrev pub left_at : KeptLists → LaneId → ℕ → Option ℕ
left_at kept PoolLane place = None
left_at kept BaseLane place = option_map (λ k. k.generation) (slice_get kept.base.items place)
left_at kept (CpuLane c) place = option_map (λ k. k.generation) (slice_get (lane_of (slice_get kept.cpus.items c)) place)

-- the generation that the step shows: found by the look, or left by the visit; none for a visit of the pool
abbrev pub found_by : KeptLists → Step → Option ℕ
found_by kept (Look g) = Some g
found_by kept (Marked mark) = left_at kept mark.lane mark.place

-- the greater of the generations `carried` and found. If only one of them is present, the result is this one; if
-- neither is present, the result is none
abbrev pub seen_more : Option ℕ → Option ℕ → Option ℕ
seen_more carried None = carried
seen_more carried (Some found) = Some (max (unwrap_or carried 0) found)

abbrev pub seen_past : KeptLists → Option ℕ → Step → Option ℕ
seen_past kept carried step = seen_more carried (found_by kept step)

-- if the step is a look, it finds at least the generation `carried` seen so far, and at most the number of reseeds
abbrev pub MayLook : ℕ → Option ℕ → Step → Type 0
MayLook reseeds carried (Look g) = (unwrap_or carried 0 ≤ g) × (g ≤ reseeds)
MayLook reseeds carried (Marked mark) = ⊤

-- the number of the base's reseeds, which is the generation after the base's last visit
abbrev pub reseeds_in : List KeptBase → ℕ
reseeds_in base = unwrap_or (option_map (λ k. k.generation) (slice_get base (length base - 1))) 0
