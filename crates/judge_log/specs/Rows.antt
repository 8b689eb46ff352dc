-- At the place of each mark, the tables have the entry inferred for this mark.
use Rattle.std.specs.Prelude.{ℕ, ◌≡◌, ◌<◌, ⊤, Bool, true, false, Some, List, [], ◌∷◌, length, slice_get}
use Rattle.std.specs.List.{AllByRecursion}
use Rattle.key_names.specs.declared.entries.PoolEntry.TheVariants.{Extract}
use Rattle.key_names.specs.declared.entries.Taken.TheVariants.{User}
use Rattle.key_names.specs.declared.names.LaneId.{LaneId}
use Rattle.key_names.specs.declared.names.LaneId.TheVariants.{Pool as PoolLane, Base as BaseLane, Cpu as CpuLane}
use Rattle.key_names.specs.declared.names.Step.{Step}
use Rattle.key_names.specs.declared.names.Step.TheVariants.{Look, Visit as Marked}
use Rattle.key_names.specs.Lanes.Book.{list_at}
use Rattle.key_names.specs.Callers.Calls.{Setting, Call, alone, vread_call, unbound, ending, BoundAct, setting_after_call}
use Rattle.key_names.specs.Transcripts.IsTranscript.{start_setting}
use Rattle.key_names.specs.Lanes.PoolNotes.{entry_of}
use Rattle.judge_lines.specs.declared.inferred.Neighbours.{Neighbours}
use Rattle.judge_lines.specs.declared.inferred.PoolInferred.{PoolInferred}
use Rattle.judge_lines.specs.declared.inferred.PoolInferred.TheVariants.{Own as own, Extracted as extracted, Dumped as dumped_inferred}
use Rattle.judge_lines.specs.declared.inferred.Sign.{Sign}
use Rattle.judge_lines.specs.declared.inferred.Sign.TheVariants.{Saw as saw, InPool as in_pool, InBase as in_base}
use Rattle.judge_lines.specs.declared.inferred.Sign.TheVariants.{InCpu as in_cpu, Nowhere as nowhere}
use Rattle.judge_lines.specs.Inferred.{Telling, reads, samples, silent, ends, telling, act_telling, taken_by, own_entry}
use Rattle.judge_lines.specs.Inferred.{pool_inferred, base_inferred, cpu_inferred}
use Rattle.judge_log.specs.declared.inferred.InferredPool.{InferredPool}
use Rattle.judge_log.specs.declared.inferred.InferredPool.TheVariants.{Is as pool_is, Dumped as dumped}
use Rattle.judge_log.specs.declared.inferred.InferredCpu.{InferredCpu}
use Rattle.judge_log.specs.Tables.{Tables}

-- ---- the visible part of a step: its lane and place

abbrev pub lane_sign : LaneId → ℕ → Sign
lane_sign PoolLane place = in_pool place
lane_sign BaseLane place = in_base place
lane_sign (CpuLane c) place = in_cpu c place

abbrev pub step_sign : Step → Sign
step_sign (Look g) = saw g
step_sign (Marked mark) = lane_sign mark.lane mark.place

abbrev pub first_shown : List Step → Sign
first_shown [] = nowhere
first_shown (step ∷ steps) = step_sign step

-- ---- the rows of the tables

-- the row of the pool's table is the inferred entry
abbrev pub IsPoolRow : Setting → Telling → PoolInferred → InferredPool → Type 0
IsPoolRow set t own (pool_is note) = entry_of note ≡ own_entry t
IsPoolRow set t own (dumped cpu place) = ⊥
IsPoolRow set t (extracted i) (pool_is note) = entry_of note ≡ Extract set.hw i
IsPoolRow set t (extracted i) (dumped cpu place) = ⊥
IsPoolRow set t (dumped_inferred c k) (pool_is note) = ⊥
IsPoolRow set t (dumped_inferred c k) (dumped cpu place) = (cpu ≡ c) × (place ≡ k)

pub record PoolRowAt (inferred : Tables) (set : Setting) (t : Telling) (neighbours : Neighbours) (place : ℕ) : Type 0 where
  pub row : InferredPool
  pub is : slice_get inferred.pool place ≡ Some row
  pub tells : IsPoolRow set t (pool_inferred t neighbours) row

-- whether the visible part of a step is a visit of a CPU; in an interrupt's line, such a visit right after the sample
-- is a dump
abbrev pub is_on_cpu : Sign → Bool
is_on_cpu (in_cpu c k) = true
is_on_cpu _ = false

abbrev pub dumps_inferred : Telling → Neighbours → Bool
dumps_inferred (samples v1 v2) neighbours = is_on_cpu neighbours.following
dumps_inferred _ neighbours = false

abbrev pub cpu_row : Setting → Telling → Sign → Neighbours → InferredCpu
cpu_row set t first neighbours = record { entry = cpu_inferred set t first neighbours; dumps = dumps_inferred t neighbours }

-- the row at a place of a lane is the row inferred from the steps around the visit; `first` is the line's first step
abbrev pub RowAt : Tables → Setting → Telling → Sign → Neighbours → LaneId → ℕ → Type 0
RowAt inferred set t first neighbours PoolLane place = PoolRowAt inferred set t neighbours place
RowAt inferred set t first neighbours BaseLane place = slice_get inferred.base place ≡ Some (base_inferred set t neighbours)
RowAt inferred set t first neighbours (CpuLane c) place =
    slice_get (list_at inferred.cpus c) place ≡ Some (cpu_row set t first neighbours)

-- ---- the rows of one line

-- `R` holds of each step with its neighbours (the steps around it); `a` and `b` are the signs of the two steps before
-- the first step
abbrev pub AllRows : (Neighbours → Step → Type 0) → Sign → Sign → List Step → Type 0
AllRows R a b [] = ⊤
AllRows R a b (step ∷ steps) =
    R (record { second_before = a; before = b; following = first_shown steps }) step × AllRows R b (step_sign step) steps

-- the kind of a vread's line at one step: a read of n bytes if no step follows, and otherwise a read of 32 bytes
abbrev pub part_telling : ℕ → Neighbours → Telling
part_telling n neighbours = reads (taken_by (User 32) (User n) neighbours.following)

module _ (inferred : Tables) where
  -- if the step is a visit, the row at the visit's place is the row inferred from the line's kind and the steps around
  -- the visit
  abbrev pub RowConforms : Setting → (Neighbours → Telling) → Sign → Neighbours → Step → Type 0
  RowConforms set tell first neighbours (Look g) = ⊤
  RowConforms set tell first neighbours (Marked mark) = RowAt inferred set (tell neighbours) first neighbours mark.lane mark.place

  abbrev pub LineRows : Setting → (Neighbours → Telling) → List Step → Type 0
  LineRows set tell steps = AllRows (RowConforms set tell (first_shown steps)) nowhere nowhere steps

  abbrev pub ActRows : Setting → BoundAct → Type 0
  ActRows set bound = LineRows set (λ neighbours. act_telling bound.act) bound.line.steps

  -- at the place of each mark in a call's lines, the tables have the row inferred for this mark; `set` is the call's
  -- setting
  abbrev pub CallRows : Setting → Call → Type 0
  CallRows set (alone event line) = LineRows set (λ neighbours. telling set event) line.steps
  CallRows set (vread_call n flags line acts) =
      LineRows set (part_telling n) line.steps × AllByRecursion (ActRows set) acts
  CallRows set (unbound bound) = LineRows set (λ neighbours. silent) bound.line.steps
  CallRows set (ending line) = LineRows set (λ neighbours. ends) line.steps

  abbrev pub CallsRows : Setting → List Call → Type 0
  CallsRows set [] = ⊤
  CallsRows set (call ∷ calls) = CallRows set call × CallsRows (setting_after_call set call) calls

  -- at the place of each mark in the lines of all callers, the tables have the row inferred for this mark
  abbrev pub AllCallsRows : List (List Call) → Type 0
  AllCallsRows callers = (c : ℕ) → c < length callers → CallsRows (start_setting callers c) (list_at callers c)
