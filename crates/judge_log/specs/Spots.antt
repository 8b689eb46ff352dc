-- A spot is a step with everything from which its entry is inferred. The rows of all spots are put into the tables in
-- sequence.
use Rattle.std.specs.Prelude.{ℕ, suc, ◌≡◌, ◌<◌, ◌≤◌, Bool, false, Option, Some, None, List, [], ◌∷◌, ◌++◌}
use Rattle.std.specs.Prelude.{◌==◌, ◌&&◌, if◌then◌else◌, MatchOption, length, slice_get}
use Rattle.key_names.specs.declared.names.LaneId.{LaneId}
use Rattle.key_names.specs.declared.names.LaneId.TheVariants.{Pool as PoolLane, Base as BaseLane, Cpu as CpuLane}
use Rattle.key_names.specs.declared.names.Step.{Step}
use Rattle.key_names.specs.declared.names.Step.TheVariants.{Look, Visit as Marked}
use Rattle.key_names.specs.Lanes.Book.{list_at}
use Rattle.key_names.specs.Callers.Calls.{Setting, Call, alone, vread_call, unbound, ending, BoundAct}
use Rattle.key_names.specs.Transcripts.IsTranscript.{MarkBy, is_same_lane, lane_marks}
use Rattle.judge_lines.specs.declared.inferred.Neighbours.{Neighbours}
use Rattle.judge_lines.specs.declared.inferred.Sign.{Sign}
use Rattle.judge_lines.specs.declared.inferred.Sign.TheVariants.{Nowhere as nowhere}
use Rattle.judge_lines.specs.Inferred.{Telling, silent, telling, act_telling}
use Rattle.judge_log.specs.Tables.{Tables}
use Rattle.judge_log.specs.declared.gather.LineKind.{LineKind}
use Rattle.judge_log.specs.declared.gather.LineKind.TheVariants.{Event as EventLineKind, Act as ActLineKind, Vread as VreadLineKind}
use Rattle.judge_log.specs.declared.gather.LineKind.TheVariants.{Nothing as NoLineKind}
use Rattle.judge_log.specs.Rows.{RowAt, part_telling, first_shown, step_sign}

-- the kind of a line, given the steps around one of its steps; only the kind of a vread's line depends on them
abbrev pub tells_by : Setting → LineKind → Neighbours → Telling
tells_by set (EventLineKind event) neighbours = telling set event.now
tells_by set (ActLineKind act) neighbours = act_telling act
tells_by set (VreadLineKind n) neighbours = part_telling n neighbours
tells_by set NoLineKind neighbours = silent

-- ---- the spots of lines and of calls

-- a step with all that its entry is inferred from: the setting, the line's kind, the line's first step, and the steps
-- around it
pub record Spot : Type 0 where
  pub set : Setting
  pub tells : Telling
  pub first : Sign
  pub neighbours : Neighbours
  pub step : Step

abbrev pub spots_from : Setting → (Neighbours → Telling) → Sign → Sign → Sign → List Step → List Spot
spots_from set tell first a b [] = []
spots_from set tell first a b (step ∷ steps) =
    let neighbours : Neighbours = record { second_before = a; before = b; following = first_shown steps } in
    record { set = set; tells = tell neighbours; first = first; neighbours = neighbours; step = step }
    ∷ spots_from set tell first b (step_sign step) steps

abbrev pub line_spots : Setting → (Neighbours → Telling) → List Step → List Spot
line_spots set tell steps = spots_from set tell (first_shown steps) nowhere nowhere steps

abbrev pub acts_spots : Setting → List BoundAct → List Spot
acts_spots set [] = []
acts_spots set (bound ∷ acts) =
    line_spots set (λ neighbours. act_telling bound.act) bound.line.steps ++ acts_spots set acts

abbrev pub call_spots : Setting → Call → List Spot
call_spots set (alone event line) = line_spots set (λ neighbours. telling set event) line.steps
call_spots set (vread_call n flags line acts) = acts_spots set acts ++ line_spots set (part_telling n) line.steps
call_spots set (unbound bound) = line_spots set (λ neighbours. silent) bound.line.steps
call_spots set (ending line) = line_spots set (λ neighbours. silent) line.steps

-- the spots of a caller's calls; `sets` has the setting of each call
abbrev pub calls_spots : List Call → List Setting → List Spot
calls_spots [] sets = []
calls_spots (call ∷ calls) [] = []
calls_spots (call ∷ calls) (set ∷ sets) = call_spots set call ++ calls_spots calls sets

abbrev pub callers_spots : List (List Call) → List (List Setting) → List Spot
callers_spots [] settings = []
callers_spots (calls ∷ callers) [] = []
callers_spots (calls ∷ callers) (sets ∷ settings) = calls_spots calls sets ++ callers_spots callers settings

-- ---- tables that change by the rows of spots

abbrev pub rows_in : Tables → LaneId → ℕ
rows_in inferred PoolLane = length inferred.pool
rows_in inferred BaseLane = length inferred.base
rows_in inferred (CpuLane c) = length (list_at inferred.cpus c)

-- the row at `place` of the lane is the same in `old` and `new`
abbrev pub SameRow : Tables → Tables → LaneId → ℕ → Type 0
SameRow old new PoolLane place = slice_get new.pool place ≡ slice_get old.pool place
SameRow old new BaseLane place = slice_get new.base place ≡ slice_get old.base place
SameRow old new (CpuLane c) place = slice_get (list_at new.cpus c) place ≡ slice_get (list_at old.cpus c) place

-- whether the step visits `place` of `lane`
abbrev pub is_visit : LaneId → ℕ → Step → Bool
is_visit lane place (Look g) = false
is_visit lane place (Marked mark) = is_same_lane mark.lane lane && mark.place == place

-- the first option if it is some, and otherwise `other`; `last_at` uses this to find the last spot that visits a place
abbrev pub or_else : {A : Type 0} → Option A → Option A → Option A
or_else None other = other
or_else (Some a) other = Some a

abbrev pub last_at : LaneId → ℕ → List Spot → Option Spot
last_at lane place [] = None
last_at lane place (spot ∷ spots) =
    or_else (last_at lane place spots) (if is_visit lane place spot.step then Some spot else None)

abbrev pub SpotRow : Tables → Spot → LaneId → ℕ → Type 0
SpotRow inferred spot lane place = RowAt inferred spot.set spot.tells spot.first spot.neighbours lane place

-- `new` is `old` after the rows of these spots are put: each place has the row of the last spot that visits it, or is
-- unchanged if none does
pub record Changes (spots : List Spot) (old new : Tables) : Type 0 where
  pub cpus : length new.cpus ≡ length old.cpus
  pub sizes : (lane : LaneId) → rows_in new lane ≡ rows_in old lane
  pub rows : (lane : LaneId) (place : ℕ) → MatchOption (last_at lane place spots) (SameRow old new lane place)
      (λ spot. place < rows_in old lane → SpotRow new spot lane place)

-- ---- making tables longer, row by row

-- in `new`, the table of `lane` has one more row than in `old`, and the tables of other lanes have as many rows as
-- before
pub record IsLonger (lane : LaneId) (old new : Tables) : Type 0 where
  pub cpus : length new.cpus ≡ length old.cpus
  pub rows : (other : LaneId) →
      rows_in new other ≡ (if is_same_lane lane other then suc (rows_in old other) else rows_in old other)

-- the lane is a CPU whose number is at least the number of CPUs
abbrev pub IsAbsent : ℕ → LaneId → Type 0
IsAbsent cpus PoolLane = ⊥
IsAbsent cpus BaseLane = ⊥
IsAbsent cpus (CpuLane c) = cpus ≤ c

pub record HasRows (cpus : ℕ) (marks : List MarkBy) (inferred : Tables) : Type 0 where
  pub count : length inferred.cpus ≡ cpus
  pub rows : (lane : LaneId) → rows_in inferred lane ≡ length (lane_marks lane marks)
