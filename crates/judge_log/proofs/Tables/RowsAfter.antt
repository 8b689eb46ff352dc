-- At the place of each visit of the pool or of a CPU, the table has the visit's row, and the list has the visit's
-- entry.
use Rattle.std.proofs.Common.{◌≡◌, ℕ, List, [], ◌∷◌, refl, subst, Some, None, Option}
use Rattle.std.specs.Prelude.{⊤, slice_get}
use Rattle.key_names.specs.declared.names.LaneId.{LaneId}
use Rattle.key_names.specs.declared.names.LaneId.TheVariants.{Pool as PoolLane, Base as BaseLane, Cpu as CpuLane}
use Rattle.key_names.specs.declared.names.Step.{Step}
use Rattle.key_names.specs.declared.names.Step.TheVariants.{Look, Visit as Marked}
use Rattle.key_names.specs.declared.entries.PoolEntry.{PoolEntry}
use Rattle.key_names.specs.declared.entries.BaseEntry.{BaseEntry}
use Rattle.key_names.specs.declared.entries.CpuEntry.{CpuEntry}
use Rattle.key_names.specs.Lanes.Book.{Lists, list_at, cpu_list}
use Rattle.key_names.specs.Callers.Calls.{Setting}
use Rattle.key_names.specs.Callers.Effects.{Effect, PoolVisit, CpuVisit, looked, at_pool, at_base, at_cpu, nothing_there}
use Rattle.key_names.specs.Callers.Effects.{effect_or, effect_at, effect_of, effects_of, pool_visit, base_visit, cpu_visit}
use Rattle.judge_lines.specs.declared.inferred.Neighbours.{Neighbours}
use Rattle.judge_lines.specs.declared.inferred.Sign.{Sign}
use Rattle.judge_lines.specs.declared.inferred.Sign.TheVariants.{InPool as in_pool, InBase as in_base, InCpu as in_cpu}
use Rattle.judge_lines.specs.Inferred.{Telling, sign_of, first_sign, AllFill, IsThere, AllThere}
use Rattle.judge_log.specs.declared.inferred.InferredCpu.{InferredCpu}
use Rattle.judge_log.specs.Tables.{Tables}
use Rattle.judge_log.specs.Rows.{lane_sign, step_sign, first_shown, PoolRowAt, cpu_row, RowAt, AllRows, RowConforms}

module _ (inferred : Tables) (lists : Lists) where
  -- `row` is the table's row at the place of the CPU's visit `v`, and the list has the entry of `v` at this place
  pub record CpuRow (row : InferredCpu) (v : CpuVisit) : Type 0 where
    pub row_is : slice_get (list_at inferred.cpus v.cpu) v.place ≡ Some row
    pub entry_is : slice_get (cpu_list lists v.cpu) v.place ≡ Some v.entry

  pub record PoolRow (set : Setting) (t : Telling) (neighbours : Neighbours) (v : PoolVisit) : Type 0 where
    pub row : PoolRowAt inferred set t neighbours v.place
    pub entry_is : slice_get lists.pool v.place ≡ Some v.entry

  module _ (set : Setting) (tell : Neighbours → Telling) (first : Sign) where
    abbrev pub RowAfter : Neighbours → Effect → Type 0
    RowAfter neighbours (looked g) = ⊤
    RowAfter neighbours (at_pool v) = PoolRow set (tell neighbours) neighbours v
    RowAfter neighbours (at_base v) = ⊤
    RowAfter neighbours (at_cpu v) = CpuRow (cpu_row set (tell neighbours) first neighbours) v
    RowAfter neighbours nothing_there = ⊤

    row_after : (neighbours : Neighbours) (lane : LaneId) (place : ℕ) → RowAt inferred set (tell neighbours) first neighbours lane place →
        RowAfter neighbours (effect_at lists lane place)
    row_after neighbours PoolLane place row = go (slice_get lists.pool place) refl
      where
        go : (o : Option PoolEntry) → slice_get lists.pool place ≡ o →
            RowAfter neighbours (effect_or (λ e. at_pool (pool_visit lists place e)) o)
        go None at = tt
        go (Some e) at = record { row = row; entry_is = at }
    row_after neighbours BaseLane place row = go (slice_get lists.base place)
      where
        go : (o : Option BaseEntry) → RowAfter neighbours (effect_or (λ e. at_base (base_visit lists place e)) o)
        go None = tt
        go (Some e) = tt
    row_after neighbours (CpuLane c) place row = go (slice_get (cpu_list lists c) place) refl
      where
        go : (o : Option CpuEntry) → slice_get (cpu_list lists c) place ≡ o →
            RowAfter neighbours (effect_or (λ e. at_cpu (cpu_visit lists c place e)) o)
        go None at = tt
        go (Some e) at = record { row_is = row; entry_is = at }

    -- if the lists have an entry at the place that a step visits, the step and the visit have the same visible part
    lane_shown : (lane : LaneId) (place : ℕ) → IsThere (effect_at lists lane place) →
        lane_sign lane place ≡ sign_of (effect_at lists lane place)
    lane_shown PoolLane place = go (slice_get lists.pool place)
      where
        go : (o : Option PoolEntry) → IsThere (effect_or (λ e. at_pool (pool_visit lists place e)) o) →
            in_pool place ≡ sign_of (effect_or (λ e. at_pool (pool_visit lists place e)) o)
        go None there = absurd there
        go (Some e) there = refl
    lane_shown BaseLane place = go (slice_get lists.base place)
      where
        go : (o : Option BaseEntry) → IsThere (effect_or (λ e. at_base (base_visit lists place e)) o) →
            in_base place ≡ sign_of (effect_or (λ e. at_base (base_visit lists place e)) o)
        go None there = absurd there
        go (Some e) there = refl
    lane_shown (CpuLane c) place = go (slice_get (cpu_list lists c) place)
      where
        go : (o : Option CpuEntry) → IsThere (effect_or (λ e. at_cpu (cpu_visit lists c place e)) o) →
            in_cpu c place ≡ sign_of (effect_or (λ e. at_cpu (cpu_visit lists c place e)) o)
        go None there = absurd there
        go (Some e) there = refl

    step_shown : (step : Step) → IsThere (effect_of lists step) → step_sign step ≡ sign_of (effect_of lists step)
    step_shown (Look g) there = refl
    step_shown (Marked mark) there = lane_shown mark.lane mark.place there

    pub first_is : (steps : List Step) → AllThere (effects_of lists steps) →
        first_shown steps ≡ first_sign (effects_of lists steps)
    first_is [] there = refl
    first_is (step ∷ steps) there = step_shown step there.0

    step_after : (neighbours : Neighbours) (step : Step) → RowConforms inferred set tell first neighbours step →
        RowAfter neighbours (effect_of lists step)
    step_after neighbours (Look g) row = tt
    step_after neighbours (Marked mark) row = row_after neighbours mark.lane mark.place row

    pub rows_after : (a b : Sign) (steps : List Step) → AllThere (effects_of lists steps) →
        AllRows (RowConforms inferred set tell first) a b steps → AllFill RowAfter a b (effects_of lists steps)
    rows_after a b [] there rows = tt
    rows_after a b (step ∷ steps) there rows =
        let P : Sign → Type 0 = λ s.
        RowAfter (record { second_before = a; before = b; following = s }) (effect_of lists step) in
        let Q : Sign → Type 0 = λ s. AllFill RowAfter b s (effects_of lists steps) in (
          subst P (first_is steps there.1) (step_after
              (record { second_before = a; before = b; following = first_shown steps }) step rows.0),
          subst Q (step_shown step there.0) (rows_after b (step_sign step) steps there.1 rows.1),
        )
