-- Effects: the steps of a line, looked up in the book's lists. A look has the generation that it found. A visit has its
-- entry, and the lane's states before and after it.
use Rattle.std.specs.Prelude.{ℕ, true, false, Option, Some, None, List, [], take, map, slice_get}
use Rattle.key_names.specs.declared.names.LaneId.{LaneId}
use Rattle.key_names.specs.declared.names.LaneId.TheVariants.{Pool as PoolLane, Base as BaseLane, Cpu as CpuLane}
use Rattle.key_names.specs.declared.names.Step.{Step}
use Rattle.key_names.specs.declared.names.Step.TheVariants.{Look, Visit as Marked}
use Rattle.key_names.specs.declared.entries.PoolEntry.{PoolEntry}
use Rattle.key_names.specs.declared.entries.BaseEntry.{BaseEntry}
use Rattle.key_names.specs.declared.entries.BaseEntry.TheVariants.{Early, Reseed, Tick, Draw, Refill, Fork, End, Wait}
use Rattle.key_names.specs.declared.entries.BaseEntry.TheVariants.{Resume, Interrupt, Stall, Unstall}
use Rattle.key_names.specs.declared.entries.CpuEntry.{CpuEntry}
use Rattle.key_names.specs.declared.entries.CpuEntry.TheVariants.{Read, Int, Irq, Dump, Prepare, Online}
use Rattle.key_names.specs.Lanes.PoolList.{PoolState, pool_after, pool_step}
use Rattle.key_names.specs.Lanes.BaseList.{BaseState, base_after, base_step}
use Rattle.key_names.specs.Kernel.Batches.{Fill, batched_int}
use Rattle.key_names.specs.Lanes.CpuList.{CpuState, cpu_step, cpu_after}
use Rattle.key_names.specs.Keys.KeyInUse.{base_value_in_use, base_value_after, cpu_value_in_use, cpu_value_after}
use Rattle.key_names.specs.Keys.KeyInUse.{taken_bytes, next_int}
use Rattle.key_names.specs.Lanes.Book.{Lists, cpu_list}

-- a visit of the pool: its place, the pool's state before and after it, and its entry
pub record PoolVisit : Type 0 where
  pub place : ℕ
  pub before : PoolState
  pub after : PoolState
  pub entry : PoolEntry

-- a visit of the base: its place, the base's state before and after it, its entry, and the bytes that it serves
pub record BaseVisit : Type 0 where
  pub place : ℕ
  pub before : BaseState
  pub after : BaseState
  pub entry : BaseEntry
  pub serves : List ℕ

-- a visit of a CPU: the CPU, the place, the CPU's state before and after the visit, the entry, and the bytes that the
-- visit serves
pub record CpuVisit : Type 0 where
  pub cpu : ℕ
  pub place : ℕ
  pub before : CpuState
  pub after : CpuState
  pub entry : CpuEntry
  pub serves : List ℕ

-- a look, or a visit with its entry. If a mark's place has no entry, the mark's effect is nothing_there
pub data Effect : Type 0 where
  looked : ℕ → Effect
  at_pool : PoolVisit → Effect
  at_base : BaseVisit → Effect
  at_cpu : CpuVisit → Effect
  nothing_there : Effect

-- the bytes that an entry of the base serves, given the value of the key in use. Only a draw serves bytes
abbrev pub base_serves : List ℕ → BaseEntry → List ℕ
base_serves key (Draw root taken) = taken_bytes key taken
base_serves key (Early root) = []
base_serves key (Reseed root now) = []
base_serves key (Tick now root) = []
base_serves key (Refill cpu cpu_place) = []
base_serves key (Fork child) = []
base_serves key End = []
base_serves key Wait = []
base_serves key Resume = []
base_serves key Interrupt = []
base_serves key Stall = []
base_serves key Unstall = []

-- the next integer of a batch, if the batch has a fill
abbrev pub int_of : Lists → ℕ → ℕ → Option Fill → List ℕ
int_of lists c width None = []
int_of lists c width (Some fill) = next_int lists c width fill

-- the bytes that an entry of CPU c serves, given the value of the key in use and the last fill of each width
abbrev pub cpu_serves : Lists → ℕ → (ℕ → Option Fill) → List ℕ → CpuEntry → List ℕ
cpu_serves lists c fills key (Read look refill taken) = taken_bytes key taken
cpu_serves lists c fills key (Int look refill width true) = batched_int key width 0
cpu_serves lists c fills key (Int look refill width false) = int_of lists c width (fills width)
cpu_serves lists c fills key (Irq v1 v2 now) = []
cpu_serves lists c fills key (Dump now) = []
cpu_serves lists c fills key Prepare = []
cpu_serves lists c fills key Online = []

abbrev pub pool_visit : Lists → ℕ → PoolEntry → PoolVisit
pool_visit lists place e =
    let before = pool_after (take place lists.pool) in
    record { place = place; before = before; after = pool_step before e; entry = e }

abbrev pub base_visit : Lists → ℕ → BaseEntry → BaseVisit
base_visit lists place e =
    let before = base_after (take place lists.base) in
    let used = base_value_in_use lists.pool e (base_value_after lists.pool (take place lists.base)) in
    record { place = place; before = before; after = base_step before e; entry = e; serves = base_serves used e }

abbrev pub cpu_visit : Lists → ℕ → ℕ → CpuEntry → CpuVisit
cpu_visit lists c place e =
    let before = cpu_after lists.base c (take place (cpu_list lists c)) in
    let used = cpu_value_in_use lists e (cpu_value_after lists (take place (cpu_list lists c))) in
    record {
      cpu = c;
      place = place;
      before = before;
      after = cpu_step lists.base c before e;
      entry = e;
      serves = cpu_serves lists c before.fills used e;
    }

-- the effect that `effect` makes of an entry, or nothing_there if there is no entry
abbrev pub effect_or : {E : Type 0} → (E → Effect) → Option E → Effect
effect_or effect None = nothing_there
effect_or effect (Some e) = effect e

-- the effect of the visit at a place of a lane
abbrev pub effect_at : Lists → LaneId → ℕ → Effect
effect_at lists PoolLane place = effect_or (λ e. at_pool (pool_visit lists place e)) (slice_get lists.pool place)
effect_at lists BaseLane place = effect_or (λ e. at_base (base_visit lists place e)) (slice_get lists.base place)
effect_at lists (CpuLane c) place = effect_or (λ e. at_cpu (cpu_visit lists c place e)) (slice_get (cpu_list lists c) place)

abbrev pub effect_of : Lists → Step → Effect
effect_of lists (Look g) = looked g
effect_of lists (Marked mark) = effect_at lists mark.lane mark.place

-- the effects of the steps of a line
abbrev pub effects_of : Lists → List Step → List Effect
effects_of lists steps = map (effect_of lists) steps
