-- The meaning of a lane's list of visits: the lane's value after the visits, the key that each visit hands on, and the
-- entries that may come next. The list alone determines these, since each visit includes the key that it received.
-- A lane's model (its value in the proofs) has a part for each kind of lane, and an entry changes the part of its own
-- kind.
use Rattle.std.specs.Prelude.{◌≡◌, ℕ, suc, ◌+◌, ◌/◌, ◌<◌, ◌≤◌, ◌==◌, ⊤, List, [], Option, Some, None, replicate, slice_index_or, if◌then◌else◌}
use Rattle.std.specs.List.{fold}
use Rattle.key_names.specs.declared.names.Who.{Who}
use Rattle.key_names.specs.declared.entries.PoolEntry.{PoolEntry}
use Rattle.key_names.specs.declared.entries.PoolEntry.TheVariants.{Mix, Input, Bits, Extract}
use Rattle.key_names.specs.declared.entries.BaseEntry.{BaseEntry}
use Rattle.key_names.specs.declared.entries.BaseEntry.TheVariants.{Draw, Refill}
use Rattle.key_names.specs.declared.entries.CpuEntry.{CpuEntry}
use Rattle.key_names.specs.declared.entries.CpuEntry.TheVariants.{Read, Int, Irq, Dump, Prepare, Online}
use Rattle.key_names.specs.Kernel.Keystream.{keystream}
use Rattle.key_names.specs.Lanes.LawfulList.{LawfulFrom}
use Rattle.key_names.specs.Lanes.PoolList.{PoolState, pool_start, pool_step, root_of_extraction, base_place_of}
use Rattle.key_names.specs.Lanes.BaseList.{BaseState, BaseFits, root_of, refill_of, reseeds_at}
use Rattle.key_names.specs.Lanes.CpuList.{CpuState, CpuFits, base_refill_of}
use Rattle.key_names.specs.Kernel.Batches.{Fill, fills_after, batch_step}
use Rattle.key_names.specs.Kernel.FastPool.{FastPool, fast_start, fast_step}
use Rattle.input_pool.specs.PoolConforms.{PoolConforms}
use Rattle.base_gen.specs.BaseValue.{BaseValue, key_in_use}
use Rattle.base_gen.specs.BaseValue as base
use Rattle.cpu_gen.specs.CpuValue.{CpuValue, refilled}
use Rattle.cpu_gen.specs.CpuValue as cpu
use Rattle.int_batch.specs.BatchValue.{BatchValue}
use Rattle.lane_table.specs.declared.values.PoolLane.{PoolLane}
use Rattle.lane_table.specs.declared.values.CpuLane.{CpuLane}
use Rattle.lane_table.specs.declared.values.LaneState.{LaneState}
use Rattle.lane_table.specs.declared.values.LaneState.TheVariants.{Pool as PoolValue, Base as BaseLaneValue, Cpu as CpuLaneValue}
use Rattle.lane_table.specs.declared.view.LaneEntry.{LaneEntry}
use Rattle.lane_table.specs.declared.view.LaneEntry.TheVariants.{Pool, Base, Cpu}
use Rattle.lane_table.specs.declared.view.Handed.{Handed}
use Rattle.lane_table.specs.declared.view.Visit.{Visit}

-- the lane of an entry: the pool is lane 0, the base is lane 1, and CPU `c` is lane 2 + `c`
abbrev pub IsOf : ℕ → LaneEntry → Type 0
IsOf lane (Pool e) = lane ≡ 0
IsOf lane (Base e) = lane ≡ 1
IsOf lane (Cpu e) = 2 ≤ lane

-- the parent lane: the lane from which a lane's entries take keys. It is the pool for the base, and the base for a CPU
abbrev pub parent : ℕ → ℕ
parent lane = if lane == 1 then 0 else 1

-- the place in the parent lane that an entry names: the place of its root or of its refill
abbrev pub after_of : LaneEntry → Option ℕ
after_of (Pool e) = None
after_of (Base e) = root_of e
after_of (Cpu e) = base_refill_of e

abbrev pub base_lane : Option ℕ → Option (ℕ × ℕ)
base_lane None = None
base_lane (Some place) = Some (1, place)

abbrev pub cpu_lane : Option (ℕ × ℕ) → Option (ℕ × ℕ)
cpu_lane None = None
cpu_lane (Some named) = Some (named.0 + 2, named.1)

-- the lane to which an entry hands a key, and the place in that lane that takes the key; `None` if the entry hands no
-- key to another lane
abbrev pub ahead_of : LaneEntry → Option (ℕ × ℕ)
ahead_of (Pool e) = base_lane (base_place_of e)
ahead_of (Base e) = cpu_lane (refill_of e)
ahead_of (Cpu e) = None

abbrev pub once : Option ℕ → ℕ
once None = 0
once (Some now) = 1

-- the number by which an entry raises the generation: 0 or 1
abbrev pub raise_of : LaneEntry → ℕ
raise_of (Pool e) = 0
raise_of (Base e) = once (reseeds_at e)
raise_of (Cpu e) = 0

-- a CPU's generator, the last fill of each width of integers, the bytes of each width's batch, and the fast pool
pub record CpuModel : Type 0 where
  pub cpu : CpuValue
  pub fills : ℕ → Option Fill
  pub bytes : ℕ → List ℕ
  pub fast : FastPool

pub record Model : Type 0 where
  pub pool : PoolState
  pub base : BaseValue
  pub cpu : CpuModel
  -- the least place of the parent lane that the next entry may name
  pub least : ℕ

abbrev pub cpu_start : CpuModel
cpu_start = record { cpu = cpu.start; fills = λ w. None; bytes = λ w. replicate 96 0; fast = fast_start }

abbrev pub start_model : Model
start_model = record { pool = pool_start; base = base.start; cpu = cpu_start; least = 0 }

abbrev pub hand : List ℕ → ℕ → Handed
hand key generation = record { key = key; generation = generation }

-- the empty `Handed`, for an entry that receives no key or hands none on
abbrev pub nothing : Handed
nothing = hand [] 0

abbrev pub pool_after : LaneEntry → PoolState → PoolState
pool_after (Pool e) s = pool_step s e
pool_after (Base e) s = s
pool_after (Cpu e) s = s

abbrev pub base_after : LaneEntry → Handed → BaseValue → BaseValue
base_after (Pool e) got b = b
base_after (Base e) got b = base.after_entry e got.key b
base_after (Cpu e) got b = b

-- a CPU's generator after a refill: the key and the generation that the base hands over
abbrev pub generator_of : Handed → CpuValue
generator_of got = record { key = got.key; generation = got.generation }

-- the key in use at an entry of a CPU: the key that the entry's refill gives, or else the CPU's own
abbrev pub cpu_used : CpuEntry → Handed → CpuValue → List ℕ
cpu_used e got c = (refilled (base_refill_of e) (generator_of got) c).key

-- a CPU's model after an entry. The model's fills have no key and no place: a lane does not keep them with a batch
abbrev pub cpu_entered : CpuEntry → Handed → CpuModel → CpuModel
cpu_entered e got c = record {
  cpu = cpu.after_entry e (generator_of got) c.cpu;
  fills = fills_after 0 e None c.fills;
  bytes = λ w. batch_step w (cpu_used e got c.cpu) (c.fills w) (c.bytes w) e;
  fast = fast_step c.fast e;
}

abbrev pub cpu_after : LaneEntry → Handed → CpuModel → CpuModel
cpu_after (Pool e) got c = c
cpu_after (Base e) got c = c
cpu_after (Cpu e) got c = cpu_entered e got c

-- the least place that the next entry may name: the named places of the parent lane rise along the list
abbrev pub least_after : Option ℕ → ℕ → ℕ
least_after None least = least
least_after (Some place) least = suc place

-- a lane's model after an entry, given the key that it received
abbrev pub made_of : Model → LaneEntry → Handed → Model
made_of s e got = record {
  pool = pool_after e s.pool;
  base = base_after e got s.base;
  cpu = cpu_after e got s.cpu;
  least = least_after (after_of e) s.least;
}

-- the key that an erasure of the key `used` hands on: bytes 32 to 64 of its keystream
abbrev pub call_key : List ℕ → List ℕ
call_key used = keystream used 32 32

-- the key that an entry of the pool hands on. Below, the same for the base and for a CPU
abbrev pub pool_gives : PoolState → PoolEntry → Handed
pool_gives s (Mix text bits) = nothing
pool_gives s (Input word kind code value now) = nothing
pool_gives s Bits = nothing
pool_gives s (Extract hw base_place) = hand (root_of_extraction s hw) 0

abbrev pub base_gives : BaseValue → Handed → BaseEntry → Handed
base_gives b got (Draw root taken) = hand (call_key (key_in_use root got.key b.key)) 0
base_gives b got (Refill cpu cpu_place) = hand (call_key b.key) b.generation
base_gives b got _ = nothing

abbrev pub cpu_gives : CpuValue → Handed → CpuEntry → Handed
cpu_gives c got (Read look refill taken) = hand (call_key (refilled refill (generator_of got) c).key) 0
cpu_gives c got (Int look refill width filled) = nothing
cpu_gives c got (Irq v1 v2 now) = nothing
cpu_gives c got (Dump now) = nothing
cpu_gives c got Prepare = nothing
cpu_gives c got Online = nothing

-- the key that an entry hands on. An extraction hands on its root, a refill hands on a key and the base's generation,
-- and a long read hands on the key that serves the read
abbrev pub gave_of : Model → LaneEntry → Handed → Handed
gave_of s (Pool e) got = pool_gives s.pool e
gave_of s (Base e) got = base_gives s.base got e
gave_of s (Cpu e) got = cpu_gives s.cpu.cpu got e

abbrev pub model_step : Model → Visit → Model
model_step s x = made_of s x.entry x.got

-- the model (a lane's value in the proofs) after the visits of a list
abbrev pub replay : List Visit → Model
replay xs = fold model_step start_model xs

-- a list's state made from a model, so that the definitions about the lists of the base and of a CPU apply to the
-- model. The fields that these definitions do not use are empty
abbrev pub base_state : BaseValue → BaseState
base_state b = record {
  place = 0;
  phase = b.phase;
  generation = b.generation;
  timer = b.timer;
  early_boot = b.early_boot;
  running = b.running;
  roots = 0;
  key = None;
}

abbrev pub cpu_state : CpuModel → CpuState
cpu_state c = record { place = 0; generation = c.cpu.generation; key = None; fills = c.fills }

-- if an entry names a refill, the entry's look is at most the generation that the refill hands over
abbrev pub Reaches : Option ℕ → ℕ → Handed → Type 0
Reaches None look got = ⊤
Reaches (Some place) look got = look ≤ got.generation

abbrev pub LookReached : CpuEntry → Handed → Type 0
LookReached (Read look refill taken) got = Reaches refill look got
LookReached (Int look refill width filled) got = Reaches refill look got
LookReached (Irq v1 v2 now) got = ⊤
LookReached (Dump now) got = ⊤
LookReached Prepare got = ⊤
LookReached Online got = ⊤

-- the entry fits the model before it and the key that it received
abbrev pub Fits : Model → Handed → LaneEntry → Type 0
Fits s got (Pool e) = ⊤
Fits s got (Base e) = BaseFits (base_state s.base) e
Fits s got (Cpu e) = CpuFits (cpu_state s.cpu) e × LookReached e got

abbrev pub IsLater : ℕ → Option ℕ → Type 0
IsLater least None = ⊤
IsLater least (Some place) = least ≤ place

-- if the entry names another lane, that lane exists
abbrev pub NamesWithin : ℕ → Option (ℕ × ℕ) → Type 0
NamesWithin lanes None = ⊤
NamesWithin lanes (Some named) = named.0 < lanes

-- the visit `x` may come next in the lane `lane`, if its model (the value in the proofs) is `s`
pub record MayCome (lanes lane : ℕ) (s : Model) (x : Visit) : Type 0 where
  pub kind : IsOf lane x.entry
  pub within : NamesWithin lanes (ahead_of x.entry)
  pub gave_is : x.gave ≡ gave_of s x.entry x.got
  pub later : IsLater s.least (after_of x.entry)
  pub fits : Fits s x.got x.entry

abbrev pub LawfulLane : ℕ → ℕ → List Visit → Type 0
LawfulLane lanes lane xs = LawfulFrom (MayCome lanes lane) model_step start_model xs

-- a value of the pool represents a state of the pool's list. Several values can represent one state, since a hash state
-- can represent one text in several ways
pub record PoolLaneConforms (lane : PoolLane) (s : PoolState) : Type 0 where
  pub pool : PoolConforms lane.pool s
  pub value : lane.timer.value ≡ s.value
  pub timer : lane.timer.timer ≡ s.timer

-- a batch of integers of `width` bytes, with the bytes `bytes`, after its last fill
abbrev pub batch_of : ℕ → Option Fill → List ℕ → BatchValue
batch_of width None bytes = record { bytes = bytes; position = 96 / width; generation = 0 }
batch_of width (Some fill) bytes = record { bytes = bytes; position = fill.count; generation = fill.look }

abbrev pub batch_at : ℕ → CpuModel → BatchValue
batch_at width c = batch_of width (c.fills width) (c.bytes width)

-- each part of a CPU's value equals the model's part. In the batches, the zeros that replace served bytes are equal too
pub record CpuLaneConforms (lane : CpuLane) (c : CpuModel) : Type 0 where
  pub cpu : lane.cpu ≡ c.cpu
  pub b8 : lane.b8 ≡ batch_at 1 c
  pub b16 : lane.b16 ≡ batch_at 2 c
  pub b32 : lane.b32 ≡ batch_at 4 c
  pub b64 : lane.b64 ≡ batch_at 8 c
  pub fast : lane.fast ≡ c.fast

-- the value is of the kind of the lane with this number, and represents the model (the lane's value in the proofs)
abbrev pub ValueRepresents : ℕ → LaneState → Model → Type 0
ValueRepresents lane (PoolValue value) s = (lane ≡ 0) × PoolLaneConforms value s.pool
ValueRepresents lane (BaseLaneValue value) s = (lane ≡ 1) × (value.base ≡ s.base)
ValueRepresents lane (CpuLaneValue value) s = (2 ≤ lane) × CpuLaneConforms value s.cpu

abbrev pub no_one : Who
no_one = record { caller = 0; event = 0; step = 0 }

abbrev pub no_visit : Visit
no_visit = record { who = no_one; stamp = 0; entry = Pool Bits; got = nothing; gave = nothing }

-- if a place is named, the key that the visit at that place of the list `following` hands on; otherwise no key
abbrev pub got_of : Option ℕ → List Visit → Handed
got_of None following = nothing
got_of (Some place) following = (slice_index_or following place no_visit).gave
