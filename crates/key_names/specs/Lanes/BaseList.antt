-- What the base's list means: the state of the base after the list's entries, and which entry may follow.
use Rattle.std.specs.Prelude.{ℕ, suc, ◌+◌, ◌-◌, ◌/◌, ◌*◌, ◌^◌, min, max, ◌≡◌, ◌≢◌, ◌≤◌, Bool, true, false, ◌&&◌, ⊤}
use Rattle.std.specs.Prelude.{Option, Some, None, List, take, nat_lt, slice_get, option_and_then, if◌then◌else◌}
use Rattle.std.specs.List.{fold}
use Rattle.key_names.specs.declared.names.KeyName.{KeyName}
use Rattle.key_names.specs.declared.names.KeyName.TheVariants.{Root, Base}
use Rattle.key_names.specs.declared.entries.BaseEntry.{BaseEntry}
use Rattle.key_names.specs.declared.entries.BaseEntry.TheVariants.{Early, Reseed, Tick, Draw, Refill, Fork, End, Wait}
use Rattle.key_names.specs.declared.entries.BaseEntry.TheVariants.{Resume, Interrupt, Stall, Unstall}
use Rattle.key_names.specs.declared.entries.PoolEntry.{PoolEntry}
use Rattle.key_names.specs.Lanes.PoolList.{extraction_at}
use Rattle.key_names.specs.Lanes.LawfulList.{LawfulFrom}

-- the phase of the core (CRNG_EMPTY, CRNG_EARLY, CRNG_READY)
pub data Phase : Type 0 where
  empty early ready : Phase

pub record BaseState : Type 0 where
  -- the number of entries so far
  pub place : ℕ
  pub phase : Phase
  pub generation : ℕ
  -- the moment at which the reseed timer is due, in milliseconds
  pub timer : Option ℕ
  -- whether the system is young: each reseed so far was at an uptime below 120 seconds
  pub early_boot : Bool
  -- the number of running callers
  pub running : ℕ
  -- the least pool place from which the next root may come
  pub roots : ℕ
  -- the name of the key
  pub key : Option KeyName

abbrev pub base_start : BaseState
base_start = record {
  place = 0;
  phase = empty;
  generation = 0;
  timer = None;
  early_boot = true;
  running = 1;
  roots = 0;
  key = None;
}

-- the root that an entry names, by the pool place of its extraction
abbrev pub root_of : BaseEntry → Option ℕ
root_of (Early root) = root
root_of (Reseed root now) = Some root
root_of (Tick now root) = root
root_of (Draw root taken) = root
root_of (Refill cpu cpu_place) = None
root_of (Fork child) = None
root_of End = None
root_of Wait = None
root_of Resume = None
root_of Interrupt = None
root_of Stall = None
root_of Unstall = None

-- the CPU that a refill names, and the place in that CPU's list
abbrev pub refill_of : BaseEntry → Option (ℕ × ℕ)
refill_of (Early root) = None
refill_of (Reseed root now) = None
refill_of (Tick now root) = None
refill_of (Draw root taken) = None
refill_of (Refill cpu cpu_place) = Some (cpu, cpu_place)
refill_of (Fork child) = None
refill_of End = None
refill_of Wait = None
refill_of Resume = None
refill_of Interrupt = None
refill_of Stall = None
refill_of Unstall = None

-- whether an entry erases the key in use, and so makes bytes 0 to 32 of that key's keystream the next key
abbrev pub base_erases : BaseEntry → Bool
base_erases (Early root) = false
base_erases (Reseed root now) = false
base_erases (Tick now root) = false
base_erases (Draw root taken) = true
base_erases (Refill cpu cpu_place) = true
base_erases (Fork child) = false
base_erases End = false
base_erases Wait = false
base_erases Resume = false
base_erases Interrupt = false
base_erases Stall = false
base_erases Unstall = false

abbrev pub root_or : Option ℕ → Option KeyName → Option KeyName
root_or None key = key
root_or (Some r) key = Some (Root r)

-- the key in use at an entry: the root that the entry names, or, if the entry names none, the key before the entry
abbrev pub base_key_in_use : BaseEntry → Option KeyName → Option KeyName
base_key_in_use e key = root_or (root_of e) key

-- the key after the entry at place i
abbrev pub base_key_after : ℕ → BaseEntry → Option KeyName → Option KeyName
base_key_after i e key = if base_erases e then Some (Base i) else base_key_in_use e key

-- the least root that entries after this one may name. The first argument is the root that this entry names, if any;
-- `least` is the bound before this entry. So the named roots rise along the list
abbrev pub roots_after : Option ℕ → ℕ → ℕ
roots_after None least = least
roots_after (Some r) least = suc r

-- the moment of the reseed, if the entry is a reseed
abbrev pub reseeds_at : BaseEntry → Option ℕ
reseeds_at (Early root) = None
reseeds_at (Reseed root now) = Some now
reseeds_at (Tick now (Some root)) = Some now
reseeds_at (Tick now None) = None
reseeds_at (Draw root taken) = None
reseeds_at (Refill cpu cpu_place) = None
reseeds_at (Fork child) = None
reseeds_at End = None
reseeds_at Wait = None
reseeds_at Resume = None
reseeds_at Interrupt = None
reseeds_at Stall = None
reseeds_at Unstall = None

abbrev pub phase_after : BaseEntry → Phase → Phase
phase_after (Early (Some root)) phase = early
phase_after (Early None) phase = phase
phase_after (Reseed root now) phase = ready
phase_after (Tick now (Some root)) phase = ready
phase_after (Tick now None) phase = phase
phase_after (Draw root taken) phase = phase
phase_after (Refill cpu cpu_place) phase = phase
phase_after (Fork child) phase = phase
phase_after End phase = phase
phase_after Wait phase = phase
phase_after Resume phase = phase
phase_after Interrupt phase = phase
phase_after Stall phase = phase
phase_after Unstall phase = phase

abbrev pub generation_after : Option ℕ → ℕ → ℕ
generation_after None g = g
generation_after (Some now) g = g + 1

-- a reseed computes an interval; the first reseed at 120 seconds or later ends the early boot
abbrev pub early_boot_after : Option ℕ → Bool → Bool
early_boot_after None early_boot = early_boot
early_boot_after (Some now) early_boot = early_boot && nat_lt (now / 1000) 120

-- the milliseconds to the next reseed (crng_reseed_interval)
abbrev pub interval : Bool → ℕ → ℕ
interval early_boot now =
    if early_boot_after (Some now) early_boot then max 1000 (now / 1000 / 2 * 1000) else 60000

-- the timer after a request to set it for `due`: a pending timer keeps its moment
abbrev pub timer_or : Option ℕ → ℕ → Option ℕ
timer_or None due = Some due
timer_or (Some pending) due = Some pending

abbrev pub timer_after : Bool → BaseEntry → Option ℕ → Option ℕ
timer_after early_boot (Early root) timer = timer
timer_after early_boot (Reseed root now) timer = timer_or timer (now + interval early_boot now)
timer_after early_boot (Tick now (Some root)) timer = Some (now + interval early_boot now)
timer_after early_boot (Tick now None) timer = timer
timer_after early_boot (Draw root taken) timer = timer
timer_after early_boot (Refill cpu cpu_place) timer = timer
timer_after early_boot (Fork child) timer = timer
timer_after early_boot End timer = timer
timer_after early_boot Wait timer = timer
timer_after early_boot Resume timer = timer
timer_after early_boot Interrupt timer = timer
timer_after early_boot Stall timer = timer
timer_after early_boot Unstall timer = timer

-- the number of running callers after one more caller runs. The count has 32 bits and stays at its maximum instead of
-- wrapping
abbrev pub one_more : ℕ → ℕ
one_more n = min (2 ^ 32 - 1) (n + 1)

abbrev pub one_less : ℕ → ℕ
one_less n = n - 1

abbrev pub running_after : BaseEntry → ℕ → ℕ
running_after (Early root) n = n
running_after (Reseed root now) n = n
running_after (Tick now root) n = n
running_after (Draw root taken) n = n
running_after (Refill cpu cpu_place) n = n
running_after (Fork child) n = one_more n
running_after End n = one_less n
running_after Wait n = one_less n
running_after Resume n = one_more n
running_after Interrupt n = one_more n
running_after Stall n = one_less n
running_after Unstall n = one_more n

abbrev pub base_step : BaseState → BaseEntry → BaseState
base_step s e = record {
  place = suc s.place;
  phase = phase_after e s.phase;
  generation = generation_after (reseeds_at e) s.generation;
  timer = timer_after s.early_boot e s.timer;
  early_boot = early_boot_after (reseeds_at e) s.early_boot;
  running = running_after e s.running;
  roots = roots_after (root_of e) s.roots;
  key = base_key_after s.place e s.key;
}

abbrev pub base_after : List BaseEntry → BaseState
base_after = fold base_step base_start

-- the timer is pending, and is due at moment `now`
abbrev pub IsDue : Option ℕ → ℕ → Type 0
IsDue None now = ⊥
IsDue (Some due) now = due ≤ now

-- the entry fits the phase, the timer, the generation and the count of running callers in the base's state
abbrev pub BaseFits : BaseState → BaseEntry → Type 0
BaseFits s (Early (Some root)) = s.phase ≡ empty
BaseFits s (Early None) = s.phase ≢ empty
BaseFits s (Reseed root now) = ⊤
BaseFits s (Tick now (Some root)) = IsDue s.timer now
BaseFits s (Tick now None) = ¬ IsDue s.timer now
BaseFits s (Draw (Some root) taken) = s.phase ≡ empty
BaseFits s (Draw None taken) = s.phase ≡ early
BaseFits s (Refill cpu cpu_place) = s.phase ≡ ready
BaseFits s (Fork child) = ⊤
BaseFits s End = ⊤
BaseFits s Wait = ⊤
BaseFits s Resume = 1 ≤ s.generation
BaseFits s Interrupt = (s.generation ≡ 0) × (s.running ≡ 0)
BaseFits s Stall = ⊤
BaseFits s Unstall = ⊤

-- if the entry names a root, this root is above all roots named before, and the root's extraction names the entry's
-- place
abbrev pub RootConforms : List PoolEntry → BaseState → Option ℕ → Type 0
RootConforms pool s None = ⊤
RootConforms pool s (Some r) = (s.roots ≤ r) × (extraction_at pool r ≡ Some s.place)

pub record BaseMayCome (pool : List PoolEntry) (s : BaseState) (e : BaseEntry) : Type 0 where
  pub fits : BaseFits s e
  pub root : RootConforms pool s (root_of e)

abbrev pub LawfulBase : List PoolEntry → List BaseEntry → Type 0
LawfulBase pool base = LawfulFrom (BaseMayCome pool) base_step base_start base

-- the root that the entry at place `i` names; below, the refill that the entry at place `i` names
abbrev pub root_at : List BaseEntry → ℕ → Option ℕ
root_at base i = option_and_then root_of (slice_get base i)

abbrev pub refill_at : List BaseEntry → ℕ → Option (ℕ × ℕ)
refill_at base i = option_and_then refill_of (slice_get base i)

-- the base's generation before the entry at a place
abbrev pub generation_at : List BaseEntry → ℕ → ℕ
generation_at base i = (base_after (take i base)).generation
