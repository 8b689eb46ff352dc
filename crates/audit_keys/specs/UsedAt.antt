-- The uses that each entry makes. A use has bytes of a key, the purpose of these bytes (kept as a named key, or
-- served), and the entry.
use Rattle.std.specs.Prelude.{ℕ, ◌+◌, ◌*◌, Bool, true, false, Option, Some, None, List, [], ◌∷◌, nat_lt, if◌then◌else◌}
use Rattle.key_names.specs.declared.names.LaneId.TheVariants.{Base as BaseLane, Cpu as CpuLane}
use Rattle.key_names.specs.declared.names.KeyName.{KeyName}
use Rattle.key_names.specs.declared.names.KeyName.TheVariants.{Base, Cpu, Call, Vdso}
use Rattle.key_names.specs.declared.entries.Taken.{Taken}
use Rattle.key_names.specs.declared.entries.Taken.TheVariants.{User, Kernel}
use Rattle.key_names.specs.declared.entries.BaseEntry.{BaseEntry}
use Rattle.key_names.specs.declared.entries.BaseEntry.TheVariants.{Early, Reseed, Tick, Draw, Refill as BaseRefill}
use Rattle.key_names.specs.declared.entries.BaseEntry.TheVariants.{Fork, End, Wait, Resume}
use Rattle.key_names.specs.declared.entries.BaseEntry.TheVariants.{Interrupt, Stall, Unstall}
use Rattle.key_names.specs.declared.entries.CpuEntry.{CpuEntry}
use Rattle.key_names.specs.declared.entries.CpuEntry.TheVariants.{Read, Int, Irq, Dump, Prepare, Online}
use Rattle.key_names.specs.declared.entries.VEntry.{VEntry}
use Rattle.key_names.specs.declared.entries.VEntry.TheVariants.{Rekey, Blocks, Refill, Serve, Wipe}
use Rattle.key_names.specs.Kernel.Batches.{Fill}
use Rattle.key_names.specs.Lanes.BaseList.{BaseState, base_key_in_use}
use Rattle.key_names.specs.Lanes.CpuList.{CpuState, cpu_key_in_use}
use Rattle.key_names.specs.Lanes.StateList.{NamedState}
use Rattle.audit_keys.specs.declared.state_uses.StateOf.{StateOf}
use Rattle.audit_keys.specs.declared.used.Origin.{Origin}
use Rattle.audit_keys.specs.declared.used.Origin.TheVariants.{Lane, State}
use Rattle.audit_keys.specs.declared.used.Purpose.TheVariants.{Kept, Served}
use Rattle.audit_keys.specs.declared.used.Used.{Used}

-- the entry `by` keeps 32 bytes of `key`, from byte `from` on, as the key with the name `name`
abbrev pub kept_as : Origin → KeyName → ℕ → KeyName → Used
kept_as by key from name =
    record { span = record { key = key; from = from; len = 32 }; purpose = Kept name; by = by }

abbrev pub served_by : Origin → KeyName → ℕ → ℕ → Used
served_by by key from len =
    record { span = record { key = key; from = from; len = len }; purpose = Served; by = by }

-- the uses that `used_of` gives for the key in use; there are none if this key has no name
abbrev pub named_used : Option KeyName → (KeyName → List Used) → List Used
named_used None used_of = []
named_used (Some key) used_of = used_of key

-- the uses of the bytes that a read takes; these bytes follow the 32 bytes that the erasure keeps. `call` is the name
-- of the next 32 bytes if they become a key, and `rekeys` is whether a vgetrandom state takes them as its key
abbrev pub taken_used : Bool → Origin → KeyName → KeyName → Taken → List Used
taken_used rekeys by key call (User n) =
    if nat_lt 32 n then kept_as by key 32 call ∷ served_by by call 64 n ∷ []
    else (if rekeys then kept_as by key 32 call else served_by by key 32 n) ∷ []
taken_used rekeys by key call (Kernel n) = served_by by key 32 n ∷ []

-- the uses of a read: its erasure keeps bytes 0 to 32 as the key `next`, and the read takes the bytes after them
abbrev pub read_used : Bool → Origin → KeyName → KeyName → KeyName → Taken → List Used
read_used rekeys by key next call taken = kept_as by key 0 next ∷ taken_used rekeys by key call taken

abbrev pub base_used_at : BaseState → BaseEntry → List Used
base_used_at s (Draw root taken) = named_used (base_key_in_use (Draw root taken) s.key)
    (λ key. read_used false (Lane BaseLane s.place) key (Base s.place) (Call BaseLane s.place) taken)
base_used_at s (BaseRefill cpu cpu_place) = named_used s.key
    (λ key. kept_as (Lane BaseLane s.place) key 0 (Base s.place)
    ∷ kept_as (Lane BaseLane s.place) key 32 (Call BaseLane s.place) ∷ [])
base_used_at s (Early root) = []
base_used_at s (Reseed root now) = []
base_used_at s (Tick now root) = []
base_used_at s (Fork child) = []
base_used_at s End = []
base_used_at s Wait = []
base_used_at s Resume = []
base_used_at s Interrupt = []
base_used_at s Stall = []
base_used_at s Unstall = []

-- the use of the next integer that a batch serves after its fill
abbrev pub batch_used : Origin → ℕ → Option Fill → List Used
batch_used by width None = []
batch_used by width (Some fill) =
    named_used fill.key (λ key. served_by by key (32 + width * fill.count) width ∷ [])

-- the uses of the entry of CPU `c`; `rekeys` is whether a vgetrandom state takes the read at a place as its key
abbrev pub cpu_used_at : ℕ → (ℕ → Bool) → CpuState → CpuEntry → List Used
cpu_used_at c rekeys s (Read look refill taken) = named_used (cpu_key_in_use (Read look refill taken) s.key)
    (λ key. read_used (rekeys s.place) (Lane (CpuLane c) s.place) key (Cpu c s.place) (Call (CpuLane c) s.place) taken)
cpu_used_at c rekeys s (Int look refill width true) =
    named_used (cpu_key_in_use (Int look refill width true) s.key)
    (λ key. kept_as (Lane (CpuLane c) s.place) key 0 (Cpu c s.place)
    ∷ served_by (Lane (CpuLane c) s.place) key 32 width ∷ [])
cpu_used_at c rekeys s (Int look refill width false) = batch_used (Lane (CpuLane c) s.place) width (s.fills width)
cpu_used_at c rekeys s (Irq v1 v2 now) = []
cpu_used_at c rekeys s (Dump now) = []
cpu_used_at c rekeys s Prepare = []
cpu_used_at c rekeys s Online = []

-- the origin that denotes the entry at `place` in the list of a vgetrandom state
abbrev pub state_origin : StateOf → ℕ → Origin
state_origin of place = State of.caller of.state place

abbrev pub state_used_at : StateOf → NamedState → VEntry → List Used
state_used_at of s (Rekey cpu cpu_place) = []
state_used_at of s (Blocks from count) =
    named_used s.key (λ key. served_by (state_origin of s.place) key (64 * from) (64 * count) ∷ [])
state_used_at of s (Refill from) = named_used s.key
    (λ key. kept_as (state_origin of s.place) key (64 * from + 96) (Vdso of.caller of.state s.refills) ∷ [])
state_used_at of s (Serve pos len) =
    named_used s.batch_key (λ key. served_by (state_origin of s.place) key (64 * s.batch_from + pos) len ∷ [])
state_used_at of s Wipe = []
