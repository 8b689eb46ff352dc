-- The keys that the entries of a list make, and the keys that these entries replace or erase. Each key is listed with
-- its entry.
use Rattle.std.specs.Prelude.{ℕ, true, false, Option, Some, None, List, [], ◌∷◌, ◌++◌, nat_lt, if◌then◌else◌}
use Rattle.key_names.specs.declared.names.LaneId.{LaneId}
use Rattle.key_names.specs.declared.names.LaneId.TheVariants.{Pool as PoolLane, Base as BaseLane, Cpu as CpuLane}
use Rattle.key_names.specs.declared.names.KeyName.{KeyName}
use Rattle.key_names.specs.declared.names.KeyName.TheVariants.{Root, Base, Cpu, Call, Vdso}
use Rattle.key_names.specs.declared.entries.Taken.{Taken}
use Rattle.key_names.specs.declared.entries.Taken.TheVariants.{User, Kernel}
use Rattle.key_names.specs.declared.entries.BaseEntry.{BaseEntry}
use Rattle.key_names.specs.declared.entries.BaseEntry.TheVariants.{Early, Reseed, Tick, Draw, Refill as BaseRefill}
use Rattle.key_names.specs.declared.entries.BaseEntry.TheVariants.{Fork, End, Wait, Resume}
use Rattle.key_names.specs.declared.entries.BaseEntry.TheVariants.{Interrupt, Stall, Unstall}
use Rattle.key_names.specs.declared.entries.CpuEntry.{CpuEntry}
use Rattle.key_names.specs.declared.entries.CpuEntry.TheVariants.{Read, Int, Irq, Dump, Prepare, Online}
use Rattle.key_names.specs.declared.entries.VEntry.{VEntry}
use Rattle.key_names.specs.declared.entries.VEntry.TheVariants.{Rekey, Blocks, Refill, Serve, Wipe}
use Rattle.key_names.specs.Lanes.BaseList.{BaseState, root_or}
use Rattle.key_names.specs.Lanes.CpuList.{CpuState, call_or}
use Rattle.key_names.specs.Lanes.StateList.{NamedState}
use Rattle.audit_keys.specs.declared.state_uses.StateOf.{StateOf}
use Rattle.audit_keys.specs.declared.used.Origin.{Origin}
use Rattle.audit_keys.specs.declared.used.Origin.TheVariants.{Lane}
use Rattle.audit_keys.specs.UsedAt.{state_origin}
use Rattle.audit_keys.specs.declared.lives.Holder.{Holder}
use Rattle.audit_keys.specs.declared.lives.Holder.TheVariants.{Base as InBase, Cpu as InCpu, State as InState}
use Rattle.audit_keys.specs.declared.lives.Holder.TheVariants.{Read as InRead}
use Rattle.audit_keys.specs.declared.lives.Birth.{Birth}
use Rattle.audit_keys.specs.declared.lives.Ending.{Ending}

abbrev pub born : KeyName → Holder → Origin → Birth
born key holder by = record { key = key; holder = holder; by = by }

abbrev pub ended : Origin → Option KeyName → List Ending
ended by None = []
ended by (Some key) = record { key = key; by = by } ∷ []

-- a user's read of more than 32 bytes makes a call key, which the same read erases
abbrev pub long_births : LaneId → ℕ → Taken → List Birth
long_births lane place (User n) =
    if nat_lt 32 n then born (Call lane place) InRead (Lane lane place) ∷ [] else []
long_births lane place (Kernel n) = []

abbrev pub long_endings : LaneId → ℕ → Taken → List Ending
long_endings lane place (User n) =
    if nat_lt 32 n then ended (Lane lane place) (Some (Call lane place)) else []
long_endings lane place (Kernel n) = []

-- if an entry of the base names the root `r`, the pool's entry at place `r` made this root, and the base holds it
abbrev pub root_births : Option ℕ → List Birth
root_births None = []
root_births (Some r) = born (Root r) InBase (Lane PoolLane r) ∷ []

-- if an entry names a root or a refill, a new key replaces `key`, the key before the entry
abbrev pub replaced : Origin → Option ℕ → Option KeyName → List Ending
replaced by None key = []
replaced by (Some n) key = ended by key

abbrev pub base_births_at : BaseState → BaseEntry → List Birth
base_births_at s (Early root) = root_births root
base_births_at s (Reseed root now) = root_births (Some root)
base_births_at s (Tick now root) = root_births root
base_births_at s (Draw root taken) = root_births root
    ++ born (Base s.place) InBase (Lane BaseLane s.place) ∷ long_births BaseLane s.place taken
base_births_at s (BaseRefill cpu cpu_place) = born (Base s.place) InBase (Lane BaseLane s.place)
    ∷ born (Call BaseLane s.place) (InCpu cpu) (Lane BaseLane s.place) ∷ []
base_births_at s (Fork child) = []
base_births_at s End = []
base_births_at s Wait = []
base_births_at s Resume = []
base_births_at s Interrupt = []
base_births_at s Stall = []
base_births_at s Unstall = []

abbrev pub base_endings_at : BaseState → BaseEntry → List Ending
base_endings_at s (Early root) = replaced (Lane BaseLane s.place) root s.key
base_endings_at s (Reseed root now) = replaced (Lane BaseLane s.place) (Some root) s.key
base_endings_at s (Tick now root) = replaced (Lane BaseLane s.place) root s.key
base_endings_at s (Draw root taken) = replaced (Lane BaseLane s.place) root s.key
    ++ ended (Lane BaseLane s.place) (root_or root s.key) ++ long_endings BaseLane s.place taken
base_endings_at s (BaseRefill cpu cpu_place) = ended (Lane BaseLane s.place) s.key
base_endings_at s (Fork child) = []
base_endings_at s End = []
base_endings_at s Wait = []
base_endings_at s Resume = []
base_endings_at s Interrupt = []
base_endings_at s Stall = []
base_endings_at s Unstall = []

abbrev pub cpu_births_at : ℕ → CpuState → CpuEntry → List Birth
cpu_births_at c s (Read look refill taken) =
    born (Cpu c s.place) (InCpu c) (Lane (CpuLane c) s.place) ∷ long_births (CpuLane c) s.place taken
cpu_births_at c s (Int look refill width true) = born (Cpu c s.place) (InCpu c) (Lane (CpuLane c) s.place) ∷ []
cpu_births_at c s (Int look refill width false) = []
cpu_births_at c s (Irq v1 v2 now) = []
cpu_births_at c s (Dump now) = []
cpu_births_at c s Prepare = []
cpu_births_at c s Online = []

abbrev pub cpu_endings_at : ℕ → CpuState → CpuEntry → List Ending
cpu_endings_at c s (Read look refill taken) = replaced (Lane (CpuLane c) s.place) refill s.key
    ++ ended (Lane (CpuLane c) s.place) (call_or refill s.key) ++ long_endings (CpuLane c) s.place taken
cpu_endings_at c s (Int look refill width true) = replaced (Lane (CpuLane c) s.place) refill s.key
    ++ ended (Lane (CpuLane c) s.place) (call_or refill s.key)
cpu_endings_at c s (Int look refill width false) = replaced (Lane (CpuLane c) s.place) refill s.key
cpu_endings_at c s (Irq v1 v2 now) = []
cpu_endings_at c s (Dump now) = []
cpu_endings_at c s Prepare = []
cpu_endings_at c s Online = []

-- if the state had a key, a refill makes the state's next key
abbrev pub refill_births : StateOf → NamedState → Option KeyName → List Birth
refill_births of s None = []
refill_births of s (Some key) =
    born (Vdso of.caller of.state s.refills) (InState of) (state_origin of s.place) ∷ []

-- a rekey gives the state a call key; the read at place `cpu_place` of CPU `cpu` made this key
abbrev pub state_births_at : StateOf → NamedState → VEntry → List Birth
state_births_at of s (Rekey cpu cpu_place) =
    born (Call (CpuLane cpu) cpu_place) (InState of) (Lane (CpuLane cpu) cpu_place) ∷ []
state_births_at of s (Blocks from count) = []
state_births_at of s (Refill from) = refill_births of s s.key
state_births_at of s (Serve pos len) = []
state_births_at of s Wipe = []

abbrev pub state_endings_at : StateOf → NamedState → VEntry → List Ending
state_endings_at of s (Rekey cpu cpu_place) = ended (state_origin of s.place) s.key
state_endings_at of s (Blocks from count) = []
state_endings_at of s (Refill from) = ended (state_origin of s.place) s.key
state_endings_at of s (Serve pos len) = []
state_endings_at of s Wipe = ended (state_origin of s.place) s.key
