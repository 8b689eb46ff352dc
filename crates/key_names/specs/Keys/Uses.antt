-- The uses of each key's bytes, and when no byte is used twice.
use Rattle.std.specs.Prelude.{ℕ, ◌+◌, ◌*◌, ◌≡◌, ◌≤◌, ◌<◌, ◌⊎◌, Bool, true, false, ◌&&◌, ◌==◌, ⊤, Option, Some, None}
use Rattle.std.specs.Prelude.{List, [], ◌∷◌, ◌++◌, length, nat_lt, if◌then◌else◌}
use Rattle.std.specs.List.{list_any, flat_map, range_with_len}
use Rattle.key_names.specs.declared.names.LaneId.TheVariants.{Base as BaseLane, Cpu as CpuLane}
use Rattle.key_names.specs.declared.names.KeyName.{KeyName}
use Rattle.key_names.specs.declared.names.KeyName.TheVariants.{Call}
use Rattle.key_names.specs.declared.names.Span.{Span}
use Rattle.key_names.specs.declared.entries.Taken.{Taken}
use Rattle.key_names.specs.declared.entries.Taken.TheVariants.{User, Kernel}
use Rattle.key_names.specs.declared.entries.BaseEntry.{BaseEntry}
use Rattle.key_names.specs.declared.entries.BaseEntry.TheVariants.{Early, Reseed, Tick, Draw, Refill as BaseRefill}
use Rattle.key_names.specs.declared.entries.BaseEntry.TheVariants.{Fork, End, Wait, Resume}
use Rattle.key_names.specs.declared.entries.BaseEntry.TheVariants.{Interrupt, Stall, Unstall}
use Rattle.key_names.specs.declared.entries.CpuEntry.{CpuEntry}
use Rattle.key_names.specs.declared.entries.CpuEntry.TheVariants.{Read, Int, Irq, Dump, Prepare, Online}
use Rattle.key_names.specs.declared.entries.VEntry.{VEntry}
use Rattle.key_names.specs.declared.entries.VEntry.TheVariants.{Rekey, Blocks, Refill, Serve, Wipe}
use Rattle.key_names.specs.Kernel.Batches.{Fill}
use Rattle.key_names.specs.Lanes.BaseList.{BaseState, base_start, base_step, base_key_in_use}
use Rattle.key_names.specs.Lanes.CpuList.{CpuState, cpu_start, cpu_step, cpu_key_in_use}
use Rattle.key_names.specs.Lanes.StateList.{NamedState, state_start, state_step}
use Rattle.key_names.specs.Lanes.Book.{Lists, list_at, cpu_list, state_list}

-- whether bytes of a keystream were kept as a key or served to a caller
pub data Purpose : Type 0 where
  kept served : Purpose

pub record Use : Type 0 where
  pub span : Span
  pub purpose : Purpose

abbrev pub use_of : Purpose → KeyName → ℕ → ℕ → Use
use_of purpose key from len = record { span = record { key = key; from = from; len = len }; purpose = purpose }

-- the uses that an entry makes of the key in use, given the key's name. A key without a name has no uses
abbrev pub named_uses : Option KeyName → (KeyName → List Use) → List Use
named_uses None uses_of = []
named_uses (Some key) uses_of = uses_of key

abbrev pub named_use : Purpose → Option KeyName → ℕ → ℕ → List Use
named_use purpose key from len = named_uses key (λ k. use_of purpose k from len ∷ [])

-- the uses of the bytes of a read, after the 32 bytes that the erasure keeps. `call` is the name of the next 32 bytes
-- if they become a key. `rekeys` is true if a vgetrandom state takes the read as its key
abbrev pub taken_uses : Bool → KeyName → KeyName → Taken → List Use
taken_uses rekeys key call (User n) =
    if nat_lt 32 n then use_of kept key 32 32 ∷ use_of served call 64 n ∷ []
    else (if rekeys then use_of kept key 32 32 else use_of served key 32 n) ∷ []
taken_uses rekeys key call (Kernel n) = use_of served key 32 n ∷ []

-- the uses of a read: the key that its erasure keeps, and the bytes of the read
abbrev pub read_uses : Bool → KeyName → KeyName → Taken → List Use
read_uses rekeys key call taken = use_of kept key 0 32 ∷ taken_uses rekeys key call taken

abbrev pub base_uses_at : BaseState → BaseEntry → List Use
base_uses_at s (Draw root taken) =
    named_uses (base_key_in_use (Draw root taken) s.key) (λ key. read_uses false key (Call BaseLane s.place) taken)
base_uses_at s (BaseRefill cpu cpu_place) =
    named_uses s.key (λ key. use_of kept key 0 32 ∷ use_of kept key 32 32 ∷ [])
base_uses_at s (Early root) = []
base_uses_at s (Reseed root now) = []
base_uses_at s (Tick now root) = []
base_uses_at s (Fork child) = []
base_uses_at s End = []
base_uses_at s Wait = []
base_uses_at s Resume = []
base_uses_at s Interrupt = []
base_uses_at s Stall = []
base_uses_at s Unstall = []

-- the use of the next integer of a batch
abbrev pub batch_uses : ℕ → Option Fill → List Use
batch_uses width None = []
batch_uses width (Some fill) = named_use served fill.key (32 + width * fill.count) width

-- the uses of an entry of CPU c in the state s. `rekeys` is true for each place whose read a vgetrandom state takes as
-- its key
abbrev pub cpu_uses_at : ℕ → (ℕ → Bool) → CpuState → CpuEntry → List Use
cpu_uses_at c rekeys s (Read look refill taken) =
    named_uses (cpu_key_in_use (Read look refill taken) s.key)
    (λ key. read_uses (rekeys s.place) key (Call (CpuLane c) s.place) taken)
cpu_uses_at c rekeys s (Int look refill width true) =
    named_uses (cpu_key_in_use (Int look refill width true) s.key)
    (λ key. use_of kept key 0 32 ∷ use_of served key 32 width ∷ [])
cpu_uses_at c rekeys s (Int look refill width false) = batch_uses width (s.fills width)
cpu_uses_at c rekeys s (Irq v1 v2 now) = []
cpu_uses_at c rekeys s (Dump now) = []
cpu_uses_at c rekeys s Prepare = []
cpu_uses_at c rekeys s Online = []

abbrev pub state_uses_at : NamedState → VEntry → List Use
state_uses_at s (Rekey cpu cpu_place) = []
state_uses_at s (Blocks from count) = named_use served s.key (64 * from) (64 * count)
state_uses_at s (Refill from) = named_use kept s.key (64 * from + 96) 32
state_uses_at s (Serve pos len) = named_use served s.batch_key (64 * s.batch_from + pos) len
state_uses_at s Wipe = []

-- the uses of a list of entries, one after another. The uses of each entry depend on the state before the entry
abbrev pub uses_from : {S E : Type 0} → (S → E → List Use) → (S → E → S) → S → List E → List Use
uses_from uses_at step s [] = []
uses_from uses_at step s (e ∷ es) = uses_at s e ++ uses_from uses_at step (step s e) es

abbrev pub rekeys_place : ℕ → ℕ → VEntry → Bool
rekeys_place c k (Rekey cpu cpu_place) = cpu == c && cpu_place == k
rekeys_place c k (Blocks from count) = false
rekeys_place c k (Refill from) = false
rekeys_place c k (Serve pos len) = false
rekeys_place c k Wipe = false

-- whether an entry of some vgetrandom state takes its key from the read at place k of CPU c
abbrev pub is_rekeyed : Lists → ℕ → ℕ → Bool
is_rekeyed lists c k = list_any (λ states. list_any (λ es. list_any (rekeys_place c k) es) states) lists.callers

abbrev pub base_uses : Lists → List Use
base_uses lists = uses_from base_uses_at base_step base_start lists.base

abbrev pub cpu_uses : Lists → ℕ → List Use
cpu_uses lists c =
    uses_from (cpu_uses_at c (is_rekeyed lists c)) (cpu_step lists.base c) cpu_start (cpu_list lists c)

abbrev pub state_uses : Lists → ℕ → ℕ → List Use
state_uses lists caller state =
    uses_from state_uses_at (state_step caller state) state_start (state_list lists caller state)

-- the uses `uses_of n` for each number n below `count`, one after another
abbrev pub uses_below : ℕ → (ℕ → List Use) → List Use
uses_below count uses_of = flat_map uses_of (range_with_len 0 count)

abbrev pub caller_uses : Lists → ℕ → List Use
caller_uses lists caller = uses_below (length (list_at lists.callers caller)) (state_uses lists caller)

-- the uses of a book
abbrev pub uses : Lists → List Use
uses lists =
    base_uses lists ++ uses_below (length lists.cpus) (cpu_uses lists)
    ++ uses_below (length lists.callers) (caller_uses lists)

-- byte q of the key's keystream is in the span
pub record HoldsByte (span : Span) (key : KeyName) (q : ℕ) : Type 0 where
  pub same_key : span.key ≡ key
  pub from : span.from ≤ q
  pub below : q < span.from + span.len

-- byte q of the key's keystream is in one of the uses
abbrev pub IsUsed : List Use → KeyName → ℕ → Type 0
IsUsed [] key q = ⊥
IsUsed (u ∷ us) key q = HoldsByte u.span key q ⊎ IsUsed us key q

-- no byte of a key is in two uses of the list
abbrev pub Disjoint : List Use → Type 0
Disjoint [] = ⊤
Disjoint (u ∷ us) = ((key : KeyName) (q : ℕ) → HoldsByte u.span key q → IsUsed us key q → ⊥) × Disjoint us

abbrev pub IsDisjoint : Lists → Type 0
IsDisjoint lists = Disjoint (uses lists)
