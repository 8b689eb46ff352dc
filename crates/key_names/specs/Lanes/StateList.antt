-- What the list of a caller's vgetrandom state means: the names of the state's key and of its batch's key after the
-- list's entries, and which entry may follow.
use Rattle.std.specs.Prelude.{ℕ, suc, ◌+◌, ◌≡◌, ◌≤◌, ⊤, Option, Some, None, List, slice_get, option_and_then}
use Rattle.std.specs.List.{fold}
use Rattle.key_names.specs.declared.names.LaneId.TheVariants.{Cpu as CpuLane}
use Rattle.key_names.specs.declared.names.KeyName.{KeyName}
use Rattle.key_names.specs.declared.names.KeyName.TheVariants.{Call, Vdso}
use Rattle.key_names.specs.declared.entries.Taken.TheVariants.{User}
use Rattle.key_names.specs.declared.entries.CpuEntry.{CpuEntry}
use Rattle.key_names.specs.declared.entries.VEntry.{VEntry}
use Rattle.key_names.specs.declared.entries.VEntry.TheVariants.{Rekey, Blocks, Refill, Serve, Wipe}
use Rattle.key_names.specs.Lanes.CpuList.{taken_at}
use Rattle.key_names.specs.Lanes.LawfulList.{LawfulFrom}

-- which entry has to follow. After a rekey (`new_key`), a wipe, blocks or a refill has to follow. After blocks
-- (`refill_from`), the refill from the next block has to follow
pub data Expected : Type 0 where
  anything new_key : Expected
  refill_from : ℕ → Expected

pub record NamedState : Type 0 where
  -- the number of entries so far
  pub place : ℕ
  -- the name of the key
  pub key : Option KeyName
  -- the number of refills so far, including refills from a key without a name
  pub refills : ℕ
  -- the key in use at the last refill, and the block of its keystream at which the batch begins
  pub batch_key : Option KeyName
  pub batch_from : ℕ
  -- the first byte of the batch that was not served
  pub pos : ℕ
  pub expected : Expected

abbrev pub state_start : NamedState
state_start = record {
  place = 0;
  key = None;
  refills = 0;
  batch_key = None;
  batch_from = 0;
  pos = 0;
  expected = anything;
}

-- the name of the key that refill `n` keeps. If the key in use has no name, the kept key has no name
abbrev pub refill_key : ℕ → ℕ → ℕ → Option KeyName → Option KeyName
refill_key caller state n None = None
refill_key caller state n (Some key) = Some (Vdso caller state n)

abbrev pub state_step : ℕ → ℕ → NamedState → VEntry → NamedState
state_step caller state s (Rekey cpu cpu_place) = record s {
  place = suc s.place;
  key = Some (Call (CpuLane cpu) cpu_place);
  batch_key = None;
  pos = 96;
  expected = new_key;
}
state_step caller state s (Blocks from count) =
    record s { place = suc s.place; expected = refill_from (from + count) }
state_step caller state s (Refill from) = record {
  place = suc s.place;
  key = refill_key caller state s.refills s.key;
  refills = suc s.refills;
  batch_key = s.key;
  batch_from = from;
  pos = 0;
  expected = anything;
}
state_step caller state s (Serve pos len) = record s { place = suc s.place; pos = pos + len }
state_step caller state s Wipe =
    record s { place = suc s.place; key = None; batch_key = None; pos = 0; expected = anything }

abbrev pub state_after : ℕ → ℕ → List VEntry → NamedState
state_after caller state = fold (state_step caller state) state_start

-- whether blocks or a wipe may come
abbrev pub MayStart : Expected → Type 0
MayStart anything = ⊤
MayStart new_key = ⊤
MayStart (refill_from n) = ⊥

-- whether a refill from this block may come
abbrev pub MayRefill : Expected → ℕ → Type 0
MayRefill anything from = ⊤
MayRefill new_key from = ⊤
MayRefill (refill_from n) from = from ≡ n

-- whether an entry may come in this state. Each served piece begins where the piece before ended
abbrev pub MayFollow : NamedState → VEntry → Type 0
MayFollow s (Rekey cpu cpu_place) = s.expected ≡ anything
MayFollow s (Blocks from count) = MayStart s.expected
MayFollow s (Refill from) = MayRefill s.expected from
MayFollow s (Serve pos len) = (s.expected ≡ anything) × (pos ≡ s.pos) × (pos + len ≤ 96)
MayFollow s Wipe = MayStart s.expected

-- a rekey takes its key from a user's read of 32 bytes; `cpu_list` gives each CPU's list
abbrev pub TakesRead : (ℕ → List CpuEntry) → VEntry → Type 0
TakesRead cpu_list (Rekey cpu cpu_place) = taken_at (cpu_list cpu) cpu_place ≡ Some (User 32)
TakesRead cpu_list (Blocks from count) = ⊤
TakesRead cpu_list (Refill from) = ⊤
TakesRead cpu_list (Serve pos len) = ⊤
TakesRead cpu_list Wipe = ⊤

abbrev pub StateMayCome : (ℕ → List CpuEntry) → NamedState → VEntry → Type 0
StateMayCome cpu_list s e = MayFollow s e × TakesRead cpu_list e

-- each entry may follow the entries before it, and no entry has to follow the last one
pub record OrderedStateList (caller state : ℕ) (es : List VEntry) : Type 0 where
  pub comes : LawfulFrom MayFollow (state_step caller state) state_start es
  pub ends : (state_after caller state es).expected ≡ anything

-- the list is in order, and each rekey takes its key from a user's read of 32 bytes
pub record LawfulStateList (cpu_list : ℕ → List CpuEntry) (caller state : ℕ) (es : List VEntry) : Type 0 where
  pub comes : LawfulFrom (StateMayCome cpu_list) (state_step caller state) state_start es
  pub ends : (state_after caller state es).expected ≡ anything

-- the CPU and the place of the read that an entry takes as its key
abbrev pub rekey_of : VEntry → Option (ℕ × ℕ)
rekey_of (Rekey cpu cpu_place) = Some (cpu, cpu_place)
rekey_of (Blocks from count) = None
rekey_of (Refill from) = None
rekey_of (Serve pos len) = None
rekey_of Wipe = None

abbrev pub rekey_at : List VEntry → ℕ → Option (ℕ × ℕ)
rekey_at es n = option_and_then rekey_of (slice_get es n)
