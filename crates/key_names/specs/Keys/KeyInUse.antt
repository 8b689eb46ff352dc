-- The value of the key in use at a place, and of each named key. A key begins as 32 zeros without a name. A kept key is
-- bytes 0 to 32 of the keystream of the key in use, and a handed-over key is bytes 32 to 64.
use Rattle.std.specs.Prelude.{ℕ, zero, suc, ◌+◌, ◌*◌, Option, Some, None, List, [], ◌∷◌, take, replicate, slice_get}
use Rattle.std.specs.Prelude.{nat_lt, if◌then◌else◌}
use Rattle.std.specs.List.{fold}
use Rattle.key_names.specs.declared.names.LaneId.TheVariants.{Pool as PoolLane, Base as BaseLane, Cpu as CpuLane}
use Rattle.key_names.specs.declared.names.KeyName.{KeyName}
use Rattle.key_names.specs.declared.names.KeyName.TheVariants.{Root, Base, Cpu, Call, Vdso}
use Rattle.key_names.specs.declared.entries.Taken.{Taken}
use Rattle.key_names.specs.declared.entries.Taken.TheVariants.{User, Kernel}
use Rattle.key_names.specs.declared.entries.PoolEntry.{PoolEntry}
use Rattle.key_names.specs.declared.entries.BaseEntry.{BaseEntry}
use Rattle.key_names.specs.declared.entries.CpuEntry.{CpuEntry}
use Rattle.key_names.specs.declared.entries.VEntry.{VEntry}
use Rattle.key_names.specs.declared.entries.VEntry.TheVariants.{Rekey, Blocks, Refill, Serve, Wipe}
use Rattle.key_names.specs.Kernel.Keystream.{keystream}
use Rattle.key_names.specs.Lanes.PoolList.{root_value}
use Rattle.key_names.specs.Lanes.BaseList.{base_erases, root_of}
use Rattle.key_names.specs.Kernel.Batches.{Fill, batched_int}
use Rattle.key_names.specs.Lanes.CpuList.{cpu_erases, base_refill_of}
use Rattle.key_names.specs.Lanes.Book.{Lists, cpu_list, state_list}

abbrev pub zero_key : List ℕ
zero_key = replicate 32 0

-- the value of the named root, or `value` if no root is named
abbrev pub root_value_or : List PoolEntry → Option ℕ → List ℕ → List ℕ
root_value_or pool None value = value
root_value_or pool (Some r) value = root_value pool r

-- the value of the key in use at the base's entry e; `value` is the value of the base's key before e
abbrev pub base_value_in_use : List PoolEntry → BaseEntry → List ℕ → List ℕ
base_value_in_use pool e value = root_value_or pool (root_of e) value

abbrev pub base_value_step : List PoolEntry → List ℕ → BaseEntry → List ℕ
base_value_step pool value e =
    if base_erases e then keystream (base_value_in_use pool e value) 0 32 else base_value_in_use pool e value

-- the value of the base's key after the entries `base`
abbrev pub base_value_after : List PoolEntry → List BaseEntry → List ℕ
base_value_after pool base = fold (base_value_step pool) zero_key base

abbrev pub base_value_at : List PoolEntry → List ℕ → Option BaseEntry → List ℕ
base_value_at pool value None = value
base_value_at pool value (Some e) = base_value_in_use pool e value

-- the value of the key in use at a base place
abbrev pub base_used_at : List PoolEntry → List BaseEntry → ℕ → List ℕ
base_used_at pool base i = base_value_at pool (base_value_after pool (take i base)) (slice_get base i)

-- the value of the key that the base hands over at a place
abbrev pub base_call_value : Lists → ℕ → List ℕ
base_call_value lists i = keystream (base_used_at lists.pool lists.base i) 32 32

-- the value of the key that the base handed over in the named refill, or `value` if no refill is named
abbrev pub call_value_or : Lists → Option ℕ → List ℕ → List ℕ
call_value_or lists None value = value
call_value_or lists (Some b) value = base_call_value lists b

-- the value of the key in use at a CPU's entry e; `value` is the value of the CPU's key before e
abbrev pub cpu_value_in_use : Lists → CpuEntry → List ℕ → List ℕ
cpu_value_in_use lists e value = call_value_or lists (base_refill_of e) value

abbrev pub cpu_value_step : Lists → List ℕ → CpuEntry → List ℕ
cpu_value_step lists value e =
    if cpu_erases e then keystream (cpu_value_in_use lists e value) 0 32 else cpu_value_in_use lists e value

-- the value of a CPU's key after the entries `es`
abbrev pub cpu_value_after : Lists → List CpuEntry → List ℕ
cpu_value_after lists es = fold (cpu_value_step lists) zero_key es

abbrev pub cpu_value_at : Lists → List ℕ → Option CpuEntry → List ℕ
cpu_value_at lists value None = value
cpu_value_at lists value (Some e) = cpu_value_in_use lists e value

-- the value of the key in use at a place of a CPU
abbrev pub cpu_used_at : Lists → ℕ → ℕ → List ℕ
cpu_used_at lists c k =
    cpu_value_at lists (cpu_value_after lists (take k (cpu_list lists c))) (slice_get (cpu_list lists c) k)

-- the value of the key that a CPU hands over at a place
abbrev pub cpu_call_value : Lists → ℕ → ℕ → List ℕ
cpu_call_value lists c k = keystream (cpu_used_at lists c k) 32 32

-- the value of the key that a refill from block `from` keeps: the 32 bytes after the new batch in the keystream of the
-- key `value`
abbrev pub refill_value : List ℕ → ℕ → List ℕ
refill_value value from = keystream value (64 * from + 96) 32

-- the value of the key of a vgetrandom state after an entry
abbrev pub state_value_step : Lists → List ℕ → VEntry → List ℕ
state_value_step lists value (Rekey cpu cpu_place) = cpu_call_value lists cpu cpu_place
state_value_step lists value (Blocks from count) = value
state_value_step lists value (Refill from) = refill_value value from
state_value_step lists value (Serve pos len) = value
state_value_step lists value Wipe = zero_key

abbrev pub state_value_after : Lists → List VEntry → List ℕ
state_value_after lists es = fold (state_value_step lists) zero_key es

-- the value of the key that refill `n` keeps. Refills are counted from 0, and `value` is the value of the state's key
-- before these entries
abbrev pub refill_value_from : Lists → List ℕ → ℕ → List VEntry → List ℕ
refill_value_from lists value n [] = []
refill_value_from lists value zero (Refill from ∷ es) = refill_value value from
refill_value_from lists value (suc n) (Refill from ∷ es) = refill_value_from lists (refill_value value from) n es
refill_value_from lists value n (Rekey cpu cpu_place ∷ es) =
    refill_value_from lists (cpu_call_value lists cpu cpu_place) n es
refill_value_from lists value n (Blocks from count ∷ es) = refill_value_from lists value n es
refill_value_from lists value n (Serve pos len ∷ es) = refill_value_from lists value n es
refill_value_from lists value n (Wipe ∷ es) = refill_value_from lists zero_key n es

-- the value of a named key. The pool hands over no key, so a call key of the pool has no value
abbrev pub value_of : Lists → KeyName → List ℕ
value_of lists (Root p) = root_value lists.pool p
value_of lists (Base i) = base_value_after lists.pool (take (suc i) lists.base)
value_of lists (Cpu c k) = cpu_value_after lists (take (suc k) (cpu_list lists c))
value_of lists (Call PoolLane i) = []
value_of lists (Call BaseLane i) = base_call_value lists i
value_of lists (Call (CpuLane c) k) = cpu_call_value lists c k
value_of lists (Vdso caller state n) = refill_value_from lists zero_key n (state_list lists caller state)

-- the bytes that a read serves if the key in use has the value `key`
abbrev pub taken_bytes : List ℕ → Taken → List ℕ
taken_bytes key (User n) = if nat_lt 32 n then keystream (keystream key 32 32) 64 n else keystream key 32 n
taken_bytes key (Kernel n) = keystream key 32 n

-- the next integer that CPU c serves from a fill
abbrev pub next_int : Lists → ℕ → ℕ → Fill → List ℕ
next_int lists c width fill = batched_int (cpu_used_at lists c fill.place) width fill.count
