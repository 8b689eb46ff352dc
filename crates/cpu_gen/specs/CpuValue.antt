-- A CPU's generator in contracts, and how an entry of the CPU's list changes it.
use Rattle.std.specs.Prelude.{ℕ, true, false, Option, Some, None, List}
use Rattle.key_names.specs.declared.entries.CpuEntry.{CpuEntry}
use Rattle.key_names.specs.declared.entries.CpuEntry.TheVariants.{Read, Int, Irq, Dump, Prepare, Online}
use Rattle.key_names.specs.Kernel.Keystream.{keystream}
use Rattle.key_names.specs.Lanes.CpuList.{CpuState, cpu_after}
use Rattle.key_names.specs.Keys.KeyInUse.{zero_key, cpu_value_after}
use Rattle.key_names.specs.Lanes.Book.{Lists}

pub record CpuValue : Type 0 where
  -- the 32 bytes of the key
  pub key : List ℕ
  -- the base's generation when the key came from it, or 0
  pub generation : ℕ

abbrev pub start : CpuValue
start = record { key = zero_key; generation = 0 }

-- the generator after an erasure: the first 32 bytes of the key's own keystream replace the key
abbrev pub erased : CpuValue → CpuValue
erased c = record c { key = keystream c.key 0 32 }

-- the generator after the CPU was prepared: its key belongs to no generation
abbrev pub prepared : CpuValue → CpuValue
prepared c = record c { generation = 0 }

-- the generator after the refill that an entry names: it has the key and the generation that the base handed over. If
-- the entry names no refill, the generator does not change
abbrev pub refilled : Option ℕ → CpuValue → CpuValue → CpuValue
refilled None handed c = c
refilled (Some place) handed c = handed

-- the generator after an entry; `handed` has the key and the generation that the base handed over in the refill that
-- the entry names, if it names one
abbrev pub after_entry : CpuEntry → CpuValue → CpuValue → CpuValue
after_entry (Read look refill taken) handed c = erased (refilled refill handed c)
after_entry (Int look refill width true) handed c = erased (refilled refill handed c)
after_entry (Int look refill width false) handed c = refilled refill handed c
after_entry (Irq v1 v2 now) handed c = c
after_entry (Dump now) handed c = c
after_entry Prepare handed c = prepared c
after_entry Online handed c = c

-- the generator after a list of entries: `s` is the state after the list, and `value` is the key
abbrev pub cpu_at : CpuState → List ℕ → CpuValue
cpu_at s value = record { key = value; generation = s.generation }

-- the generator of CPU `c` after all entries of its list, `entries`
abbrev pub after_entries : Lists → ℕ → List CpuEntry → CpuValue
after_entries lists c entries = cpu_at (cpu_after lists.base c entries) (cpu_value_after lists entries)
