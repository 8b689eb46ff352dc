-- For callers of the crate: `after_entry` changes a CPU's generator in the same way as the definitions change the state
-- of the CPU's list.
use Rattle.std.proofs.Common.{◌≡◌, ℕ, true, false, Option, Some, None, List, refl, ap}
use Rattle.key_names.specs.declared.entries.CpuEntry.{CpuEntry}
use Rattle.key_names.specs.declared.entries.CpuEntry.TheVariants.{Read, Int, Irq, Dump, Prepare, Online}
use Rattle.key_names.specs.Lanes.BaseList.{generation_at}
use Rattle.key_names.specs.Lanes.CpuList.{CpuState, base_refill_of, cpu_step, generation_or}
use Rattle.key_names.specs.Keys.KeyInUse.{base_call_value, call_value_or, cpu_value_step}
use Rattle.key_names.specs.Lanes.Book.{Lists}
use Rattle.cpu_gen.specs.CpuValue.{CpuValue, erased, refilled, after_entry, cpu_at}

-- the key and the generation that the base hands over at place `b` of its list
abbrev pub handed_at : Lists → ℕ → CpuValue
handed_at lists b = record { key = base_call_value lists b; generation = generation_at lists.base b }

-- if the entry `e` names a refill, `handed` is the key and the generation that the base hands over in this refill
abbrev pub HandsRefill : Lists → CpuEntry → CpuValue → Type 0
HandsRefill lists e handed = (place : ℕ) → base_refill_of e ≡ Some place → handed ≡ handed_at lists place

pub refilled-handed_at : (lists : Lists) (refill : Option ℕ) (handed : CpuValue) (g : ℕ) (value : List ℕ) →
    ((place : ℕ) → refill ≡ Some place → handed ≡ handed_at lists place) →
    refilled refill handed (record { key = value; generation = g }) ≡ record {
      key = call_value_or lists refill value;
      generation = generation_or lists.base refill g;
    }
refilled-handed_at lists None handed g value is = refl
refilled-handed_at lists (Some place) handed g value is = is place refl

-- suppose that `handed` is the key and the generation that the base hands over in the refill that `e` names. Then `e`
-- changes the generator with the state `s` and the key `value` into the generator with the state and the key after `e`
pub after_entry-cpu_at : (lists : Lists) (c : ℕ) (s : CpuState) (value : List ℕ) (e : CpuEntry) (handed : CpuValue) →
    HandsRefill lists e handed → after_entry e handed (cpu_at s value) ≡ cpu_at (cpu_step lists.base c s e)
    (cpu_value_step lists value e)
after_entry-cpu_at lists c s value (Read look refill taken) handed is =
    ap erased (refilled-handed_at lists refill handed s.generation value is)
after_entry-cpu_at lists c s value (Int look refill width true) handed is =
    ap erased (refilled-handed_at lists refill handed s.generation value is)
after_entry-cpu_at lists c s value (Int look refill width false) handed is =
    refilled-handed_at lists refill handed s.generation value is
after_entry-cpu_at lists c s value (Irq v1 v2 now) handed is = refl
after_entry-cpu_at lists c s value (Dump now) handed is = refl
after_entry-cpu_at lists c s value Prepare handed is = refl
after_entry-cpu_at lists c s value Online handed is = refl
