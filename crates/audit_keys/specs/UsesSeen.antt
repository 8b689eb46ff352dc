-- A use that the code lists also has its entry. If the bytes were kept, it also has the name of the new key. Without
-- these two, the listed uses are the uses of `key_names`.
use Rattle.std.specs.Prelude.{ℕ, ◌≡◌, Bool, List, map}
use Rattle.key_names.specs.declared.entries.BaseEntry.{BaseEntry}
use Rattle.key_names.specs.declared.entries.CpuEntry.{CpuEntry}
use Rattle.key_names.specs.declared.entries.VEntry.{VEntry}
use Rattle.key_names.specs.Lanes.BaseList.{base_start, base_step}
use Rattle.key_names.specs.Lanes.CpuList.{cpu_start, cpu_step}
use Rattle.key_names.specs.Lanes.StateList.{state_start, state_step}
use Rattle.key_names.specs.Keys.Uses.{Use, Purpose as BookPurpose, kept, served}
use Rattle.key_names.specs.Keys.Uses.{base_uses_at, cpu_uses_at, state_uses_at, uses_from}
use Rattle.audit_keys.specs.declared.state_uses.StateOf.{StateOf}
use Rattle.audit_keys.specs.declared.used.Purpose.{Purpose}
use Rattle.audit_keys.specs.declared.used.Purpose.TheVariants.{Kept, Served}
use Rattle.audit_keys.specs.declared.used.Used.{Used}
use Rattle.audit_keys.specs.ListedFrom.{listed_from}
use Rattle.audit_keys.specs.UsedAt.{base_used_at, cpu_used_at, state_used_at}

abbrev pub purpose_of : Purpose → BookPurpose
purpose_of (Kept name) = kept
purpose_of Served = served

abbrev pub use_seen : Used → Use
use_seen used = record { span = used.span; purpose = purpose_of used.purpose }

abbrev pub uses_seen : List Used → List Use
uses_seen used = map use_seen used

-- for every list, the uses that the code lists are the uses that the definitions give
pub record AreSeenAsUses : Type 0 where
  pub base : (es : List BaseEntry) →
      uses_seen (listed_from base_used_at base_step base_start es) ≡ uses_from base_uses_at base_step base_start es
  pub cpus : (base : List BaseEntry) (c : ℕ) (rekeys : ℕ → Bool) (es : List CpuEntry) →
      uses_seen (listed_from (cpu_used_at c rekeys) (cpu_step base c) cpu_start es)
      ≡ uses_from (cpu_uses_at c rekeys) (cpu_step base c) cpu_start es
  pub states : (of : StateOf) (es : List VEntry) →
      uses_seen (listed_from (state_used_at of) (state_step of.caller of.state) state_start es)
      ≡ uses_from state_uses_at (state_step of.caller of.state) state_start es
