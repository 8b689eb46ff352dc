-- The keys, and the rests of batches (their bytes not served), that are held after all entries.
use Rattle.std.specs.Prelude.{ℕ, Option, Some, None, List, [], ◌∷◌, nat_lt, if◌then◌else◌}
use Rattle.std.specs.List.{flat_map}
use Rattle.key_names.specs.declared.names.KeyName.{KeyName}
use Rattle.key_names.specs.declared.names.Span.{Span}
use Rattle.key_names.specs.Kernel.Batches.{Fill}
use Rattle.key_names.specs.Keys.LiveMaterial.{fill_rest, KeyHolder as BookKeyHolder, base_key, cpu_key, state_key}
use Rattle.key_names.specs.Keys.LiveMaterial.{BatchHolder as BookBatchHolder, cpu_batch, state_batch}
use Rattle.audit_keys.specs.Rests.{widths}
use Rattle.audit_keys.specs.declared.held.KeyHolder.{KeyHolder}
use Rattle.audit_keys.specs.declared.held.KeyHolder.TheVariants.{Base, Cpu, State}
use Rattle.audit_keys.specs.declared.held.BatchHolder.{BatchHolder}
use Rattle.audit_keys.specs.declared.held.BatchHolder.TheVariants.{Cpu as CpuBatch, State as StateBatch}
use Rattle.audit_keys.specs.declared.held.HeldKey.{HeldKey}
use Rattle.audit_keys.specs.declared.held.HeldRest.{HeldRest}

-- the holder of a key, in the type of holders that `key_names` has
abbrev pub key_holder : KeyHolder → BookKeyHolder
key_holder Base = base_key
key_holder (Cpu cpu) = cpu_key cpu
key_holder (State of) = state_key of.caller of.state

abbrev pub batch_holder : BatchHolder → BookBatchHolder
batch_holder (CpuBatch cpu width) = cpu_batch cpu width
batch_holder (StateBatch of) = state_batch of.caller of.state

-- the key that a holder holds, if it holds one
abbrev pub held_key : KeyHolder → Option KeyName → List HeldKey
held_key holder None = []
held_key holder (Some key) = record { holder = holder; key = key } ∷ []

-- the rest of the batch that a holder holds, if this rest has bytes
abbrev pub held_rest : BatchHolder → Option Span → List HeldRest
held_rest holder None = []
held_rest holder (Some span) = if nat_lt 0 span.len then record { holder = holder; span = span } ∷ [] else []

-- the rests of all batches of a CPU
abbrev pub held_fills : ℕ → (ℕ → Option Fill) → List HeldRest
held_fills cpu fills = flat_map (λ width. held_rest (CpuBatch cpu width) (fill_rest width (fills width))) widths
