-- The rests of batches that each entry gives up. The rest of a batch is the bytes of the batch that were not served.
use Rattle.std.specs.Prelude.{ℕ, ◌≡◌, true, false, Option, Some, None, List, [], ◌∷◌, nat_lt, if◌then◌else◌}
use Rattle.std.specs.List.{flat_map, range_with_len}
use Rattle.key_names.specs.declared.names.LaneId.TheVariants.{Cpu as CpuLane}
use Rattle.key_names.specs.declared.names.Span.{Span}
use Rattle.key_names.specs.declared.entries.CpuEntry.{CpuEntry}
use Rattle.key_names.specs.declared.entries.CpuEntry.TheVariants.{Read, Int, Irq, Dump, Prepare, Online}
use Rattle.key_names.specs.declared.entries.VEntry.{VEntry}
use Rattle.key_names.specs.declared.entries.VEntry.TheVariants.{Rekey, Blocks, Refill, Serve, Wipe}
use Rattle.key_names.specs.Kernel.Batches.{Fill}
use Rattle.key_names.specs.Lanes.CpuList.{CpuState}
use Rattle.key_names.specs.Lanes.StateList.{NamedState}
use Rattle.key_names.specs.Keys.LiveMaterial.{fill_rest, state_rest}
use Rattle.audit_keys.specs.declared.state_uses.StateOf.{StateOf}
use Rattle.audit_keys.specs.declared.used.Origin.{Origin}
use Rattle.audit_keys.specs.declared.used.Origin.TheVariants.{Lane}
use Rattle.audit_keys.specs.StateKeys.{StateConforms}
use Rattle.audit_keys.specs.UsedAt.{state_origin}
use Rattle.audit_keys.specs.declared.lives.GivenUp.{GivenUp}
use Rattle.audit_keys.specs.declared.batches.StateBatch.{StateBatch}

-- `s` is a vgetrandom state before the entry at `place`. `batch` has the keys of `s`, and the position of `s` in its
-- batch
pub record BatchConforms (s : NamedState) (place : ℕ) (batch : StateBatch) : Type 0 where
  pub keys : StateConforms s place batch.keys
  pub pos : batch.pos ≡ s.pos

-- `span` is the rest of a batch that the entry `by` gives up; if it has no bytes, nothing is listed
abbrev pub given_up : Origin → Option Span → List GivenUp
given_up by None = []
given_up by (Some span) = if nat_lt 0 span.len then record { span = span; by = by } ∷ [] else []

-- the batch widths that fit into a byte
unfoldable pub widths : List ℕ
widths = range_with_len 0 256

-- the rests of all batches of a CPU, which the entry `by` gives up
abbrev pub fills_given_up : Origin → (ℕ → Option Fill) → List GivenUp
fills_given_up by fills = flat_map (λ width. given_up by (fill_rest width (fills width))) widths

-- a new fill gives up the rest of its batch, and the preparation of a CPU gives up the rests of all its batches
abbrev pub cpu_given_up_at : ℕ → CpuState → CpuEntry → List GivenUp
cpu_given_up_at c s (Read look refill taken) = []
cpu_given_up_at c s (Int look refill width true) =
    given_up (Lane (CpuLane c) s.place) (fill_rest width (s.fills width))
cpu_given_up_at c s (Int look refill width false) = []
cpu_given_up_at c s (Irq v1 v2 now) = []
cpu_given_up_at c s (Dump now) = []
cpu_given_up_at c s Prepare = fills_given_up (Lane (CpuLane c) s.place) s.fills
cpu_given_up_at c s Online = []

-- a rekey, a refill and a wipe give up the rest of the state's batch
abbrev pub state_given_up_at : StateOf → NamedState → VEntry → List GivenUp
state_given_up_at of s (Rekey cpu cpu_place) = given_up (state_origin of s.place) (state_rest s)
state_given_up_at of s (Blocks from count) = []
state_given_up_at of s (Refill from) = given_up (state_origin of s.place) (state_rest s)
state_given_up_at of s (Serve pos len) = []
state_given_up_at of s Wipe = given_up (state_origin of s.place) (state_rest s)
