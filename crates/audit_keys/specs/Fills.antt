-- The last fills of a CPU's batches, as the code keeps them.
use Rattle.std.specs.Prelude.{ℕ, ◌+◌, ◌^◌, ◌<◌, ◌≤◌, ◌≡◌, ◌==◌, Bool, true, false, Option, Some, None, List, slice_get, unwrap_or}
use Rattle.std.specs.Prelude.{if◌then◌else◌}
use Rattle.key_names.specs.declared.entries.CpuEntry.{CpuEntry}
use Rattle.key_names.specs.declared.entries.CpuEntry.TheVariants.{Read, Int, Irq, Dump, Prepare, Online}
use Rattle.key_names.specs.Kernel.Batches.{Fill as BookFill, one_more_served}
use Rattle.key_names.specs.Lanes.CpuList.{CpuState}
use Rattle.audit_keys.specs.declared.cpu_uses.Fill.{Fill}
use Rattle.audit_keys.specs.declared.cpu_uses.CpuKeys.{CpuKeys}

-- the last fill of a batch, in the form that the code keeps
abbrev pub fill_of : Option BookFill → Option Fill
fill_of None = None
fill_of (Some fill) = Some (record { key = fill.key; count = fill.count })

-- how many integers the batch has served since this fill
abbrev pub count_of : Option Fill → ℕ
count_of None = 0
count_of (Some fill) = fill.count

abbrev pub count_at : List (Option Fill) → ℕ → ℕ
count_at kept w = count_of (unwrap_or (slice_get kept w) None)

-- after this entry, the count of integers that the entry's batch served since its last fill would not fit into 64 bits
abbrev pub IsCountedOut : List (Option Fill) → CpuEntry → Type 0
IsCountedOut kept (Int look refill width false) = (width < 256) × (2 ^ 64 ≤ count_at kept width + 1)
IsCountedOut kept (Int look refill width true) = ⊥
IsCountedOut kept (Read look refill taken) = ⊥
IsCountedOut kept (Irq v1 v2 now) = ⊥
IsCountedOut kept (Dump now) = ⊥
IsCountedOut kept Prepare = ⊥
IsCountedOut kept Online = ⊥

-- `kept` has, for each width that fits into a byte, the last fill that `fills` has
abbrev pub AreFills : (ℕ → Option BookFill) → List (Option Fill) → Type 0
AreFills fills kept = (w : ℕ) → w < 256 → slice_get kept w ≡ Some (fill_of (fills w))

-- the last fills after one more integer of width `width` was served
abbrev pub served_more : ℕ → (ℕ → Option BookFill) → ℕ → Option BookFill
served_more width fills w = if w == width then one_more_served (fills w) else fills w

-- `s` is a CPU's state before the entry at `place`, and `keys` has the key and the fills of `s`
pub record CpuConforms (s : CpuState) (place : ℕ) (keys : CpuKeys) : Type 0 where
  pub place_is : s.place ≡ place
  pub key : keys.key ≡ s.key
  pub fills : AreFills s.fills keys.fills

-- whether a vgetrandom state takes the read at `place` as its key; `rekeyed` lists this for each place
abbrev pub rekeys_of : List Bool → ℕ → Bool
rekeys_of rekeyed place = unwrap_or (slice_get rekeyed place) false
