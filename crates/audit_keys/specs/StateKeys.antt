-- The keys of a vgetrandom state, as the code keeps them.
use Rattle.std.specs.Prelude.{ℕ, ◌+◌, ◌^◌, ◌≤◌, ◌≡◌}
use Rattle.key_names.specs.declared.entries.VEntry.{VEntry}
use Rattle.key_names.specs.declared.entries.VEntry.TheVariants.{Rekey, Blocks, Refill, Serve, Wipe}
use Rattle.key_names.specs.Lanes.StateList.{NamedState}
use Rattle.audit_keys.specs.declared.state_uses.StateKeys.{StateKeys}

-- `s` is a vgetrandom state before the entry at `place`, and `keys` has the keys of `s`
pub record StateConforms (s : NamedState) (place : ℕ) (keys : StateKeys) : Type 0 where
  pub place_is : s.place ≡ place
  pub key : keys.key ≡ s.key
  pub refills : keys.refills ≡ s.refills
  pub batch_key : keys.batch_key ≡ s.batch_key
  pub batch_from : keys.batch_from ≡ s.batch_from

-- after this entry, a refill, the number of refills would not fit into 64 bits
abbrev pub IsRefilledOut : ℕ → VEntry → Type 0
IsRefilledOut refills (Refill from) = 2 ^ 64 ≤ refills + 1
IsRefilledOut refills (Rekey cpu cpu_place) = ⊥
IsRefilledOut refills (Blocks from count) = ⊥
IsRefilledOut refills (Serve pos len) = ⊥
IsRefilledOut refills Wipe = ⊥
