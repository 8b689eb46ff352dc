-- The base in contracts, and how an entry of the base's list changes it.
use Rattle.std.specs.Prelude.{ℕ, Bool, true, Option, Some, None, List, if◌then◌else◌}
use Rattle.key_names.specs.declared.entries.BaseEntry.{BaseEntry}
use Rattle.key_names.specs.declared.entries.BaseEntry.TheVariants.{Early as EarlyEntry, Reseed, Tick}
use Rattle.key_names.specs.declared.entries.PoolEntry.{PoolEntry}
use Rattle.key_names.specs.Kernel.Keystream.{keystream}
use Rattle.key_names.specs.Lanes.BaseList.{Phase, BaseState, empty, early, ready, root_of, base_erases, reseeds_at, phase_after, generation_after, timer_after, early_boot_after, running_after, base_after}
use Rattle.key_names.specs.Keys.KeyInUse.{zero_key, base_value_after}
use Rattle.base_gen.specs.declared.phase.Phase.{Phase as PhaseOfCode}
use Rattle.base_gen.specs.declared.phase.Phase.TheVariants.{Empty, Early, Ready}

abbrev pub phase_of : PhaseOfCode → Phase
phase_of Empty = empty
phase_of Early = early
phase_of Ready = ready

pub record BaseValue : Type 0 where
  -- the 32 bytes of the key
  pub key : List ℕ
  pub phase : Phase
  pub generation : ℕ
  -- the moment at which the reseed timer is due, in milliseconds
  pub timer : Option ℕ
  -- whether the system is young: each reseed so far was at an uptime below 120 seconds
  pub early_boot : Bool
  -- the number of running callers
  pub running : ℕ

abbrev pub start : BaseValue
start = record { key = zero_key; phase = empty; generation = 0; timer = None; early_boot = true; running = 1 }

-- the base after an erasure: the first 32 bytes of the key's own keystream replace the key
abbrev pub erased : BaseValue → BaseValue
erased b = record b { key = keystream b.key 0 32 }

-- the value of the key in use at an entry: the root if the entry names one, else the base's key
abbrev pub key_in_use : Option ℕ → List ℕ → List ℕ → List ℕ
key_in_use None root key = key
key_in_use (Some place) root key = root

-- the base `b` after the entry `e`; `root` is the root that `e` names, if it names one
abbrev pub after_entry : BaseEntry → List ℕ → BaseValue → BaseValue
after_entry e root b = record {
  key = (let used = key_in_use (root_of e) root b.key in if base_erases e then keystream used 0 32 else used);
  phase = phase_after e b.phase;
  generation = generation_after (reseeds_at e) b.generation;
  timer = timer_after b.early_boot e b.timer;
  early_boot = early_boot_after (reseeds_at e) b.early_boot;
  running = running_after e b.running;
}

-- a call that installs a root changes the base like the entry of this call. The place of the root in the pool's list
-- does not matter, so it is 0 here
abbrev pub seeded_early : List ℕ → BaseValue → BaseValue
seeded_early root b = after_entry (EarlyEntry (Some 0)) root b

abbrev pub reseeded : ℕ → List ℕ → BaseValue → BaseValue
reseeded now root b = after_entry (Reseed 0 now) root b

abbrev pub fired : ℕ → List ℕ → BaseValue → BaseValue
fired now root b = after_entry (Tick now (Some 0)) root b

-- the base after a list of entries: `s` is the state after the list, and `value` is the key
abbrev pub base_at : BaseState → List ℕ → BaseValue
base_at s value = record {
  key = value;
  phase = s.phase;
  generation = s.generation;
  timer = s.timer;
  early_boot = s.early_boot;
  running = s.running;
}

-- the base after all entries of a list, with the roots that the pool's list gives
abbrev pub after_entries : List PoolEntry → List BaseEntry → BaseValue
after_entries pool entries = base_at (base_after entries) (base_value_after pool entries)
