-- The setting of a caller.
use Rattle.std.specs.Prelude.{ℕ, replicate}
use Rattle.rng_core.specs.declared.setting.Setting.{Setting}

-- a caller in its first event, on CPU 0, at moment 0, with hardware words 0
abbrev pub first_setting : ℕ → Setting
first_setting caller = record { caller = caller; event = 0; cpu = 0; now = 0; hw = replicate 32 0 }
