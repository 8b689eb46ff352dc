-- The numbers that determine all samples: the first word of each feeder's first sample, the number of feeders, and
-- the number of samples of each feeder.
use Rattle.std.specs.Prelude.{ℕ}

pub record Numbers : Type 0 where
  pub start : ℕ
  pub feeders : ℕ
  pub each : ℕ

abbrev pub numbers : ℕ → ℕ → ℕ → Numbers
numbers start feeders each = record { start = start; feeders = feeders; each = each }
