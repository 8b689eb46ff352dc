-- The number of a lane: the pool, the base, and the CPUs in order.
use Rattle.std.specs.Prelude.{ℕ, ◌+◌}
use Rattle.key_names.specs.declared.names.LaneId.{LaneId}
use Rattle.key_names.specs.declared.names.LaneId.TheVariants.{Pool, Base, Cpu}

abbrev pub index_of : LaneId → ℕ
index_of Pool = 0
index_of Base = 1
index_of (Cpu c) = c + 2
