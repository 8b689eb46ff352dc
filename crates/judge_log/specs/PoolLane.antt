-- The state of the pool while the code replays the pool's list.
use Rattle.std.specs.Prelude.{ℕ, ◌≡◌, ⊤, Option, Some, List, slice_get, option_and_then}
use Rattle.key_names.specs.declared.entries.PoolEntry.{PoolEntry}
use Rattle.key_names.specs.declared.entries.PoolEntry.TheVariants.{Mix}
use Rattle.key_names.specs.Lanes.PoolList.{PoolState}
use Rattle.key_names.specs.Lanes.PoolNotes.{entry_of}
use Rattle.key_names.specs.Lanes.Book.{Lists}
use Rattle.input_pool.specs.PoolConforms.{PoolConforms}
use Rattle.sample_credit.specs.declared.fast_pool.Dump.{Dump}
use Rattle.judge_log.specs.declared.pool_list.PoolReplay.{PoolReplay}
use Rattle.judge_log.specs.declared.inferred.InferredPool.{InferredPool}
use Rattle.judge_log.specs.declared.inferred.InferredPool.TheVariants.{Is as pool_is, Dumped as dumped}
use Rattle.judge_log.specs.Closed.{closed}
use Rattle.judge_log.specs.Lawful.{DumpsAt}
use Rattle.judge_log.specs.Places.{AllPlaces}
use Rattle.judge_log.specs.Tables.{Tables}

pub record LaneConforms (lane : PoolReplay) (s : PoolState) : Type 0 where
  pub pool : PoolConforms lane.pool s
  pub value : lane.timer.value ≡ s.value
  pub timer : lane.timer.timer ≡ s.timer

-- the dump at place `k` of CPU `c`, found in the table `dumps`
abbrev pub dump_in : List (List (Option Dump)) → ℕ → ℕ → Option Dump
dump_in dumps c k = option_and_then (λ lane. option_and_then (λ dump. dump) (slice_get lane k)) (slice_get dumps c)

abbrev pub mix_of : Dump → Option PoolEntry
mix_of dump = Some (Mix dump.bytes dump.bits)

-- the completed entry of the pool; none if the entry mixes a dump that the table lacks
abbrev pub entry_found : List (List (Option Dump)) → InferredPool → Option PoolEntry
entry_found dumps (pool_is note) = Some (entry_of note)
entry_found dumps (dumped c k) = option_and_then mix_of (dump_in dumps c k)

-- if the entry of the pool mixes a dump, the CPU's entry at the place that it names is a dump
abbrev pub MixConforms : Lists → InferredPool → Type 0
MixConforms lists (pool_is note) = ⊤
MixConforms lists (dumped c k) = DumpsAt lists c k

abbrev pub AllMixed : Tables → Type 0
AllMixed inferred = AllPlaces (λ p (t : InferredPool). MixConforms (closed inferred) t) inferred.pool
