-- Facts about the lanes that a line's steps do not contain: which threshold each entry of the pool crossed, and the
-- fast pools of the CPUs.
use Rattle.std.specs.Prelude.{ℕ, ◌≡◌, ⊤, Option, Some, None, List, [], ◌∷◌, take, slice_get}
use Rattle.key_names.specs.declared.entries.PoolEntry.{PoolEntry}
use Rattle.key_names.specs.Lanes.PoolList.{Crossing, none, crossing, PoolState, pool_after, pool_step}
use Rattle.key_names.specs.Lanes.BaseList.{BaseFits}
use Rattle.key_names.specs.Lanes.CpuList.{CpuFits}
use Rattle.key_names.specs.Kernel.FastPool.{FastPool, fast_after}
use Rattle.key_names.specs.Lanes.Book.{Lists, cpu_list}
use Rattle.key_names.specs.Callers.Effects.{Effect, looked, at_pool, at_base, at_cpu, nothing_there}

-- for each place of the pool, the threshold that the entry there crossed, if any; and for each CPU, its fast pool
-- before each place of its list
pub record LaneFacts : Type 0 where
  pub crossed_at : ℕ → Crossing
  pub fast : ℕ → ℕ → FastPool

-- the threshold that this entry crosses from the pool's state `s`, or none if there is no entry
abbrev pub crossed_by : PoolState → Option PoolEntry → Crossing
crossed_by s None = none
crossed_by s (Some e) = crossing s.bits (pool_step s e).bits

-- the facts about the lanes with these lists
abbrev pub facts_of : Lists → LaneFacts
facts_of lists = record {
  crossed_at = λ p. crossed_by (pool_after (take p lists.pool)) (slice_get lists.pool p);
  fast = λ cpu k. fast_after (take k (cpu_list lists cpu));
}

-- if the effect is a visit of the base or of a CPU, its entry fits the lane's state before it; if it is a visit of the
-- pool, the facts `c` have the threshold that the visit crossed
abbrev pub EffectFits : LaneFacts → Effect → Type 0
EffectFits c (looked g) = ⊤
EffectFits c (at_pool v) = c.crossed_at v.place ≡ crossing v.before.bits v.after.bits
EffectFits c (at_base v) = BaseFits v.before v.entry
EffectFits c (at_cpu v) = CpuFits v.before v.entry
EffectFits c nothing_there = ⊤

abbrev pub AllFit : LaneFacts → List Effect → Type 0
AllFit c [] = ⊤
AllFit c (d ∷ ds) = EffectFits c d × AllFit c ds

-- the threshold that the first visit of the pool crossed, or none if there is no such visit
abbrev pub first_crossing : List Effect → Crossing
first_crossing [] = none
first_crossing (at_pool v ∷ ds) = crossing v.before.bits v.after.bits
first_crossing (looked g ∷ ds) = first_crossing ds
first_crossing (at_base v ∷ ds) = first_crossing ds
first_crossing (at_cpu v ∷ ds) = first_crossing ds
first_crossing (nothing_there ∷ ds) = first_crossing ds

-- if the effect is a visit of the pool, the facts `c` have the threshold that the visit crossed
abbrev pub CrossingKnown : LaneFacts → Effect → Type 0
CrossingKnown c (looked g) = ⊤
CrossingKnown c (at_pool v) = c.crossed_at v.place ≡ crossing v.before.bits v.after.bits
CrossingKnown c (at_base v) = ⊤
CrossingKnown c (at_cpu v) = ⊤
CrossingKnown c nothing_there = ⊤

abbrev pub CrossingsKnown : LaneFacts → List Effect → Type 0
CrossingsKnown c [] = ⊤
CrossingsKnown c (d ∷ ds) = CrossingKnown c d × CrossingsKnown c ds
