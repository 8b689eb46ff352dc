-- If the effect of a mark is a visit, then it is the visit at the mark's place.
use Rattle.std.proofs.Common.{◌≡◌, ℕ, refl, sym, ap, ◌∙◌, Some, None, Option}
use Rattle.std.specs.Prelude.{slice_get}
use Rattle.key_names.specs.declared.names.LaneId.{LaneId}
use Rattle.key_names.specs.declared.names.LaneId.TheVariants.{Pool as PoolLane, Base as BaseLane, Cpu as CpuLane}
use Rattle.key_names.specs.declared.names.Mark.{Mark}
use Rattle.key_names.specs.declared.names.Step.{Step}
use Rattle.key_names.specs.declared.names.Step.TheVariants.{Look, Visit as Marked}
use Rattle.key_names.specs.declared.entries.PoolEntry.{PoolEntry}
use Rattle.key_names.specs.declared.entries.BaseEntry.{BaseEntry}
use Rattle.key_names.specs.declared.entries.CpuEntry.{CpuEntry}
use Rattle.key_names.specs.Lanes.Book.{Lists, cpu_list}
use Rattle.key_names.specs.Callers.Effects.{Effect, PoolVisit, CpuVisit, looked, at_pool, at_base, at_cpu, nothing_there}
use Rattle.key_names.specs.Callers.Effects.{effect_or, effect_at, effect_of, pool_visit, base_visit, cpu_visit}

module _ (lists : Lists) where
  -- `s` is the visit at `place` of `lane`: `lane` is the lane of a CPU, and the CPU's list has the entry of `s` at
  -- `place`. Below, the same for the pool
  pub record CpuAt (lane : LaneId) (place : ℕ) (s : CpuVisit) : Type 0 where
    pub lane_is : lane ≡ CpuLane s.cpu
    pub place_is : place ≡ s.place
    pub entry : slice_get (cpu_list lists s.cpu) s.place ≡ Some s.entry

  pub record PoolAt (lane : LaneId) (place : ℕ) (s : PoolVisit) : Type 0 where
    pub lane_is : lane ≡ PoolLane
    pub place_is : place ≡ s.place
    pub entry : slice_get lists.pool s.place ≡ Some s.entry

  abbrev cpu_or : CpuVisit → Effect → CpuVisit
  cpu_or s (at_cpu v) = v
  cpu_or s (looked g) = s
  cpu_or s (at_pool v) = s
  cpu_or s (at_base v) = s
  cpu_or s nothing_there = s

  abbrev pool_or : PoolVisit → Effect → PoolVisit
  pool_or s (at_pool v) = v
  pool_or s (looked g) = s
  pool_or s (at_cpu v) = s
  pool_or s (at_base v) = s
  pool_or s nothing_there = s

  pub cpu_at : (lane : LaneId) (place : ℕ) (s : CpuVisit) → effect_at lists lane place ≡ at_cpu s → CpuAt lane place s
  cpu_at PoolLane place s is = go (slice_get lists.pool place) is
    where
      go : (o : Option PoolEntry) → effect_or (λ e. at_pool (pool_visit lists place e)) o ≡ at_cpu s →
          CpuAt PoolLane place s
      go None is = absurd (cc is)
      go (Some e) is = absurd (cc is)
  cpu_at BaseLane place s is = go (slice_get lists.base place) is
    where
      go : (o : Option BaseEntry) → effect_or (λ e. at_base (base_visit lists place e)) o ≡ at_cpu s →
          CpuAt BaseLane place s
      go None is = absurd (cc is)
      go (Some e) is = absurd (cc is)
  cpu_at (CpuLane c) place s is = go (slice_get (cpu_list lists c) place) refl is
    where
      go : (o : Option CpuEntry) → slice_get (cpu_list lists c) place ≡ o →
          effect_or (λ e. at_cpu (cpu_visit lists c place e)) o ≡ at_cpu s → CpuAt (CpuLane c) place s
      go None at is = absurd (cc is)
      go (Some e) at is =
          let same : cpu_visit lists c place e ≡ s = ap (cpu_or s) is in
          let p : c ≡ s.cpu = ap (λ (v : CpuVisit). v.cpu) same in
          let q : place ≡ s.place = ap (λ (v : CpuVisit). v.place) same in
          record {
            lane_is = ap CpuLane p;
            place_is = q;
            entry = (λ i. slice_get (cpu_list lists (sym p i)) (sym q i)) ∙ at
                ∙ ap Some (ap (λ (v : CpuVisit). v.entry) same);
          }

  pub pool_at : (lane : LaneId) (place : ℕ) (s : PoolVisit) → effect_at lists lane place ≡ at_pool s → PoolAt lane place s
  pool_at PoolLane place s is = go (slice_get lists.pool place) refl is
    where
      go : (o : Option PoolEntry) → slice_get lists.pool place ≡ o →
          effect_or (λ e. at_pool (pool_visit lists place e)) o ≡ at_pool s → PoolAt PoolLane place s
      go None at is = absurd (cc is)
      go (Some e) at is =
          let same : pool_visit lists place e ≡ s = ap (pool_or s) is in
          let q : place ≡ s.place = ap (λ (v : PoolVisit). v.place) same in
          record {
            lane_is = refl;
            place_is = q;
            entry = ap (slice_get lists.pool) (sym q) ∙ at ∙ ap Some (ap (λ (v : PoolVisit). v.entry) same);
          }
  pool_at BaseLane place s is = go (slice_get lists.base place) is
    where
      go : (o : Option BaseEntry) → effect_or (λ e. at_base (base_visit lists place e)) o ≡ at_pool s →
          PoolAt BaseLane place s
      go None is = absurd (cc is)
      go (Some e) is = absurd (cc is)
  pool_at (CpuLane c) place s is = go (slice_get (cpu_list lists c) place) is
    where
      go : (o : Option CpuEntry) → effect_or (λ e. at_cpu (cpu_visit lists c place e)) o ≡ at_pool s →
          PoolAt (CpuLane c) place s
      go None is = absurd (cc is)
      go (Some e) is = absurd (cc is)

  -- `step` is the mark of the CPU's visit `s`: it has the lane and the place of `s`
  pub record CpuStep (step : Step) (s : CpuVisit) : Type 0 where
    pub mark : Mark
    pub is : step ≡ Marked mark
    pub at : CpuAt mark.lane mark.place s

  pub cpu_step : (step : Step) (s : CpuVisit) → effect_of lists step ≡ at_cpu s → CpuStep step s
  cpu_step (Look g) s is = absurd (cc is)
  cpu_step (Marked mark) s is = record { mark = mark; is = refl; at = cpu_at mark.lane mark.place s is }
