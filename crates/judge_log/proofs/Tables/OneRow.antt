-- The row of a mark is put at the mark's place, in the table of the mark's lane.
use Rattle.std.proofs.Common.{◌≡◌, ◌≢◌, ℕ, ◌<◌, ◌≤◌, Bool, true, false, List, [], ◌∷◌, length, Some, refl, sym, subst, ap, ◌∙◌, arith}
use Rattle.std.specs.Prelude.{slice_get, ◌==◌, ◌&&◌}
use Rattle.std.proofs.lemmas.Bool.{and_parts, eq-eqb, eqb-true}
use Rattle.key_names.specs.declared.names.LaneId.{LaneId}
use Rattle.key_names.specs.declared.names.LaneId.TheVariants.{Pool as PoolLane, Base as BaseLane, Cpu as CpuLane}
use Rattle.key_names.specs.declared.names.Mark.{Mark}
use Rattle.key_names.specs.declared.names.Step.TheVariants.{Visit as Marked}
use Rattle.key_names.specs.Lanes.Book.{list_at}
use Rattle.key_names.specs.Transcripts.IsTranscript.{is_same_lane}
use Rattle.key_names.proofs.Transcripts.LaneCounts.{lane_itself, same_lane}
use Rattle.key_names.proofs.Lists.ListFacts.{list_beyond}
use Rattle.judge_lines.specs.Inferred.{pool_inferred, base_inferred}
use Rattle.judge_log.specs.declared.inferred.InferredPool.{InferredPool}
use Rattle.judge_log.specs.declared.inferred.InferredCpu.{InferredCpu}
use Rattle.judge_log.specs.Tables.{Tables}
use Rattle.judge_log.specs.Rows.{IsPoolRow, cpu_row}
use Rattle.judge_log.specs.Spots.{Spot, rows_in, SameRow, is_visit, SpotRow, Changes}
use Rattle.judge_log.proofs.Tables.TableChanges.{one_row, unchanged}

-- if `old` has `place`, `new` has `row` there; `new` equals `old` at all other places
pub record PutAt {A : Type 0} (old new : List A) (place : ℕ) (row : A) : Type 0 where
  pub at : place < length old → slice_get new place ≡ Some row
  pub others : (k : ℕ) → k ≢ place → slice_get new k ≡ slice_get old k
  pub long : length new ≡ length old

module _ (spot : Spot) (mark : Mark) (old new : Tables) (is : spot.step ≡ Marked mark) where
  visited : (lane : LaneId) (place : ℕ) → is_visit lane place spot.step ≡ true → (mark.lane ≡ lane) × (mark.place ≡ place)
  visited lane place hits =
      let parts = and_parts (is_same_lane mark.lane lane) (mark.place == place) (sym (ap (is_visit lane place) is) ∙ hits) in
      (same_lane mark.lane lane parts.0, eqb-true mark.place place parts.1)

  not_visited : (lane : LaneId) (place : ℕ) → is_visit lane place spot.step ≡ false → mark.lane ≡ lane →
      place ≢ mark.place
  not_visited lane place misses lane_is = λ same.
      let a : is_same_lane mark.lane lane ≡ true = ap (λ l. is_same_lane l lane) lane_is ∙ lane_itself lane in
      let b : (mark.place == place) ≡ true = eq-eqb mark.place place (sym same) in
      let hits : (is_same_lane mark.lane lane && mark.place == place) ≡ true =
      ap (λ (x : Bool). x && mark.place == place) a ∙ b in
      let never : false ≡ true = sym misses ∙ ap (is_visit lane place) is ∙ hits in cc

  row_put : length new.cpus ≡ length old.cpus → ((lane : LaneId) → rows_in new lane ≡ rows_in old lane) →
      (mark.place < rows_in old mark.lane → SpotRow new spot mark.lane mark.place) →
      ((lane : LaneId) (place : ℕ) → (mark.lane ≡ lane → place ≢ mark.place) → SameRow old new lane place) →
      Changes (spot ∷ []) old new
  row_put cpus sizes here others = one_row spot old new cpus sizes
      (λ lane place hits. (let v = visited lane place hits in
      subst (λ l. place < rows_in old l → SpotRow new spot l place) v.0
      (subst (λ p. p < rows_in old mark.lane → SpotRow new spot mark.lane p) v.1 here)))
      (λ lane place no. others lane place (not_visited lane place no))

  pub pool_put : mark.lane ≡ PoolLane → (row : InferredPool) → PutAt old.pool new.pool mark.place row →
      IsPoolRow spot.set spot.tells (pool_inferred spot.tells spot.neighbours) row → new.base ≡ old.base → new.cpus ≡ old.cpus →
      Changes (spot ∷ []) old new
  pool_put lane_is row put tells base cpus = row_put (ap length cpus) sizes
      (subst (λ l. mark.place < rows_in old l → SpotRow new spot l mark.place) (sym lane_is)
      (λ low. record { row = row; is = put.at low; tells = tells })) others
    where
      sizes : (lane : LaneId) → rows_in new lane ≡ rows_in old lane
      sizes PoolLane = put.long
      sizes BaseLane = ap length base
      sizes (CpuLane c) = ap (λ (xs : List (List InferredCpu)). length (list_at xs c)) cpus

      others : (lane : LaneId) (place : ℕ) → (mark.lane ≡ lane → place ≢ mark.place) → SameRow old new lane place
      others PoolLane place ne = put.others place (ne lane_is)
      others BaseLane place ne = ap (λ xs. slice_get xs place) base
      others (CpuLane c) place ne = ap (λ (xs : List (List InferredCpu)). slice_get (list_at xs c) place) cpus

  pub base_put : mark.lane ≡ BaseLane → PutAt old.base new.base mark.place (base_inferred spot.set spot.tells spot.neighbours) →
      new.pool ≡ old.pool → new.cpus ≡ old.cpus → Changes (spot ∷ []) old new
  base_put lane_is put pool cpus = row_put (ap length cpus) sizes
      (subst (λ l. mark.place < rows_in old l → SpotRow new spot l mark.place) (sym lane_is) put.at) others
    where
      sizes : (lane : LaneId) → rows_in new lane ≡ rows_in old lane
      sizes PoolLane = ap length pool
      sizes BaseLane = put.long
      sizes (CpuLane c) = ap (λ (xs : List (List InferredCpu)). length (list_at xs c)) cpus

      others : (lane : LaneId) (place : ℕ) → (mark.lane ≡ lane → place ≢ mark.place) → SameRow old new lane place
      others PoolLane place ne = ap (λ xs. slice_get xs place) pool
      others BaseLane place ne = put.others place (ne lane_is)
      others (CpuLane c) place ne = ap (λ (xs : List (List InferredCpu)). slice_get (list_at xs c) place) cpus

  -- if the row of `spot` is put into the table of a CPU, and no other row changes, the tables change by this row
  pub cpu_put : (cpu : ℕ) → mark.lane ≡ CpuLane cpu →
      PutAt (list_at old.cpus cpu) (list_at new.cpus cpu) mark.place (cpu_row spot.set spot.tells spot.first spot.neighbours) →
      ((c : ℕ) → c ≢ cpu → list_at new.cpus c ≡ list_at old.cpus c) → length new.cpus ≡ length old.cpus →
      new.pool ≡ old.pool → new.base ≡ old.base → Changes (spot ∷ []) old new
  cpu_put cpu lane_is put elsewhere count pool base = row_put count sizes
      (subst (λ l. mark.place < rows_in old l → SpotRow new spot l mark.place) (sym lane_is) put.at) others
    where
      size : (c : ℕ) (b : Bool) → (c == cpu) ≡ b → length (list_at new.cpus c) ≡ length (list_at old.cpus c)
      size c true same =
          subst (λ d. length (list_at new.cpus d) ≡ length (list_at old.cpus d)) (sym (eqb-true c cpu same)) put.long
      size c false other =
          ap length (elsewhere c (λ same. (let hits : (c == cpu) ≡ true = eq-eqb c cpu same in cc)))

      sizes : (lane : LaneId) → rows_in new lane ≡ rows_in old lane
      sizes PoolLane = ap length pool
      sizes BaseLane = ap length base
      sizes (CpuLane c) = size c (c == cpu) refl

      row : (c place : ℕ) (b : Bool) → (c == cpu) ≡ b → (mark.lane ≡ CpuLane c → place ≢ mark.place) →
          SameRow old new (CpuLane c) place
      row c place true same ne =
          let d : c ≡ cpu = eqb-true c cpu same in
          subst (λ d. slice_get (list_at new.cpus d) place ≡ slice_get (list_at old.cpus d) place) (sym d)
          (put.others place (ne (lane_is ∙ ap CpuLane (sym d))))
      row c place false other ne =
          ap (λ xs. slice_get xs place)
          (elsewhere c (λ same. (let hits : (c == cpu) ≡ true = eq-eqb c cpu same in cc)))

      others : (lane : LaneId) (place : ℕ) → (mark.lane ≡ lane → place ≢ mark.place) → SameRow old new lane place
      others PoolLane place ne = ap (λ xs. slice_get xs place) pool
      others BaseLane place ne = ap (λ xs. slice_get xs place) base
      others (CpuLane c) place ne = row c place (c == cpu) refl ne

-- if a spot is a mark on a CPU that does not exist, putting its row leaves the tables `a` unchanged
pub absent_put : (spot : Spot) (mark : Mark) (a : Tables) (cpu : ℕ) → spot.step ≡ Marked mark → mark.lane ≡ CpuLane cpu →
    length a.cpus ≤ cpu → Changes (spot ∷ []) a a
absent_put spot mark a cpu is lane_is absent = row_put spot mark a a is refl (λ lane. refl)
    (subst (λ l. mark.place < rows_in a l → SpotRow a spot l mark.place) (sym lane_is)
    (λ low. (let none : length (list_at a.cpus cpu) ≡ 0 = ap length (list_beyond a.cpus cpu absent) in absurd (omega arith))))
    (λ lane place ne. unchanged a lane place)
