-- At most one spot (a step with all that its row is inferred from) visits each place. If each spot has its row, each
-- mark has the row inferred from the mark's line.
use Rattle.std.proofs.Common.{◌≡◌, ℕ, zero, suc, ◌<◌, ◌≤◌, Bool, true, false, List, [], ◌∷◌, length, refl, subst, arith, Some}
use Rattle.std.specs.Prelude.{slice_get, ◌==◌, ◌&&◌, if◌then◌else◌}
use Rattle.std.specs.List.{AllByRecursion}
use Rattle.key_names.specs.declared.names.LaneId.{LaneId}
use Rattle.key_names.specs.declared.names.LaneId.TheVariants.{Pool as PoolLane, Base as BaseLane, Cpu as CpuLane}
use Rattle.key_names.specs.declared.names.Step.{Step}
use Rattle.key_names.specs.declared.names.Step.TheVariants.{Look, Visit as Marked}
use Rattle.key_names.specs.Lanes.Book.{list_at}
use Rattle.key_names.specs.Callers.Calls.{Setting as CallSetting, Call, alone, vread_call, unbound, ending, BoundAct, setting_after_call}
use Rattle.key_names.specs.Transcripts.IsTranscript.{is_same_lane}
use Rattle.key_names.proofs.Transcripts.CallTakes.{acts_marks, call_marks, calls_marks, all_calls_marks}
use Rattle.key_names.proofs.Lists.Each.{each_append, each_parts}
use Rattle.key_names.proofs.Transcripts.TakenMarks.{mark_takes, lane_takes}
use Rattle.key_names.proofs.Unique.UniqueMeanings.{OfCall}
use Rattle.judge_lines.specs.declared.inferred.Neighbours.{Neighbours}
use Rattle.judge_lines.specs.declared.inferred.Sign.{Sign}
use Rattle.judge_lines.specs.declared.inferred.Sign.TheVariants.{Nowhere as nowhere}
use Rattle.judge_lines.specs.Inferred.{Telling, silent, ends, telling, act_telling}
use Rattle.judge_lines.specs.Settings.{settings_from}
use Rattle.judge_log.specs.Tables.{Tables}
use Rattle.judge_log.specs.Rows.{first_shown, step_sign, RowAt, AllRows, RowConforms, LineRows, ActRows, CallRows, CallsRows, part_telling}
use Rattle.judge_log.specs.Spots.{Spot, spots_from, line_spots, acts_spots, call_spots, calls_spots, callers_spots}
use Rattle.judge_log.proofs.Tables.MarkedSteps.{StepHas, LineHas}
use Rattle.judge_log.proofs.Tables.TableChanges.{hit, spots_takes, takes_append, SpotConforms}

-- ---- the number of spots that visit a place equals the number of marks at this place

module _ (lane : LaneId) (place : ℕ) where
  one_takes : (other : LaneId) (p : ℕ) → hit (is_same_lane other lane && p == place) ≡ lane_takes lane place other p
  one_takes other p = go (is_same_lane other lane)
    where
      go : (b : Bool) → hit (b && p == place) ≡ (if b then hit (p == place) else 0)
      go true = refl
      go false = refl

  steps_takes : (set : CallSetting) (tell : Neighbours → Telling) (first a b : Sign) (steps : List Step) →
      spots_takes lane place (spots_from set tell first a b steps) ≡ mark_takes lane place steps
  steps_takes set tell first a b [] = refl
  steps_takes set tell first a b (Look g ∷ steps) = omega (arith, steps_takes set tell first b (step_sign (Look g)) steps)
  steps_takes set tell first a b (Marked mark ∷ steps) =
      omega (arith, one_takes mark.lane mark.place, steps_takes set tell first b (step_sign (Marked mark)) steps)

  line_takes : (set : CallSetting) (tell : Neighbours → Telling) (steps : List Step) →
      spots_takes lane place (line_spots set tell steps) ≡ mark_takes lane place steps
  line_takes set tell steps = steps_takes set tell (first_shown steps) nowhere nowhere steps

  acts_takes : (set : CallSetting) (acts : List BoundAct) →
      spots_takes lane place (acts_spots set acts) ≡ acts_marks lane place acts
  acts_takes set [] = refl
  acts_takes set (bound ∷ acts) = omega (
    arith,
    takes_append lane place (line_spots set (λ neighbours. act_telling bound.act) bound.line.steps) (acts_spots set acts),
    line_takes set (λ neighbours. act_telling bound.act) bound.line.steps,
    acts_takes set acts,
  )

  call_takes : (set : CallSetting) (call : Call) →
      spots_takes lane place (call_spots set call) ≡ call_marks lane place call
  call_takes set (alone event line) = line_takes set (λ neighbours. telling set event) line.steps
  call_takes set (vread_call n flags line acts) = omega (
    arith,
    takes_append lane place (acts_spots set acts) (line_spots set (part_telling n) line.steps),
    acts_takes set acts,
    line_takes set (part_telling n) line.steps,
  )
  call_takes set (unbound bound) = line_takes set (λ neighbours. silent) bound.line.steps
  call_takes set (ending line) = line_takes set (λ neighbours. silent) line.steps

  calls_takes : (calls : List Call) (sets : List CallSetting) →
      spots_takes lane place (calls_spots calls sets) ≤ calls_marks lane place calls
  calls_takes [] sets = omega arith
  calls_takes (call ∷ calls) [] = omega arith
  calls_takes (call ∷ calls) (set ∷ sets) = omega (
    arith,
    takes_append lane place (call_spots set call) (calls_spots calls sets),
    call_takes set call,
    calls_takes calls sets,
  )

  pub callers_takes : (callers : List (List Call)) (settings : List (List CallSetting)) →
      spots_takes lane place (callers_spots callers settings) ≤ all_calls_marks lane place callers
  callers_takes [] settings = omega arith
  callers_takes (calls ∷ callers) [] = omega arith
  callers_takes (calls ∷ callers) (sets ∷ settings) = omega (
    arith,
    takes_append lane place (calls_spots calls sets) (callers_spots callers settings),
    calls_takes calls sets,
    callers_takes callers settings,
  )

-- ---- if a fact holds of each visit of the calls' lines, it holds of each spot

module _ (Q : LaneId → ℕ → Type 0) where
  abbrev pub SpotHas : Spot → Type 0
  SpotHas spot = StepHas Q spot.step

  abbrev LinesHave : Call → Type 0
  LinesHave call = OfCall (LineHas Q) call

  steps_spots : (set : CallSetting) (tell : Neighbours → Telling) (first a b : Sign) (steps : List Step) →
      AllByRecursion (StepHas Q) steps → AllByRecursion SpotHas (spots_from set tell first a b steps)
  steps_spots set tell first a b [] all = tt
  steps_spots set tell first a b (step ∷ steps) all = (all.0, steps_spots set tell first b (step_sign step) steps all.1)

  line_have : (set : CallSetting) (tell : Neighbours → Telling) (steps : List Step) → AllByRecursion (StepHas Q) steps →
      AllByRecursion SpotHas (line_spots set tell steps)
  line_have set tell steps all = steps_spots set tell (first_shown steps) nowhere nowhere steps all

  acts_have : (set : CallSetting) (acts : List BoundAct) → AllByRecursion (λ bound. LineHas Q bound.line) acts →
      AllByRecursion SpotHas (acts_spots set acts)
  acts_have set [] all = tt
  acts_have set (bound ∷ acts) all =
      each_append SpotHas (line_spots set (λ neighbours. act_telling bound.act) bound.line.steps) (acts_spots set acts)
      (line_have set (λ neighbours. act_telling bound.act) bound.line.steps all.0) (acts_have set acts all.1)

  call_have : (set : CallSetting) (call : Call) → LinesHave call → AllByRecursion SpotHas (call_spots set call)
  call_have set (alone event line) all = line_have set (λ neighbours. telling set event) line.steps all
  call_have set (vread_call n flags line acts) all =
      each_append SpotHas (acts_spots set acts) (line_spots set (part_telling n) line.steps) (acts_have set acts all.1)
      (line_have set (part_telling n) line.steps all.0)
  call_have set (unbound bound) all = line_have set (λ neighbours. silent) bound.line.steps all
  call_have set (ending line) all = line_have set (λ neighbours. silent) line.steps all

  calls_have : (calls : List Call) (sets : List CallSetting) → AllByRecursion LinesHave calls →
      AllByRecursion SpotHas (calls_spots calls sets)
  calls_have [] sets all = tt
  calls_have (call ∷ calls) [] all = tt
  calls_have (call ∷ calls) (set ∷ sets) all =
      each_append SpotHas (call_spots set call) (calls_spots calls sets) (call_have set call all.0)
      (calls_have calls sets all.1)

  pub callers_have : (callers : List (List Call)) (settings : List (List CallSetting)) →
      AllByRecursion (λ calls. AllByRecursion LinesHave calls) callers →
      AllByRecursion SpotHas (callers_spots callers settings)
  callers_have [] settings all = tt
  callers_have (calls ∷ callers) [] all = tt
  callers_have (calls ∷ callers) (sets ∷ settings) all =
      each_append SpotHas (calls_spots calls sets) (callers_spots callers settings) (calls_have calls sets all.0)
      (callers_have callers settings all.1)

-- ---- if each spot has its row, each line has its rows

module _ (inferred : Tables) where
  step_rows : (set : CallSetting) (tell : Neighbours → Telling) (first : Sign) (neighbours : Neighbours) (step : Step) →
      StepHas (λ lane place. RowAt inferred set (tell neighbours) first neighbours lane place) step →
      RowConforms inferred set tell first neighbours step
  step_rows set tell first neighbours (Look g) conforms = tt
  step_rows set tell first neighbours (Marked mark) conforms = conforms

  steps_rows : (set : CallSetting) (tell : Neighbours → Telling) (first a b : Sign) (steps : List Step) →
      AllByRecursion (SpotConforms inferred) (spots_from set tell first a b steps) →
      AllRows (RowConforms inferred set tell first) a b steps
  steps_rows set tell first a b [] all = tt
  steps_rows set tell first a b (step ∷ steps) all =
      let neighbours : Neighbours = record { second_before = a; before = b; following = first_shown steps } in
      (step_rows set tell first neighbours step all.0, steps_rows set tell first b (step_sign step) steps all.1)

  line_rows : (set : CallSetting) (tell : Neighbours → Telling) (steps : List Step) →
      AllByRecursion (SpotConforms inferred) (line_spots set tell steps) → LineRows inferred set tell steps
  line_rows set tell steps all = steps_rows set tell (first_shown steps) nowhere nowhere steps all

  -- a row inferred for an act that no vread follows is also the row inferred for a caller's end
  end_row : (set : CallSetting) (first : Sign) (neighbours : Neighbours) (lane : LaneId) (place : ℕ) →
      RowAt inferred set silent first neighbours lane place → RowAt inferred set ends first neighbours lane place
  end_row set first neighbours PoolLane place row = record { row = row.row; is = row.is; tells = row.tells }
  end_row set first neighbours BaseLane place row = row
  end_row set first neighbours (CpuLane c) place row = row

  end_rows : (set : CallSetting) (first a b : Sign) (steps : List Step) →
      AllRows (RowConforms inferred set (λ neighbours. silent) first) a b steps →
      AllRows (RowConforms inferred set (λ neighbours. ends) first) a b steps
  end_rows set first a b [] rows = tt
  end_rows set first a b (step ∷ steps) rows = (
    one (record { second_before = a; before = b; following = first_shown steps }) step rows.0,
    end_rows set first b (step_sign step) steps rows.1,
  )
    where
      one : (neighbours : Neighbours) (step : Step) → RowConforms inferred set (λ neighbours. silent) first neighbours step →
          RowConforms inferred set (λ neighbours. ends) first neighbours step
      one neighbours (Look g) row = tt
      one neighbours (Marked mark) row = end_row set first neighbours mark.lane mark.place row

  acts_rows : (set : CallSetting) (acts : List BoundAct) → AllByRecursion (SpotConforms inferred) (acts_spots set acts) →
      AllByRecursion (ActRows inferred set) acts
  acts_rows set [] all = tt
  acts_rows set (bound ∷ acts) all =
      let parts = each_parts (SpotConforms inferred) (line_spots set (λ neighbours. act_telling bound.act) bound.line.steps)
      (acts_spots set acts) all in
      (line_rows set (λ neighbours. act_telling bound.act) bound.line.steps parts.0, acts_rows set acts parts.1)

  call_rows : (set : CallSetting) (call : Call) → AllByRecursion (SpotConforms inferred) (call_spots set call) →
      CallRows inferred set call
  call_rows set (alone event line) all = line_rows set (λ neighbours. telling set event) line.steps all
  call_rows set (vread_call n flags line acts) all =
      let parts = each_parts (SpotConforms inferred) (acts_spots set acts) (line_spots set (part_telling n) line.steps) all in
      (line_rows set (part_telling n) line.steps parts.1, acts_rows set acts parts.0)
  call_rows set (unbound bound) all = line_rows set (λ neighbours. silent) bound.line.steps all
  call_rows set (ending line) all =
      end_rows set (first_shown line.steps) nowhere nowhere line.steps (line_rows set (λ neighbours. silent) line.steps all)

  calls_rows : (set : CallSetting) (calls : List Call) →
      AllByRecursion (SpotConforms inferred) (calls_spots calls (settings_from set calls)) → CallsRows inferred set calls
  calls_rows set [] all = tt
  calls_rows set (call ∷ calls) all =
      let parts = each_parts (SpotConforms inferred) (call_spots set call)
      (calls_spots calls (settings_from (setting_after_call set call) calls)) all in
      (call_rows set call parts.0, calls_rows (setting_after_call set call) calls parts.1)

  -- if each spot has its row, the marks of each caller's calls have their rows; `start` has each caller's start
  -- setting, and `settings` has the setting before each call
  pub callers_rows : (start : ℕ → CallSetting) (callers : List (List Call)) (settings : List (List CallSetting)) →
      length settings ≡ length callers →
      ((c : ℕ) (sets : List CallSetting) → slice_get settings c ≡ Some sets →
      sets ≡ settings_from (start c) (list_at callers c)) →
      AllByRecursion (SpotConforms inferred) (callers_spots callers settings) → (c : ℕ) → c < length callers →
      CallsRows inferred (start c) (list_at callers c)
  callers_rows start [] settings long each all c low = absurd (omega arith)
  callers_rows start (calls ∷ callers) [] long each all c low = absurd (omega arith)
  callers_rows start (calls ∷ callers) (sets ∷ settings) long each all zero low =
      let parts = each_parts (SpotConforms inferred) (calls_spots calls sets) (callers_spots callers settings) all in
      calls_rows (start 0) calls
      (subst (λ (s : List CallSetting). AllByRecursion (SpotConforms inferred) (calls_spots calls s)) (each 0 sets refl) parts.0)
  callers_rows start (calls ∷ callers) (sets ∷ settings) long each all (suc c) low =
      let parts = each_parts (SpotConforms inferred) (calls_spots calls sets) (callers_spots callers settings) all in
      callers_rows (λ n. start (suc n)) callers settings (omega arith) (λ n s at. each (suc n) s at) parts.1 c (omega arith)
