-- Let the rows be inferred from a line. Then the line's visits have the inferred entries exactly if each place that the
-- line visits matches its row.
use Rattle.std.proofs.Common.{◌≡◌, ℕ, List, [], ◌∷◌, Option, Some, None, refl, sym, subst, ap, ◌∙◌}
use Rattle.std.specs.Prelude.{slice_get}
use Rattle.std.specs.List.{AllByRecursion}
use Rattle.key_names.specs.declared.entries.PoolEntry.{PoolEntry}
use Rattle.key_names.specs.declared.entries.PoolEntry.TheVariants.{Mix}
use Rattle.key_names.specs.declared.entries.BaseEntry.{BaseEntry}
use Rattle.key_names.specs.declared.entries.CpuEntry.{CpuEntry}
use Rattle.key_names.specs.declared.names.LaneId.{LaneId}
use Rattle.key_names.specs.declared.names.LaneId.TheVariants.{Pool as PoolLane, Base as BaseLane, Cpu as CpuLane}
use Rattle.key_names.specs.declared.names.Step.{Step}
use Rattle.key_names.specs.declared.names.Step.TheVariants.{Look, Visit as Marked}
use Rattle.key_names.specs.Lanes.Book.{Lists, list_at, cpu_list}
use Rattle.key_names.specs.Callers.Calls.{Setting, Call, alone, vread_call, unbound, ending, BoundAct, setting_after_call}
use Rattle.key_names.specs.Callers.Effects.{Effect, PoolVisit, at_pool, at_base, at_cpu, effect_or, effect_at, effect_of, effects_of}
use Rattle.key_names.specs.Callers.Effects.{pool_visit, base_visit, cpu_visit}
use Rattle.key_names.specs.Kernel.FastPool.{dump_bytes, dump_bits}
use Rattle.key_names.specs.Transcripts.SeenLine.{SeenLine}
use Rattle.key_names.proofs.Unique.UniqueMarks.{one_entry}
use Rattle.key_names.proofs.Unique.UniqueMeanings.{OfCall}
use Rattle.judge_lines.specs.declared.inferred.Neighbours.{Neighbours}
use Rattle.judge_lines.specs.declared.inferred.BaseInferred.{BaseInferred}
use Rattle.judge_lines.specs.declared.inferred.PoolInferred.{PoolInferred}
use Rattle.judge_lines.specs.declared.inferred.PoolInferred.TheVariants.{Own as own, Extracted as extracted, Dumped as dumped_inferred}
use Rattle.judge_lines.specs.declared.inferred.Sign.{Sign}
use Rattle.judge_lines.specs.declared.inferred.Sign.TheVariants.{Nowhere as nowhere}
use Rattle.judge_lines.specs.LaneFacts.{LaneFacts, facts_of}
use Rattle.judge_lines.specs.Inferred.{Telling, Fills, FillsPool, FillsBase, FillsCpu, AllFill, AllThere, IsThere, sign_of, first_sign}
use Rattle.judge_lines.specs.Inferred.{pool_inferred, base_inferred, silent, ends, telling, act_telling}
use Rattle.judge_log.specs.declared.inferred.InferredPool.{InferredPool}
use Rattle.judge_log.specs.declared.inferred.InferredPool.TheVariants.{Is as pool_is, Dumped as dumped}
use Rattle.judge_log.specs.declared.inferred.InferredCpu.{InferredCpu}
use Rattle.judge_log.specs.Fills.{pool_entry}
use Rattle.judge_log.specs.Tables.{Tables}
use Rattle.judge_log.specs.Filled.{CallFills, CallsFill, ActFills}
use Rattle.judge_log.specs.Rows.{lane_sign, step_sign, first_shown, IsPoolRow, RowAt, cpu_row, AllRows}
use Rattle.judge_log.proofs.Tables.MarkedSteps.{StepHas}
use Rattle.judge_log.specs.Rows.{RowConforms, LineRows, ActRows, CallRows, CallsRows, part_telling}

-- a visit has the inferred entry exactly if it has the entry that its row gives
to_row : (c : LaneFacts) (set : Setting) (t : Telling) (p : PoolInferred) (row : InferredPool) (v : PoolVisit) →
    IsPoolRow set t p row → FillsPool c set t p v → v.entry ≡ pool_entry c row
to_row c set t own (pool_is note) v is fills = fills ∙ sym is
to_row c set t own (dumped cpu place) v is fills = absurd is
to_row c set t (extracted i) (pool_is note) v is fills = fills ∙ sym is
to_row c set t (extracted i) (dumped cpu place) v is fills = absurd is
to_row c set t (dumped_inferred d k) (pool_is note) v is fills = absurd is
to_row c set t (dumped_inferred d k) (dumped cpu place) v is fills =
    fills ∙ sym (λ i. Mix (dump_bytes (c.fast (is.0 i) (is.1 i))) (dump_bits (c.fast (is.0 i) (is.1 i))))

from_row : (c : LaneFacts) (set : Setting) (t : Telling) (p : PoolInferred) (row : InferredPool) (v : PoolVisit) →
    IsPoolRow set t p row → v.entry ≡ pool_entry c row → FillsPool c set t p v
from_row c set t own (pool_is note) v is fills = fills ∙ is
from_row c set t own (dumped cpu place) v is fills = absurd is
from_row c set t (extracted i) (pool_is note) v is fills = fills ∙ is
from_row c set t (extracted i) (dumped cpu place) v is fills = absurd is
from_row c set t (dumped_inferred d k) (pool_is note) v is fills = absurd is
from_row c set t (dumped_inferred d k) (dumped cpu place) v is fills =
    fills ∙ (λ i. Mix (dump_bytes (c.fast (is.0 i) (is.1 i))) (dump_bits (c.fast (is.0 i) (is.1 i))))

module _ (inferred : Tables) (lists : Lists) where
  -- if a place has both a row and an entry, the entry is the one that the row gives
  abbrev pub PlaceMatches : LaneId → ℕ → Type 0
  PlaceMatches PoolLane p = (t : InferredPool) (e : PoolEntry) → slice_get inferred.pool p ≡ Some t →
      slice_get lists.pool p ≡ Some e → e ≡ pool_entry (facts_of lists) t
  PlaceMatches BaseLane i = (t : BaseInferred) (e : BaseEntry) → slice_get inferred.base i ≡ Some t →
      slice_get lists.base i ≡ Some e → FillsBase (facts_of lists) t (base_visit lists i e)
  PlaceMatches (CpuLane c) k = (t : InferredCpu) (e : CpuEntry) → slice_get (list_at inferred.cpus c) k ≡ Some t →
      slice_get (cpu_list lists c) k ≡ Some e → FillsCpu t.entry (cpu_visit lists c k e)

  abbrev pub StepMatches : Step → Type 0
  StepMatches step = StepHas PlaceMatches step

  -- if the effect `d` is a visit, the visit has the inferred entry
  abbrev Filled : Setting → Telling → Sign → Neighbours → Effect → Type 0
  Filled set t first neighbours d = Fills (facts_of lists) set t first neighbours d

  to_place : (set : Setting) (t : Telling) (first : Sign) (neighbours : Neighbours) (lane : LaneId) (place : ℕ) →
      RowAt inferred set t first neighbours lane place → Filled set t first neighbours (effect_at lists lane place) →
      PlaceMatches lane place
  to_place set t first neighbours PoolLane place row fills = λ u e at there.
      let same : row.row ≡ u = one_entry inferred.pool inferred.pool place row.row u row.is at refl in
      let F : Option PoolEntry → Type 0 = λ o.
      Filled set t first neighbours (effect_or (λ e. at_pool (pool_visit lists place e)) o) in
      to_row (facts_of lists) set t (pool_inferred t neighbours) row.row (pool_visit lists place e) row.tells
      (subst F there fills) ∙ ap (pool_entry (facts_of lists)) same
  to_place set t first neighbours BaseLane place row fills = λ u e at there.
      let same : base_inferred set t neighbours ≡ u = one_entry inferred.base inferred.base place (base_inferred set t neighbours) u row at refl in
      let F : Option BaseEntry → Type 0 = λ o.
      Filled set t first neighbours (effect_or (λ e. at_base (base_visit lists place e)) o) in
      subst (λ x. FillsBase (facts_of lists) x (base_visit lists place e)) same (subst F there fills)
  to_place set t first neighbours (CpuLane c) place row fills = λ u e at there.
      let same : cpu_row set t first neighbours ≡ u =
      one_entry (list_at inferred.cpus c) (list_at inferred.cpus c) place (cpu_row set t first neighbours) u row at refl in
      let F : Option CpuEntry → Type 0 = λ o.
      Filled set t first neighbours (effect_or (λ e. at_cpu (cpu_visit lists c place e)) o) in
      subst (λ (x : InferredCpu). FillsCpu x.entry (cpu_visit lists c place e)) same (subst F there fills)

  from_place : (set : Setting) (t : Telling) (first : Sign) (neighbours : Neighbours) (lane : LaneId) (place : ℕ) →
      RowAt inferred set t first neighbours lane place → PlaceMatches lane place →
      Filled set t first neighbours (effect_at lists lane place)
  from_place set t first neighbours PoolLane place row matches = go (slice_get lists.pool place) refl
    where
      go : (o : Option PoolEntry) → slice_get lists.pool place ≡ o →
          Filled set t first neighbours (effect_or (λ e. at_pool (pool_visit lists place e)) o)
      go None there = tt
      go (Some e) there = from_row (facts_of lists) set t (pool_inferred t neighbours) row.row (pool_visit lists place e) row.tells
          (matches row.row e row.is there)
  from_place set t first neighbours BaseLane place row matches = go (slice_get lists.base place) refl
    where
      go : (o : Option BaseEntry) → slice_get lists.base place ≡ o →
          Filled set t first neighbours (effect_or (λ e. at_base (base_visit lists place e)) o)
      go None there = tt
      go (Some e) there = matches (base_inferred set t neighbours) e row there
  from_place set t first neighbours (CpuLane c) place row matches = go (slice_get (cpu_list lists c) place) refl
    where
      go : (o : Option CpuEntry) → slice_get (cpu_list lists c) place ≡ o →
          Filled set t first neighbours (effect_or (λ e. at_cpu (cpu_visit lists c place e)) o)
      go None there = tt
      go (Some e) there = matches (cpu_row set t first neighbours) e row there

  -- ---- the visible part of a step is that of its visit

  lane_shown : (lane : LaneId) (place : ℕ) → IsThere (effect_at lists lane place) →
      sign_of (effect_at lists lane place) ≡ lane_sign lane place
  lane_shown PoolLane place there = go (slice_get lists.pool place) there
    where
      go : (o : Option PoolEntry) → IsThere (effect_or (λ e. at_pool (pool_visit lists place e)) o) →
          sign_of (effect_or (λ e. at_pool (pool_visit lists place e)) o) ≡ lane_sign PoolLane place
      go None there = absurd there
      go (Some e) there = refl
  lane_shown BaseLane place there = go (slice_get lists.base place) there
    where
      go : (o : Option BaseEntry) → IsThere (effect_or (λ e. at_base (base_visit lists place e)) o) →
          sign_of (effect_or (λ e. at_base (base_visit lists place e)) o) ≡ lane_sign BaseLane place
      go None there = absurd there
      go (Some e) there = refl
  lane_shown (CpuLane c) place there = go (slice_get (cpu_list lists c) place) there
    where
      go : (o : Option CpuEntry) → IsThere (effect_or (λ e. at_cpu (cpu_visit lists c place e)) o) →
          sign_of (effect_or (λ e. at_cpu (cpu_visit lists c place e)) o) ≡ lane_sign (CpuLane c) place
      go None there = absurd there
      go (Some e) there = refl

  shown : (step : Step) → IsThere (effect_of lists step) → sign_of (effect_of lists step) ≡ step_sign step
  shown (Look g) there = refl
  shown (Marked mark) there = lane_shown mark.lane mark.place there

  first_is : (steps : List Step) → AllThere (effects_of lists steps) → first_sign (effects_of lists steps) ≡ first_shown steps
  first_is [] there = refl
  first_is (step ∷ steps) there = shown step there.0

  -- ---- one line

  module _ (set : Setting) (tell : Neighbours → Telling) (first : Sign) where
    abbrev Tells : Neighbours → Effect → Type 0
    Tells neighbours d = Filled set (tell neighbours) first neighbours d

    abbrev between : Sign → Sign → Sign → Neighbours
    between a b following = record { second_before = a; before = b; following = following }

    to_steps : (a b : Sign) (steps : List Step) → AllRows (RowConforms inferred set tell first) a b steps →
        AllThere (effects_of lists steps) → AllFill Tells a b (effects_of lists steps) → AllByRecursion StepMatches steps
    to_steps a b [] rows there fill = tt
    to_steps a b (step ∷ steps) rows there fill =
        let here : Tells (between a b (first_shown steps)) (effect_of lists step) =
        subst (λ s. Tells (between a b s) (effect_of lists step)) (first_is steps there.1) fill.0 in
        let more : AllFill Tells b (step_sign step) (effects_of lists steps) =
        subst (λ s. AllFill Tells b s (effects_of lists steps)) (shown step there.0) fill.1 in
        (one step rows.0 here, to_steps b (step_sign step) steps rows.1 there.1 more)
      where
        one : (step : Step) → RowConforms inferred set tell first (between a b (first_shown steps)) step →
            Tells (between a b (first_shown steps)) (effect_of lists step) → StepMatches step
        one (Look g) row fills = tt
        one (Marked mark) row fills =
            let neighbours : Neighbours = between a b (first_shown steps) in
            to_place set (tell neighbours) first neighbours mark.lane mark.place row fills

    from_steps : (a b : Sign) (steps : List Step) → AllRows (RowConforms inferred set tell first) a b steps →
        AllThere (effects_of lists steps) → AllByRecursion StepMatches steps → AllFill Tells a b (effects_of lists steps)
    from_steps a b [] rows there all = tt
    from_steps a b (step ∷ steps) rows there all = (
      subst (λ s. Tells (between a b s) (effect_of lists step)) (sym (first_is steps there.1)) (one step rows.0 all.0),
      subst (λ s. AllFill Tells b s (effects_of lists steps)) (sym (shown step there.0))
          (from_steps b (step_sign step) steps rows.1 there.1 all.1),
    )
      where
        one : (step : Step) → RowConforms inferred set tell first (between a b (first_shown steps)) step →
            StepMatches step → Tells (between a b (first_shown steps)) (effect_of lists step)
        one (Look g) row matches = tt
        one (Marked mark) row matches =
            let neighbours : Neighbours = between a b (first_shown steps) in
            from_place set (tell neighbours) first neighbours mark.lane mark.place row matches

  abbrev pub LineThere : SeenLine → Type 0
  LineThere line = AllThere (effects_of lists line.steps)

  abbrev pub LineMatches : SeenLine → Type 0
  LineMatches line = AllByRecursion StepMatches line.steps

  -- each visit of a line has the inferred entry; `tell` gives the line's kind from the steps around the visit
  abbrev LineTells : Setting → (Neighbours → Telling) → List Step → Type 0
  LineTells set tell steps =
      AllFill (Tells set tell (first_sign (effects_of lists steps))) nowhere nowhere (effects_of lists steps)

  to_line : (set : Setting) (tell : Neighbours → Telling) (steps : List Step) → LineRows inferred set tell steps →
      AllThere (effects_of lists steps) → LineTells set tell steps → AllByRecursion StepMatches steps
  to_line set tell steps rows there fill =
      to_steps set tell (first_shown steps) nowhere nowhere steps rows there
      (subst (λ s. AllFill (Tells set tell s) nowhere nowhere (effects_of lists steps)) (first_is steps there) fill)

  from_line : (set : Setting) (tell : Neighbours → Telling) (steps : List Step) → LineRows inferred set tell steps →
      AllThere (effects_of lists steps) → AllByRecursion StepMatches steps → LineTells set tell steps
  from_line set tell steps rows there all =
      subst (λ s. AllFill (Tells set tell s) nowhere nowhere (effects_of lists steps)) (sym (first_is steps there))
      (from_steps set tell (first_shown steps) nowhere nowhere steps rows there all)

  -- ---- the lines of a call

  to_acts : (set : Setting) (acts : List BoundAct) → AllByRecursion (ActRows inferred set) acts →
      AllByRecursion (λ bound. LineThere bound.line) acts → AllByRecursion (ActFills lists set) acts →
      AllByRecursion (λ bound. LineMatches bound.line) acts
  to_acts set [] rows there fill = tt
  to_acts set (bound ∷ acts) rows there fill = (
    to_line set (λ neighbours. act_telling bound.act) bound.line.steps rows.0 there.0 fill.0,
    to_acts set acts rows.1 there.1 fill.1,
  )

  from_acts : (set : Setting) (acts : List BoundAct) → AllByRecursion (ActRows inferred set) acts →
      AllByRecursion (λ bound. LineThere bound.line) acts → AllByRecursion (λ bound. LineMatches bound.line) acts →
      AllByRecursion (ActFills lists set) acts
  from_acts set [] rows there all = tt
  from_acts set (bound ∷ acts) rows there all = (
    from_line set (λ neighbours. act_telling bound.act) bound.line.steps rows.0 there.0 all.0,
    from_acts set acts rows.1 there.1 all.1,
  )

  to_call : (set : Setting) (call : Call) → CallRows inferred set call → OfCall LineThere call → CallFills lists set call →
      OfCall LineMatches call
  to_call set (alone event line) rows there fill = to_line set (λ neighbours. telling set event) line.steps rows there fill
  to_call set (vread_call n flags line acts) rows there fill =
      (to_line set (part_telling n) line.steps rows.0 there.0 fill.0, to_acts set acts rows.1 there.1 fill.1)
  to_call set (unbound bound) rows there fill = to_line set (λ neighbours. silent) bound.line.steps rows there fill
  to_call set (ending line) rows there fill = to_line set (λ neighbours. ends) line.steps rows there fill

  from_call : (set : Setting) (call : Call) → CallRows inferred set call → OfCall LineThere call → OfCall LineMatches call →
      CallFills lists set call
  from_call set (alone event line) rows there all = from_line set (λ neighbours. telling set event) line.steps rows there all
  from_call set (vread_call n flags line acts) rows there all =
      (from_line set (part_telling n) line.steps rows.0 there.0 all.0, from_acts set acts rows.1 there.1 all.1)
  from_call set (unbound bound) rows there all = from_line set (λ neighbours. silent) bound.line.steps rows there all
  from_call set (ending line) rows there all = from_line set (λ neighbours. ends) line.steps rows there all

  pub to_calls : (set : Setting) (calls : List Call) → CallsRows inferred set calls → AllByRecursion (OfCall LineThere) calls →
      CallsFill lists set calls → AllByRecursion (OfCall LineMatches) calls
  to_calls set [] rows there fill = tt
  to_calls set (call ∷ calls) rows there fill = (
    to_call set call rows.0 there.0 fill.0,
    to_calls (setting_after_call set call) calls rows.1 there.1 fill.1,
  )

  pub from_calls : (set : Setting) (calls : List Call) → CallsRows inferred set calls →
      AllByRecursion (OfCall LineThere) calls → AllByRecursion (OfCall LineMatches) calls → CallsFill lists set calls
  from_calls set [] rows there all = tt
  from_calls set (call ∷ calls) rows there all = (
    from_call set call rows.0 there.0 all.0,
    from_calls (setting_after_call set call) calls rows.1 there.1 all.1,
  )
